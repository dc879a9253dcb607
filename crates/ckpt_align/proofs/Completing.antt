-- Once each open input has delivered a barrier, the record is cut.
use Rattle.ckpt_align.proofs.Names.{◌≡◌, ◌≢◌, ℕ, Bool, true, false, ◌&&◌, List, [], ◌∷◌, ◌++◌, ◌∙◌, map, refl, sym, ap, subst, zero, suc, arith, cases_Bool, common_steps, Option, Result, Ok, Some, None, slice_get, slice_set, list_any}
use Rattle.ckpt_align.proofs.Names.{Input, Open, Held, Ended, Alignment, is_held, is_open, is_late, is_aligning, all_released, held_for, opened, Barrier, Action, Reads, after, cut_by, cut_as, replay}
use Rattle.ckpt_align.proofs.InputLemmas.{get-set_same, get-set_other, any-get}
use Rattle.ckpt_align.proofs.Fitting.{barrier_by}
unfoldable use Rattle.ckpt_align.proofs.Fitting.{settled_by}
use Rattle.ckpt_align.specs.Laws.{AreTheOpen, ComesToCut}
use Rattle.ckpt_align.specs.Steps.{settled, barrier, step, if_open}
use Rattle.ckpt_align.specs.declared.event.Event.TheVariants as event
use Rattle.ckpt_align.specs.declared.event.Answer.{Answer}
use Rattle.ckpt_align.specs.declared.event.Answer.TheVariants.{Wait, Cut}
use Rattle.ckpt_align.specs.declared.event.Refusal.{Refusal}
use Rattle.ckpt_ids.specs.Ordered.{IsIn}
use Rattle.std.proofs.Common.{inl, inr, ⊎_elim}
use Rattle.std.specs.Prelude.{nat_lt}

-- the barrier of a record that is not late, and of none greater than one being aligned
if_open_at : (a : Alignment) (o : Option Input) (s : Alignment × Result Answer Refusal) → o ≡ Some Open → if_open a o s ≡ s
if_open_at a None s e = grind (arith, common_steps)
if_open_at a (Some Open) s e = refl
if_open_at a (Some Held) s e = grind (arith, common_steps)
if_open_at a (Some Ended) s e = grind (arith, common_steps)

barrier_by_settles : (a : Alignment) (i n : ℕ) (late above : Bool) → late ≡ false → above ≡ false → barrier_by a i n late above ≡ settled (held_for a i n)
barrier_by_settles a i n true above l b = grind (arith, common_steps)
barrier_by_settles a i n false true l b = grind (arith, common_steps)
barrier_by_settles a i n false false l b = refl

not_above : (a : Alignment) (n : ℕ) → (is_aligning a ≡ true → n ≡ a.latest) → (is_aligning a && nat_lt a.latest n) ≡ false
not_above a n same = grind (arith, common_steps, cases_Bool (is_aligning a))

step_settles : (a : Alignment) (i n : ℕ) → slice_get a.inputs i ≡ Some Open → is_late a n ≡ false → (is_aligning a ≡ true → n ≡ a.latest) → step a (event.Barrier i n) ≡ settled (held_for a i n)
unfolding step barrier
step_settles a i n at late same =
    if_open_at a (slice_get a.inputs i) (barrier a i n) at ∙ barrier_by_settles a i n (is_late a n) (is_aligning a && nat_lt a.latest n) late (not_above a n same)

settled_by_waits : (a : Alignment) (aligning left : Bool) → aligning ≡ true → left ≡ true → settled_by a aligning left ≡ (a, Ok Wait)
unfolding settled_by
settled_by_waits a true true e f = refl
settled_by_waits a true false e f = grind (arith, common_steps)
settled_by_waits a false left e f = grind (arith, common_steps)

settled_waits : (a : Alignment) → is_aligning a ≡ true → list_any is_open a.inputs ≡ true → settled a ≡ (a, Ok Wait)
unfolding settled settled_by
settled_waits a e f = settled_by_waits a (is_aligning a) (list_any is_open a.inputs) e f

settled_by_cuts : (a : Alignment) (aligning left : Bool) → aligning ≡ true → left ≡ false → settled_by a aligning left ≡ (all_released a, Ok (Cut a.latest))
unfolding settled_by
settled_by_cuts a true true e f = grind (arith, common_steps)
settled_by_cuts a true false e f = refl
settled_by_cuts a false left e f = grind (arith, common_steps)

settled_cuts : (a : Alignment) → is_aligning a ≡ true → list_any is_open a.inputs ≡ false → settled a ≡ (all_released a, Ok (Cut a.latest))
unfolding settled settled_by
settled_cuts a e f = settled_by_cuts a (is_aligning a) (list_any is_open a.inputs) e f

-- the inputs that are left

held_aligns : (a : Alignment) (i n : ℕ) → slice_get a.inputs i ≡ Some Open → is_aligning (held_for a i n) ≡ true
held_aligns a i n at = any-get is_held (slice_set a.inputs i Held) i Held (get-set_same a.inputs i Open Held at) refl

open_found : (xs : List Input) → list_any is_open xs ≡ true → (j : ℕ) × (slice_get xs j ≡ Some Open)
open_found [] e = grind (arith, common_steps)
open_found (Open ∷ xs) e = (zero, refl)
open_found (Held ∷ xs) e = let more = open_found xs e in (suc more.0, more.1)
open_found (Ended ∷ xs) e = let more = open_found xs e in (suc more.0, more.1)

-- an input that is open once another is held was open before, and is another
open_before : (xs : List Input) (i j : ℕ) → slice_get xs i ≡ Some Open → slice_get (slice_set xs i Held) j ≡ Some Open → (i ≢ j) × (slice_get xs j ≡ Some Open)
open_before xs i j at e =
    let other : i ≢ j = λ same. grind (arith, common_steps, get-set_same xs i Open Held at) in
    (other, sym (get-set_other xs i j Held other) ∙ e)

first_open : (a : Alignment) (i : ℕ) (others : List ℕ) → AreTheOpen a (i ∷ others) → slice_get a.inputs i ≡ Some Open
first_open a i others h = grind (arith, common_steps, h.1 i)

others_open : (a : Alignment) (i n : ℕ) (others : List ℕ) → AreTheOpen a (i ∷ others) → AreTheOpen (held_for a i n) others
others_open a i n others h = (h.0.1, λ j. (λ k. still_open j k, λ e. among_others j e))
  where
    still_open : (j : ℕ) → IsIn j others → slice_get (slice_set a.inputs i Held) j ≡ Some Open
    still_open j k =
        let IsOther : ℕ → Type 0 = λ x. IsIn x others in
        get-set_other a.inputs i j Held (λ e. h.0.0 (subst IsOther (sym e) k)) ∙ (h.1 j).0 (inr k)

    among_others : (j : ℕ) → slice_get (slice_set a.inputs i Held) j ≡ Some Open → IsIn j others
    among_others j e =
        let k = open_before a.inputs i j (first_open a i others h) e in
        ⊎_elim (λ same. absurd (k.0 (sym same))) (λ x. x) ((h.1 j).1 k.1)

none_left : (a : Alignment) (i n : ℕ) → AreTheOpen a (i ∷ []) → list_any is_open (held_for a i n).inputs ≡ false
none_left a i n h = ⊎_elim (λ e. absurd (found e)) (λ e. e) (cases_Bool (list_any is_open (slice_set a.inputs i Held)))
  where
    found : list_any is_open (slice_set a.inputs i Held) ≡ true → ⊥
    found e = let one = open_found (slice_set a.inputs i Held) e in ((others_open a i n [] h).1 one.0).1 one.1

last_is_in : (last : ℕ) (order : List ℕ) → IsIn last (order ++ last ∷ [])
last_is_in last [] = inl refl
last_is_in last (i ∷ order) = inr (last_is_in last order)

some_left : (a : Alignment) (i n last : ℕ) (order : List ℕ) → AreTheOpen a (i ∷ (order ++ last ∷ [])) → list_any is_open (held_for a i n).inputs ≡ true
some_left a i n last order h =
    any-get is_open (slice_set a.inputs i Held) last Open (((others_open a i n (order ++ last ∷ []) h).1 last).0 (last_is_in last order)) refl

-- the law
comes_from : (order : List ℕ) (a : Alignment) (n last : ℕ) → is_late a n ≡ false → (is_aligning a ≡ true → n ≡ a.latest) → AreTheOpen a (order ++ last ∷ [])
    → cut_by (replay a (map (λ i. Reads i (Barrier n)) order)) (Reads last (Barrier n)) ≡ Some n
comes_from [] a n last late same h =
    let at = first_open a last [] h in
    ap (λ (s : Alignment × Result Answer Refusal). cut_as s.1) (step_settles a last n at late same ∙ settled_cuts (held_for a last n) (held_aligns a last n at) (none_left a last n h))
comes_from (i ∷ order) a n last late same h =
    let at = first_open a i (order ++ last ∷ []) h in
    let b : Alignment = held_for a i n in
    let aligns = held_aligns a i n at in
    let is_b : after a (Reads i (Barrier n)) ≡ b = ap (λ (s : Alignment × Result Answer Refusal). s.0) (step_settles a i n at late same ∙ settled_waits b aligns (some_left a i n last order h)) in
    let Goal : Alignment → Type 0 = λ k. cut_by (replay k (map (λ i. Reads i (Barrier n)) order)) (Reads last (Barrier n)) ≡ Some n in
    subst Goal (sym is_b) (comes_from order b n last (grind (arith, common_steps, aligns)) (λ e. refl) (others_open a i n (order ++ last ∷ []) h))

pub comes_to_cut : (inputs : ℕ) (actions : List Action) (n last : ℕ) (order : List ℕ) → ComesToCut inputs actions n last order
comes_to_cut inputs actions n last order late same h = comes_from order (replay (opened inputs) actions) n last late same h
