-- No answer of the layer depends on the order in which files were fetched.
use Rattle.ckpt_terms.proofs.Imports.{◌≡◌, ℕ, ◌+◌, ◌^◌, true, false, not, ◌&&◌, ◌||◌, ltb, eqb, List, [], ◌∷◌, ◌++◌, refl, sym, ap, subst, ◌∙◌, ⊎_elim, Option, Some, None, cond, cases_Bool}
use Rattle.ckpt_terms.proofs.Imports.{both_ways, or_cases, Answer, Done, Refused, ascending, IsIn, uses, is_present, IsIn-append_cases, IsIn-append_left, IsIn-append_right, IsIn-from_in_order}
use Rattle.ckpt_terms.proofs.Imports.{IsIn-from_test, State, is_known, in_outbox, is_cancelled, IsSound, Stepped, step, AreAlike, GoesOnAs, CanHold, settled, go_on_alike, settled_can_hold}
use Rattle.ckpt_terms.proofs.Imports.{settled_alike, FencedCall, Reserve, Forfeit, Make, Advance, FencedRefusal, OldTerm, Ended, BadCount, NamesUsedUp, FencedAnswer, Fenced, ends_the_term}
use Rattle.ckpt_terms.proofs.Imports.{is_accepted, fence, unspent_after, after_call, advanced, restart, FencedStepped, made, unless_fenced, fenced_step, fenced_replay, IsFenced}
use Rattle.ckpt_terms.proofs.Imports.{fenced_answers, fenced_settled, AreFencedAlike, FencedGoesOnAs, CanHoldFenced, IsFencedCut}
use Rattle.ckpt_terms.proofs.{Fences.fenced_replay-append, Known.known-from_outbox, Known.known-from_present, TermLemmas.layer}
use Rattle.ckpt_terms.specs.declared.call.FencedAnswer.TheVariants as answer

-- alike by their parts
alike_by : (m n : Fenced) → AreAlike m.core n.core → m.term ≡ n.term → m.next_name ≡ n.next_name → m.unspent ≡ n.unspent → AreFencedAlike m n
alike_by m n core term next unspent =
    ap (λ (s : State). layer s m.term m.next_name m.unspent) core
    ∙ ap (λ (t : ℕ). layer (settled n.core) t m.next_name m.unspent) term
    ∙ ap (λ (x : ℕ). layer (settled n.core) n.term x m.unspent) next
    ∙ ap (λ (xs : List ℕ). layer (settled n.core) n.term n.next_name xs) unspent

-- the layer with another coordinator's state
abbrev over : Fenced → State → Fenced
over m k = layer k m.term m.next_name m.unspent

fence_same : (m : Fenced) (k : State) (call : FencedCall) → AreAlike m.core k → fence m call ≡ fence (over m k) call
fence_same m k (Reserve term count) e =
    let rest : Option FencedRefusal = cond (eqb count 0 || ltb (2 ^ 16) count) (Some BadCount) (cond (ltb (2 ^ 62) (m.next_name + count)) (Some NamesUsedUp) None) in
    ap (λ (s : State). cond (not (eqb term m.term)) (Some OldTerm) (cond (is_cancelled s.mode) (Some Ended) rest)) e
fence_same m k (Forfeit term names) e = refl
fence_same m k (Make term call) e = refl
fence_same m k (Advance now term first) e = refl

-- both give the same answer, and are alike after it
record StepsAs (x y : FencedStepped) : Type 0 where
  answer : x.1 ≡ y.1
  state : AreFencedAlike x.0 y.0

-- an advance over alike steps
advanced_alike : (m : Fenced) (k : State) (now term first : ℕ) (s t : Stepped) → AreAlike s.0 t.0 → s.1 ≡ t.1
    → AreFencedAlike (advanced m now term first s) (advanced (over m k) now term first t)
    × ((advanced m now term first s).term ≡ (advanced (over m k) now term first t).term)
advanced_alike m k now term first (n, Done reply) (o, b) alike same =
    let x : Fenced = advanced m now term first (n, Done reply) in
    let Both : Answer → Type 0 = λ a. let y : Fenced = advanced (over m k) now term first (o, a) in AreFencedAlike x y × (x.term ≡ y.term) in
    subst Both same (alike_by x (advanced (over m k) now term first (o, Done reply)) alike refl refl refl, refl)
advanced_alike m k now term first (n, Refused why) (o, b) alike same =
    let x : Fenced = advanced m now term first (n, Refused why) in
    let Both : Answer → Type 0 = λ a. let y : Fenced = advanced (over m k) now term first (o, a) in AreFencedAlike x y × (x.term ≡ y.term) in
    subst Both same (alike_by x (advanced (over m k) now term first (o, Refused why)) alike refl refl refl, refl)

made_alike : (m : Fenced) (k : State) (call : FencedCall) → AreAlike m.core k → StepsAs (made m call) (made (over m k) call)
made_alike m k (Reserve term count) e = record { answer = refl; state = alike_by (made m (Reserve term count)).0 (made (over m k) (Reserve term count)).0 e refl refl refl }
made_alike m k (Forfeit term names) e = record { answer = refl; state = alike_by (made m (Forfeit term names)).0 (made (over m k) (Forfeit term names)).0 e refl refl refl }
made_alike m k (Make term call) e =
    let s : Stepped = step m.core call in
    let t : Stepped = step k call in
    let g : GoesOnAs m.core k (call ∷ []) = go_on_alike m.core k (call ∷ []) e in
    let same : s.1 ≡ t.1 = cc g.answers in
    record {
      answer = ap (λ (a : Answer). answer.Made (cond (is_accepted a && ends_the_term call) (m.term + 1) m.term) a) same;
      state = alike_by (after_call m call s) (after_call (over m k) call t) g.state
          (ap (λ (a : Answer). cond (is_accepted a && ends_the_term call) (m.term + 1) m.term) same)
          refl
          (ap (λ (a : Answer). cond (is_accepted a) (unspent_after m.unspent call) m.unspent) same);
    }
made_alike m k (Advance now term first) e =
    let s : Stepped = step m.core (restart now) in
    let t : Stepped = step k (restart now) in
    let g : GoesOnAs m.core k (restart now ∷ []) = go_on_alike m.core k (restart now ∷ []) e in
    let same : s.1 ≡ t.1 = cc g.answers in
    let both = advanced_alike m k now term first s t g.state same in
    record {
      answer = ap (λ (n : ℕ). answer.Made n s.1) both.1 ∙ ap (λ (a : Answer). answer.Made (advanced (over m k) now term first t).term a) same;
      state = both.0;
    }

step_over : (m : Fenced) (k : State) (call : FencedCall) → AreAlike m.core k → StepsAs (fenced_step m call) (fenced_step (over m k) call)
unfolding fenced_step
step_over m k call e =
    let At : Option FencedRefusal → Type 0 = λ o. StepsAs (unless_fenced m call (fence m call)) (unless_fenced (over m k) call o) in
    subst At (fence_same m k call e) (by_fence (fence m call))
  where
    by_fence : (o : Option FencedRefusal) → StepsAs (unless_fenced m call o) (unless_fenced (over m k) call o)
    by_fence (Some why) = record { answer = refl; state = alike_by m (over m k) e refl refl refl }
    by_fence None = made_alike m k call e

step_alike : (m n : Fenced) (call : FencedCall) → AreFencedAlike m n → StepsAs (fenced_step m call) (fenced_step n call)
step_alike m n call e =
    let core : AreAlike m.core n.core = ap (λ (x : Fenced). x.core) e in
    let same : over m n.core ≡ n =
    ap (λ (t : ℕ). layer n.core t m.next_name m.unspent) (ap (λ (x : Fenced). x.term) e)
    ∙ ap (λ (f : ℕ). layer n.core n.term f m.unspent) (ap (λ (x : Fenced). x.next_name) e)
    ∙ ap (λ (xs : List ℕ). layer n.core n.term n.next_name xs) (ap (λ (x : Fenced). x.unspent) e) in
    let As : Fenced → Type 0 = λ k. StepsAs (fenced_step m call) (fenced_step k call) in
    subst As same (step_over m n.core call core)

-- the law
pub goes_on_alike : (m n : Fenced) (calls : List FencedCall) → AreFencedAlike m n → FencedGoesOnAs m n calls
goes_on_alike m n [] e = record { answers = refl; state = e }
goes_on_alike m n (call ∷ calls) e =
    let x : FencedStepped = fenced_step m call in
    let y : FencedStepped = fenced_step n call in
    let s : StepsAs x y = step_alike m n call e in
    let r : FencedGoesOnAs x.0 y.0 calls = goes_on_alike x.0 y.0 calls s.state in
    record {
      answers = ap (λ (a : FencedAnswer). a ∷ fenced_answers x.0 calls) s.answer ∙ ap (λ (bs : List FencedAnswer). y.1 ∷ bs) r.answers;
      state = r.state;
    }

-- a log in two parts
answers-append : (m : Fenced) (before after : List FencedCall) → fenced_answers m (before ++ after) ≡ fenced_answers m before ++ fenced_answers (fenced_replay m before) after
answers-append m [] after = refl
answers-append m (call ∷ before) after = ap (λ (bs : List FencedAnswer). (fenced_step m call).1 ∷ bs) (answers-append (fenced_step m call).0 before after)

pub fenced_settled_alike : (m : Fenced) → AreFencedAlike m (fenced_settled m)
fenced_settled_alike m = alike_by m (fenced_settled m) (settled_alike m.core) refl refl refl

pub fenced_cut : (m : Fenced) (before after : List FencedCall) → IsFencedCut m before after
fenced_cut m before after =
    let n : Fenced = fenced_replay m before in
    let same : FencedGoesOnAs n (fenced_settled n) after = goes_on_alike n (fenced_settled n) after (fenced_settled_alike n) in
    let Alike : Fenced → Type 0 = λ k. AreFencedAlike k (fenced_replay (fenced_settled n) after) in
    record {
      answers = answers-append m before after ∙ ap (λ (bs : List FencedAnswer). fenced_answers m before ++ bs) same.answers;
      state = subst Alike (sym (fenced_replay-append m before after)) same.state;
    }

-- a file is known whatever the order
settled_known : (m : State) (f : ℕ) → is_known (settled m) f ≡ true → is_known m f ≡ true
settled_known m f h =
    ⊎_elim
    (λ (k : is_present (uses m.records) f ≡ true). known-from_present m f k)
    (λ (k : in_outbox (settled m) f ≡ true).
    known-from_outbox m f
    (⊎_elim
    (λ (i : IsIn f m.waiting). IsIn-append_left f m.waiting m.taken i)
    (λ (i : IsIn f (ascending m.taken)). IsIn-append_right f m.waiting m.taken (IsIn-from_in_order ltb f m.taken i))
    (IsIn-append_cases f m.waiting (ascending m.taken) (IsIn-from_test f (m.waiting ++ ascending m.taken) k))))
    (or_cases (is_present (uses m.records) f) (in_outbox (settled m) f) h)

pub settled_fenced : (m : Fenced) → IsSound (settled m.core) → IsFenced m → IsFenced (fenced_settled m)
settled_fenced m sound i = record {
  core = sound;
  term_from = i.term_from;
  term_to = i.term_to;
  names_from = i.names_from;
  names_to = i.names_to;
  known = λ f h. i.known f (settled_known m.core f h);
  reserved = i.reserved;
  apart = λ f h. ⊎_elim (λ (k : is_known (settled m.core) f ≡ true). absurd (both_ways (is_known m.core f) (i.apart f h) (settled_known m.core f k))) (λ (k : is_known (settled m.core) f ≡ false). k)
      (cases_Bool (is_known (settled m.core) f));
  ascending = i.ascending;
  ended = i.ended;
}

pub fenced_settled_can_hold : (m : Fenced) → CanHoldFenced m → CanHoldFenced (fenced_settled m)
fenced_settled_can_hold m h =
    let core : CanHold (settled m.core) = settled_can_hold m.core h.core in
    record { core = core; fenced = settled_fenced m core.sound h.fenced }
