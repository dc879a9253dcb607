-- At a cut, what was taken from each input stops the record.
use Rattle.ckpt_align.proofs.Names.{◌≡◌, ◌≢◌, ℕ, ◌<◌, Bool, true, false, ◌&&◌, List, [], ◌∷◌, ◌++◌, ◌∙◌, length, map, refl, sym, ap, subst, arith, cases_Bool, common_steps, append-nil, append_assoc, Option, Result, Ok, Some, None, slice_get, list_any}
use Rattle.ckpt_align.proofs.Names.{Input, Open, Held, Ended, Alignment, is_open, is_late, released, is_aligning, held_for, with_input, opened, Item, Element, Barrier, End, Action, Reads, GivesUp, Sends, Ends}
use Rattle.ckpt_align.proofs.Names.{after, answer_to, before, cut_as, cut_by, elements, event_of, is_taken, replay, taken, taken_by}
use Rattle.ckpt_align.proofs.ItemLemmas.{Stops, elements-append}
use Rattle.ckpt_ids.proofs.PlaceLemmas.{some_at}
use Rattle.ckpt_align.proofs.InputLemmas.{any-get, length-replicate}
use Rattle.ckpt_align.proofs.Fitting.{Fits, FitsAs, opened_fits, action_fits, not_late-latest, barrier_by, held_fits-same, held_fits-other, ended_fits-same, ended_fits-other, above_not}
use Rattle.ckpt_align.proofs.Fitting.{taken-same, taken-other, taken_always, element_reads-other}
unfoldable use Rattle.ckpt_align.proofs.Fitting.{settled_by, give_up_by}
use Rattle.ckpt_align.specs.Laws.{LocalCut}
use Rattle.ckpt_align.specs.declared.event.Answer.{Answer}
use Rattle.ckpt_align.specs.declared.event.Answer.TheVariants.{Cut}
use Rattle.ckpt_align.specs.declared.event.Refusal.{Refusal}
use Rattle.std.proofs.Common.{⊎_elim}
use Rattle.std.proofs.lemmas.Bool.Decides.{eqb_tells}
use Rattle.ckpt_align.specs.Steps.{settled, barrier, give_up, step, if_open, element}
use Rattle.std.proofs.lemmas.List.{length-set, length-map}
use Rattle.std.specs.Prelude.{nat_lt, ◌==◌}

-- an alignment without an open input, while a record is aligned
stops_as : (a : Alignment) (s : Input) (c : List Item) → is_aligning a ≡ true → is_open s ≡ false → FitsAs a s c → Stops a.latest c
stops_as a Open c aligning none h = grind (arith, common_steps)
stops_as a Held c aligning none h = h.0
stops_as a Ended c aligning none h = h a.latest (not_late-latest a aligning)

settled_cut_by : (a : Alignment) (n : ℕ) (aligning left : Bool) → cut_as (settled_by a aligning left).1 ≡ Some n → (aligning ≡ true) × (left ≡ false) × (n ≡ a.latest)
unfolding settled_by
settled_cut_by a n true true e = grind (arith, common_steps)
settled_cut_by a n true false e = grind (arith, common_steps)
settled_cut_by a n false left e = grind (arith, common_steps)

pub settled_cut : (a : Alignment) (n : ℕ) → cut_as (settled a).1 ≡ Some n → (is_aligning a ≡ true) × (list_any is_open a.inputs ≡ false) × (n ≡ a.latest)
unfolding settled settled_by
settled_cut a n e = settled_cut_by a n (is_aligning a) (list_any is_open a.inputs) e

not_open : (a : Alignment) (j : ℕ) (s : Input) → list_any is_open a.inputs ≡ false → slice_get a.inputs j ≡ Some s → is_open s ≡ false
not_open a j s none at = grind (arith, common_steps, any-get is_open a.inputs j s at, cases_Bool (is_open s))

settled_stops : (j n : ℕ) (a : Alignment) (c : List Item) → cut_as (settled a).1 ≡ Some n → Fits j a c → j < length a.inputs → Stops n c
settled_stops j n a c e h within =
    let cut = settled_cut a n e in
    let its = some_at a.inputs j within in
    let At : ℕ → Type 0 = λ m. Stops m c in
    subst At (sym cut.2) (stops_as a its.0 c cut.0 (not_open a j its.0 cut.1 its.1) (h its.0 its.1))

-- a barrier
barrier_cut_by : (a : Alignment) (i m n : ℕ) (late above : Bool) → cut_as (barrier_by a i m late above).1 ≡ Some n → (late ≡ false) × (above ≡ false) × (cut_as (settled (held_for a i m)).1 ≡ Some n)
barrier_cut_by a i m n true above e = grind (arith, common_steps)
barrier_cut_by a i m n false true e = grind (arith, common_steps)
barrier_cut_by a i m n false false e = (refl, refl, e)

pub barrier_cut : (a : Alignment) (i m n : ℕ) → cut_as (barrier a i m).1 ≡ Some n → (is_late a m ≡ false) × ((is_aligning a && nat_lt a.latest m) ≡ false) × (cut_as (settled (held_for a i m)).1 ≡ Some n)
unfolding barrier
barrier_cut a i m n e = barrier_cut_by a i m n (is_late a m) (is_aligning a && nat_lt a.latest m) e

barrier_stops-same : (i m n : ℕ) (a : Alignment) (c : List Item) → cut_as (barrier a i m).1 ≡ Some n → slice_get a.inputs i ≡ Some Open → Fits i a c → i < length a.inputs → Stops n (c ++ Barrier m ∷ [])
barrier_stops-same i m n a c e at h within =
    let cut = barrier_cut a i m n e in
    settled_stops i n (held_for a i m) (c ++ Barrier m ∷ []) cut.2 (held_fits-same i m a c cut.0 at h) (rw (length-set a.inputs i Held) within)

barrier_stops-other : (i j m n : ℕ) (a : Alignment) (c : List Item) → cut_as (barrier a i m).1 ≡ Some n → i ≢ j → Fits j a c → j < length a.inputs → Stops n c
barrier_stops-other i j m n a c e other h within =
    let cut = barrier_cut a i m n e in
    settled_stops j n (held_for a i m) c cut.2 (held_fits-other i j m a c other cut.0 (above_not a m cut.0 cut.1) h) (rw (length-set a.inputs i Held) within)

-- the end
end_stops-same : (i n : ℕ) (a : Alignment) (c : List Item) → cut_as (settled (with_input a i Ended)).1 ≡ Some n → slice_get a.inputs i ≡ Some Open → Fits i a c → i < length a.inputs → Stops n (c ++ End ∷ [])
end_stops-same i n a c e at h within = settled_stops i n (with_input a i Ended) (c ++ End ∷ []) e (ended_fits-same i a c at h) (rw (length-set a.inputs i Ended) within)

end_stops-other : (i j n : ℕ) (a : Alignment) (c : List Item) → cut_as (settled (with_input a i Ended)).1 ≡ Some n → i ≢ j → Fits j a c → j < length a.inputs → Stops n c
end_stops-other i j n a c e other h within = settled_stops j n (with_input a i Ended) c e (ended_fits-other i j a c other h) (rw (length-set a.inputs i Ended) within)

-- each item
element_cuts_not : (a : Alignment) (o : Option Input) (n : ℕ) → cut_as (element a o).1 ≡ Some n → ⊥
element_cuts_not a None n e = grind (arith, common_steps)
element_cuts_not a (Some Open) n e = grind (arith, common_steps)
element_cuts_not a (Some Held) n e = grind (arith, common_steps)
element_cuts_not a (Some Ended) n e = grind (arith, common_steps)

if_open_cut : (a : Alignment) (o : Option Input) (s : Alignment × Result Answer Refusal) (n : ℕ) → cut_as (if_open a o s).1 ≡ Some n → (o ≡ Some Open) × (cut_as s.1 ≡ Some n)
if_open_cut a None s n e = grind (arith, common_steps)
if_open_cut a (Some Open) s n e = (refl, e)
if_open_cut a (Some Held) s n e = grind (arith, common_steps)
if_open_cut a (Some Ended) s n e = grind (arith, common_steps)

cut_taken : (answer : Result Answer Refusal) (n : ℕ) → cut_as answer ≡ Some n → is_taken answer ≡ true
cut_taken (Ok (Cut id)) n e = refl
cut_taken answer n e = grind (arith, common_steps)

pub reads_cut-element : (a : Alignment) (i x n : ℕ) → cut_as (answer_to a i (Element x)) ≡ Some n → ⊥
unfolding step
reads_cut-element a i x n e = element_cuts_not a (slice_get a.inputs i) n e

pub reads_cut-barrier : (a : Alignment) (i m n : ℕ) → cut_as (answer_to a i (Barrier m)) ≡ Some n → (slice_get a.inputs i ≡ Some Open) × (cut_as (barrier a i m).1 ≡ Some n)
unfolding step
reads_cut-barrier a i m n e = if_open_cut a (slice_get a.inputs i) (barrier a i m) n e

pub reads_cut-end : (a : Alignment) (i n : ℕ) → cut_as (answer_to a i End) ≡ Some n → (slice_get a.inputs i ≡ Some Open) × (cut_as (settled (with_input a i Ended)).1 ≡ Some n)
unfolding step
reads_cut-end a i n e = if_open_cut a (slice_get a.inputs i) (settled (with_input a i Ended)) n e

reads_stops-same : (i n : ℕ) (item : Item) (a : Alignment) (c : List Item) → cut_as (answer_to a i item) ≡ Some n → Fits i a c → i < length a.inputs → Stops n (c ++ item ∷ [])
reads_stops-same i n (Element x) a c e h within = absurd (reads_cut-element a i x n e)
reads_stops-same i n (Barrier m) a c e h within = let cut = reads_cut-barrier a i m n e in barrier_stops-same i m n a c cut.1 cut.0 h within
reads_stops-same i n End a c e h within = let cut = reads_cut-end a i n e in end_stops-same i n a c cut.1 cut.0 h within

reads_stops-other : (i j n : ℕ) (item : Item) (a : Alignment) (c : List Item) → cut_as (answer_to a i item) ≡ Some n → i ≢ j → Fits j a c → j < length a.inputs → Stops n c
reads_stops-other i j n (Element x) a c e other h within = absurd (reads_cut-element a i x n e)
reads_stops-other i j n (Barrier m) a c e other h within = barrier_stops-other i j m n a c (reads_cut-barrier a i m n e).1 other h within
reads_stops-other i j n End a c e other h within = end_stops-other i j n a c (reads_cut-end a i n e).1 other h within

-- a record that is given up is not cut
give_up_cuts_not_by : (a : Alignment) (id n : ℕ) (is_now : Bool) → cut_as (give_up_by id a is_now).1 ≡ Some n → ⊥
unfolding give_up_by
give_up_cuts_not_by a id n true e = grind (arith, common_steps)
give_up_cuts_not_by a id n false e = grind (arith, common_steps)

pub give_up_cuts_not : (a : Alignment) (id n : ℕ) → cut_by a (GivesUp id) ≡ Some n → ⊥
unfolding step give_up give_up_by
give_up_cuts_not a id n e = give_up_cuts_not_by a id n (is_aligning a && (id == a.latest)) e

-- the action that is the cut stops the record on each input
pub cut_stops : (j n : ℕ) (a : Alignment) (action : Action) (c : List Item) → cut_by a action ≡ Some n → Fits j a c → j < length a.inputs → Stops n (c ++ taken_by j a action)
cut_stops j n a (Reads i item) c e h within = ⊎_elim (λ k. cut_same k.1) (λ k. cut_other k.1) (eqb_tells i j)
  where
    cut_same : i ≡ j → Stops n (c ++ taken_by j a (Reads i item))
    cut_same same =
        let At : ℕ → Type 0 = λ k. Fits k a c → k < length a.inputs → Stops n (c ++ taken_by k a (Reads i item)) in
        subst At same (λ f w. rw (taken-same i item a, taken_always (answer_to a i item) item (cut_taken (answer_to a i item) n e)) (reads_stops-same i n item a c e f w)) h within

    cut_other : i ≢ j → Stops n (c ++ taken_by j a (Reads i item))
    cut_other other = rw (taken-other i j item a other) (rw (append-nil c) (reads_stops-other i j n item a c e other h within))
cut_stops j n a (GivesUp id) c e h within = absurd (give_up_cuts_not a id n e)
cut_stops j n a (Sends output x) c e h within = grind (arith, common_steps)
cut_stops j n a Ends c e h within = grind (arith, common_steps)

-- and takes no element
cut_takes_none-reads : (j n : ℕ) (a : Alignment) (i : ℕ) (item : Item) → cut_as (answer_to a i item) ≡ Some n → elements (taken_by j a (Reads i item)) ≡ []
cut_takes_none-reads j n a i (Element x) e = absurd (reads_cut-element a i x n e)
cut_takes_none-reads j n a i (Barrier m) e = grind (arith, common_steps, cases_Bool (i == j), cases_Bool (is_taken (answer_to a i (Barrier m))))
cut_takes_none-reads j n a i End e = grind (arith, common_steps, cases_Bool (i == j), cases_Bool (is_taken (answer_to a i End)))

pub cut_takes_none : (j n : ℕ) (a : Alignment) (action : Action) → cut_by a action ≡ Some n → elements (taken_by j a action) ≡ []
cut_takes_none j n a (Reads i item) e = cut_takes_none-reads j n a i item e
cut_takes_none j n a (GivesUp id) e = refl
cut_takes_none j n a (Sends output x) e = refl
cut_takes_none j n a Ends e = refl

-- no action changes how many inputs there are
length-settled_by : (a : Alignment) (aligning left : Bool) → length (settled_by a aligning left).0.inputs ≡ length a.inputs
unfolding settled_by
length-settled_by a true true = refl
length-settled_by a true false = length-map a.inputs released
length-settled_by a false left = refl

length-settled : (a : Alignment) → length (settled a).0.inputs ≡ length a.inputs
unfolding settled settled_by
length-settled a = length-settled_by a (is_aligning a) (list_any is_open a.inputs)

length-barrier_by : (a : Alignment) (i n : ℕ) (late above : Bool) → length (barrier_by a i n late above).0.inputs ≡ length a.inputs
length-barrier_by a i n true above = refl
length-barrier_by a i n false true = length-set (map released a.inputs) i Held ∙ length-map a.inputs released
length-barrier_by a i n false false = length-settled (held_for a i n) ∙ length-set a.inputs i Held

length-barrier : (a : Alignment) (i n : ℕ) → length (barrier a i n).0.inputs ≡ length a.inputs
unfolding barrier
length-barrier a i n = length-barrier_by a i n (is_late a n) (is_aligning a && nat_lt a.latest n)

length-give_up_by : (a : Alignment) (n : ℕ) (is_now : Bool) → length (give_up_by n a is_now).0.inputs ≡ length a.inputs
unfolding give_up_by
length-give_up_by a n true = length-map a.inputs released
length-give_up_by a n false = refl

length-if_open : (a : Alignment) (o : Option Input) (s : Alignment × Result Answer Refusal) → length s.0.inputs ≡ length a.inputs → length (if_open a o s).0.inputs ≡ length a.inputs
length-if_open a None s e = refl
length-if_open a (Some Open) s e = e
length-if_open a (Some Held) s e = refl
length-if_open a (Some Ended) s e = refl

length-reads : (a : Alignment) (i : ℕ) (item : Item) → length (step a (event_of i item)).0.inputs ≡ length a.inputs
unfolding step
length-reads a i (Element x) = ap (λ (b : Alignment). length b.inputs) (element_reads-other a (slice_get a.inputs i))
length-reads a i (Barrier n) = length-if_open a (slice_get a.inputs i) (barrier a i n) (length-barrier a i n)
length-reads a i End = length-if_open a (slice_get a.inputs i) (settled (with_input a i Ended)) (length-settled (with_input a i Ended) ∙ length-set a.inputs i Ended)

length-gives_up : (a : Alignment) (n : ℕ) → length (after a (GivesUp n)).inputs ≡ length a.inputs
unfolding step give_up give_up_by
length-gives_up a n = length-give_up_by a n (is_aligning a && (n == a.latest))

pub length-after : (a : Alignment) (action : Action) → length (after a action).inputs ≡ length a.inputs
length-after a (Reads i item) = length-reads a i item
length-after a (GivesUp id) = length-gives_up a id
length-after a (Sends output x) = refl
length-after a Ends = refl

-- the local law, from each alignment that fits
local_from : (actions : List Action) (a : Alignment) (c : List Item) (action : Action) (n j : ℕ) (rest : List Item) → Fits j a c → j < length a.inputs → cut_by (replay a actions) action ≡ Some n
    → before n (c ++ (taken j a (actions ++ action ∷ []) ++ rest)) ≡ elements c ++ elements (taken j a actions)
local_from [] a c action n j rest h within e =
    let stops : before n ((c ++ taken_by j a action) ++ rest) ≡ elements (c ++ taken_by j a action) = cut_stops j n a action c e h within rest in
    grind (arith, common_steps, append_assoc c (taken_by j a action) rest, append-nil, elements-append c (taken_by j a action), cut_takes_none j n a action e)
local_from (one ∷ actions) a c action n j rest h within e =
    let b : Alignment = after a one in
    let tail : List Item = taken j b (actions ++ action ∷ []) in
    let more = local_from actions b (c ++ taken_by j a one) action n j rest (action_fits j a one c h) (rw (length-after a one) within) e in
    grind (arith, common_steps, more, append_assoc c (taken_by j a one) (tail ++ rest), append_assoc (taken_by j a one) tail rest, elements-append c (taken_by j a one), elements-append (taken_by j a one) (taken j b actions), append_assoc (elements c) (elements (taken_by j a one)) (elements (taken j b actions)))

pub local_cut : (inputs : ℕ) (actions : List Action) (action : Action) (n j : ℕ) (rest : List Item) → LocalCut inputs actions action n j rest
local_cut inputs actions action n j rest e within =
    sym (local_from actions (opened inputs) [] action n j rest (opened_fits inputs j) (rw (length-replicate inputs Open) within) e)
