-- While an input is held, another one is open; and the records that are cut rise.
use Rattle.ckpt_align.proofs.Names.{◌≡◌, ℕ, ◌<◌, ◌≤◌, Bool, true, false, ◌&&◌, List, [], ◌∷◌, ◌++◌, ◌∙◌, refl, sym, ap, subst, zero, suc, arith, cases_Bool, common_steps, Option, Result, Some, None, slice_get, list_any, replicate}
use Rattle.ckpt_align.proofs.Names.{Input, Open, Held, Ended, Alignment, is_held, is_open, is_late, is_aligning, all_released, held_for, with_input, opened, Item, Element, Barrier, End, Action, Reads, GivesUp, Sends, Ends}
use Rattle.ckpt_align.proofs.Names.{after, answer_to, cut_as, cut_by, event_of, replay}
use Rattle.ckpt_align.proofs.InputLemmas.{none_held, open-from_held, held-from_ended}
use Rattle.ckpt_align.proofs.Fitting.{not_late_above, not_late-least, not_late-greater, not_late-released, not_late-latest, not_late-ended, barrier_by, above_is, element_reads-other}
use Rattle.ckpt_align.proofs.Cutting.{settled_cut, barrier_cut, reads_cut-element, reads_cut-barrier, reads_cut-end, give_up_cuts_not}
unfoldable use Rattle.ckpt_align.proofs.Fitting.{settled_by, give_up_by}
use Rattle.ckpt_align.specs.Laws.{CutsRise, GoesOn}
use Rattle.ckpt_align.specs.Steps.{settled, barrier, give_up, step, if_open}
use Rattle.ckpt_align.specs.declared.event.Answer.{Answer}
use Rattle.ckpt_align.specs.declared.event.Refusal.{Refusal}
use Rattle.std.specs.Prelude.{nat_lt, ◌==◌}

-- while an input is held, another one is open
abbrev HasOpen : Alignment → Type 0
HasOpen a = is_aligning a ≡ true → list_any is_open a.inputs ≡ true

none_held_yet : (inputs : ℕ) → list_any is_held (replicate inputs Open) ≡ false
none_held_yet zero = refl
none_held_yet (suc n) = grind (arith, common_steps, none_held_yet n)

opened_has : (inputs : ℕ) → HasOpen (opened inputs)
opened_has inputs e = grind (arith, common_steps, none_held_yet inputs)

released_has : (a : Alignment) → HasOpen (all_released a)
released_has a e = grind (arith, common_steps, none_held a.inputs)

settled_by_has : (a : Alignment) (aligning left : Bool) → is_aligning a ≡ aligning → list_any is_open a.inputs ≡ left → HasOpen (settled_by a aligning left).0
unfolding settled_by
settled_by_has a true true e f held = f
settled_by_has a true false e f held = released_has a held
settled_by_has a false left e f held = grind (arith, common_steps)

settled_has : (a : Alignment) → HasOpen (settled a).0
unfolding settled settled_by
settled_has a = settled_by_has a (is_aligning a) (list_any is_open a.inputs) refl refl

and_first : (a b : Bool) → (a && b) ≡ true → a ≡ true
and_first a b e = grind (arith, common_steps, cases_Bool a)

barrier_by_has : (a : Alignment) (i n : ℕ) (late above : Bool) → (is_aligning a && nat_lt a.latest n) ≡ above → slice_get a.inputs i ≡ Some Open → HasOpen a → HasOpen (barrier_by a i n late above).0
barrier_by_has a i n true above e at h = h
barrier_by_has a i n false true e at h = λ held. open-from_held a.inputs i (and_first (is_aligning a) (nat_lt a.latest n) e) at
barrier_by_has a i n false false e at h = settled_has (held_for a i n)

barrier_has : (a : Alignment) (i n : ℕ) → slice_get a.inputs i ≡ Some Open → HasOpen a → HasOpen (barrier a i n).0
unfolding barrier
barrier_has a i n at h = barrier_by_has a i n (is_late a n) (is_aligning a && nat_lt a.latest n) refl at h

if_open_has : (a : Alignment) (o : Option Input) (s : Alignment × Result Answer Refusal) → HasOpen a → (o ≡ Some Open → HasOpen s.0) → HasOpen (if_open a o s).0
if_open_has a None s h goes = h
if_open_has a (Some Open) s h goes = goes refl
if_open_has a (Some Held) s h goes = h
if_open_has a (Some Ended) s h goes = h

give_up_by_has : (a : Alignment) (n : ℕ) (is_now : Bool) → HasOpen a → HasOpen (give_up_by n a is_now).0
unfolding give_up_by
give_up_by_has a n true h = released_has a
give_up_by_has a n false h = h

reads_has : (a : Alignment) (i : ℕ) (item : Item) → HasOpen a → HasOpen (step a (event_of i item)).0
unfolding step
reads_has a i (Element x) h = rw (element_reads-other a (slice_get a.inputs i)) h
reads_has a i (Barrier n) h = if_open_has a (slice_get a.inputs i) (barrier a i n) h (λ at. barrier_has a i n at h)
reads_has a i End h = if_open_has a (slice_get a.inputs i) (settled (with_input a i Ended)) h (λ at. settled_has (with_input a i Ended))

gives_up_has : (a : Alignment) (n : ℕ) → HasOpen a → HasOpen (after a (GivesUp n))
unfolding step give_up give_up_by
gives_up_has a n h = give_up_by_has a n (is_aligning a && (n == a.latest)) h

after_has : (a : Alignment) (action : Action) → HasOpen a → HasOpen (after a action)
after_has a (Reads i item) h = reads_has a i item h
after_has a (GivesUp id) h = gives_up_has a id h
after_has a (Sends output x) h = h
after_has a Ends h = h

replay_has : (actions : List Action) (a : Alignment) → HasOpen a → HasOpen (replay a actions)
replay_has [] a h = h
replay_has (action ∷ actions) a h = replay_has actions (after a action) (after_has a action h)

pub goes_on : (inputs : ℕ) (actions : List Action) → GoesOn inputs actions
goes_on inputs actions = replay_has actions (opened inputs) (opened_has inputs)

-- a record that is not late after an action was not late before it

settled_by_late : (a : Alignment) (n : ℕ) (aligning left : Bool) → is_late (settled_by a aligning left).0 n ≡ false → is_late a n ≡ false
unfolding settled_by
settled_by_late a n true true e = e
settled_by_late a n true false e = not_late-greater a n (not_late-released a n e)
settled_by_late a n false left e = e

settled_late : (a : Alignment) (n : ℕ) → is_late (settled a).0 n ≡ false → is_late a n ≡ false
unfolding settled settled_by
settled_late a n e = settled_by_late a n (is_aligning a) (list_any is_open a.inputs) e

barrier_by_late : (a : Alignment) (i m n : ℕ) (late above : Bool) → is_late a m ≡ late → (is_aligning a && nat_lt a.latest m) ≡ above → is_late (barrier_by a i m late above).0 n ≡ false → is_late a n ≡ false
barrier_by_late a i m n true above l b e = e
barrier_by_late a i m n false true l b e =
    let least : m ≤ n = not_late-least (held_for (all_released a) i m) n e in
    let greater : a.latest < m = above_is a m b in
    not_late-greater a n (omega arith)
barrier_by_late a i m n false false l b e = not_late_above a m n l (not_late-least (held_for a i m) n (settled_late (held_for a i m) n e))

barrier_late : (a : Alignment) (i m n : ℕ) → is_late (barrier a i m).0 n ≡ false → is_late a n ≡ false
unfolding barrier
barrier_late a i m n e = barrier_by_late a i m n (is_late a m) (is_aligning a && nat_lt a.latest m) refl refl e

if_open_late : (a : Alignment) (n : ℕ) (o : Option Input) (s : Alignment × Result Answer Refusal) → (is_late s.0 n ≡ false → is_late a n ≡ false) → is_late (if_open a o s).0 n ≡ false → is_late a n ≡ false
if_open_late a n None s goes e = e
if_open_late a n (Some Open) s goes e = goes e
if_open_late a n (Some Held) s goes e = e
if_open_late a n (Some Ended) s goes e = e

give_up_by_late : (a : Alignment) (m n : ℕ) (is_now : Bool) → is_late (give_up_by m a is_now).0 n ≡ false → is_late a n ≡ false
unfolding give_up_by
give_up_by_late a m n true e = not_late-greater a n (not_late-released a n e)
give_up_by_late a m n false e = e

reads_late : (a : Alignment) (i n : ℕ) (item : Item) → is_late (step a (event_of i item)).0 n ≡ false → is_late a n ≡ false
unfolding step
reads_late a i n (Element x) e = rw (element_reads-other a (slice_get a.inputs i)) at e
reads_late a i n (Barrier m) e = if_open_late a n (slice_get a.inputs i) (barrier a i m) (barrier_late a i m n) e
reads_late a i n End e = if_open_late a n (slice_get a.inputs i) (settled (with_input a i Ended)) (λ k. not_late-ended a i n (settled_late (with_input a i Ended) n k)) e

gives_up_late : (a : Alignment) (m n : ℕ) → is_late (after a (GivesUp m)) n ≡ false → is_late a n ≡ false
unfolding step give_up give_up_by
gives_up_late a m n e = give_up_by_late a m n (is_aligning a && (m == a.latest)) e

after_late : (a : Alignment) (n : ℕ) (action : Action) → is_late (after a action) n ≡ false → is_late a n ≡ false
after_late a n (Reads i item) e = reads_late a i n item e
after_late a n (GivesUp id) e = gives_up_late a id n e
after_late a n (Sends output x) e = e
after_late a n Ends e = e

replay_late : (actions : List Action) (a : Alignment) (n : ℕ) → is_late (replay a actions) n ≡ false → is_late a n ≡ false
replay_late [] a n e = e
replay_late (action ∷ actions) a n e = after_late a n action (replay_late actions (after a action) n e)

-- a record that is cut was not late, and is late from then on

settled_cut_late_by : (a : Alignment) (n : ℕ) (aligning left : Bool) → cut_as (settled_by a aligning left).1 ≡ Some n → is_late (settled_by a aligning left).0 n ≡ true
unfolding settled_by
settled_cut_late_by a n true true e = grind (arith, common_steps)
settled_cut_late_by a n true false e = grind (arith, common_steps, none_held a.inputs)
settled_cut_late_by a n false left e = grind (arith, common_steps)

settled_cut_late : (a : Alignment) (n : ℕ) → cut_as (settled a).1 ≡ Some n → is_late (settled a).0 n ≡ true
unfolding settled settled_by
settled_cut_late a n e = settled_cut_late_by a n (is_aligning a) (list_any is_open a.inputs) e

barrier_cut_late_by : (a : Alignment) (i m n : ℕ) (late above : Bool) → cut_as (barrier_by a i m late above).1 ≡ Some n → is_late (barrier_by a i m late above).0 n ≡ true
barrier_cut_late_by a i m n true above e = grind (arith, common_steps)
barrier_cut_late_by a i m n false true e = grind (arith, common_steps)
barrier_cut_late_by a i m n false false e = settled_cut_late (held_for a i m) n e

barrier_cut_late : (a : Alignment) (i m n : ℕ) → cut_as (barrier a i m).1 ≡ Some n → is_late (barrier a i m).0 n ≡ true
unfolding barrier
barrier_cut_late a i m n e = barrier_cut_late_by a i m n (is_late a m) (is_aligning a && nat_lt a.latest m) e

if_open_cut_late : (a : Alignment) (n : ℕ) (o : Option Input) (s : Alignment × Result Answer Refusal) → cut_as (if_open a o s).1 ≡ Some n → (cut_as s.1 ≡ Some n → is_late s.0 n ≡ true) → is_late (if_open a o s).0 n ≡ true
if_open_cut_late a n None s e goes = grind (arith, common_steps)
if_open_cut_late a n (Some Open) s e goes = goes e
if_open_cut_late a n (Some Held) s e goes = grind (arith, common_steps)
if_open_cut_late a n (Some Ended) s e goes = grind (arith, common_steps)

reads_cut_late : (a : Alignment) (i n : ℕ) (item : Item) → cut_as (answer_to a i item) ≡ Some n → is_late (step a (event_of i item)).0 n ≡ true
unfolding step
reads_cut_late a i n (Element x) e = absurd (reads_cut-element a i x n e)
reads_cut_late a i n (Barrier m) e = if_open_cut_late a n (slice_get a.inputs i) (barrier a i m) e (barrier_cut_late a i m n)
reads_cut_late a i n End e = if_open_cut_late a n (slice_get a.inputs i) (settled (with_input a i Ended)) e (settled_cut_late (with_input a i Ended) n)

cut_late : (a : Alignment) (n : ℕ) (action : Action) → cut_by a action ≡ Some n → is_late (after a action) n ≡ true
cut_late a n (Reads i item) e = reads_cut_late a i n item e
cut_late a n (GivesUp id) e = absurd (give_up_cuts_not a id n e)
cut_late a n (Sends output x) e = grind (arith, common_steps)
cut_late a n Ends e = grind (arith, common_steps)

reads_cut_not_late : (a : Alignment) (i n : ℕ) (item : Item) → cut_as (answer_to a i item) ≡ Some n → is_late a n ≡ false
reads_cut_not_late a i n (Element x) e = absurd (reads_cut-element a i x n e)
reads_cut_not_late a i n (Barrier m) e =
    let cut = barrier_cut a i m n (reads_cut-barrier a i m n e).1 in
    let IsNot : ℕ → Type 0 = λ k. is_late a k ≡ false in
    subst IsNot (sym (settled_cut (held_for a i m) n cut.2).2) cut.0
reads_cut_not_late a i n End e =
    let cut = settled_cut (with_input a i Ended) n (reads_cut-end a i n e).1 in
    let IsNot : ℕ → Type 0 = λ k. is_late a k ≡ false in
    subst IsNot (sym cut.2) (not_late-latest a (held-from_ended a.inputs i cut.0))

cut_not_late : (a : Alignment) (n : ℕ) (action : Action) → cut_by a action ≡ Some n → is_late a n ≡ false
cut_not_late a n (Reads i item) e = reads_cut_not_late a i n item e
cut_not_late a n (GivesUp id) e = absurd (give_up_cuts_not a id n e)
cut_not_late a n (Sends output x) e = grind (arith, common_steps)
cut_not_late a n Ends e = grind (arith, common_steps)

late_below : (a : Alignment) (n m : ℕ) → is_late a n ≡ true → is_late a m ≡ false → n < m
late_below a n m e f = grind (arith, common_steps, cases_Bool (is_aligning a))

replay-append : (a : Alignment) (actions : List Action) (action : Action) (more : List Action) → replay a (actions ++ action ∷ more) ≡ replay (after (replay a actions) action) more
replay-append a [] action more = refl
replay-append a (one ∷ actions) action more = replay-append (after a one) actions action more

pub cuts_rise : (inputs : ℕ) (actions : List Action) (first : Action) (between : List Action) (second : Action) → CutsRise inputs actions first between second
cuts_rise inputs actions first between second n m e f =
    let a : Alignment = replay (opened inputs) actions in
    let b : Alignment = after a first in
    let g : cut_by (replay b between) second ≡ Some m = ap (λ (k : Alignment). cut_by k second) (sym (replay-append (opened inputs) actions first between)) ∙ f in
    late_below b n m (cut_late a n first e) (replay_late between b m (cut_not_late (replay b between) m second g))
