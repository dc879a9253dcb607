-- A record that a task has cut, or whose barrier it sent, is one whose barrier it took.
use Rattle.ckpt_chain.proofs.Names.{◌≡◌, ℕ, Bool, true, false, List, [], ◌∷◌, refl, sym, ap, ◌∙◌, subst, inl, inr, ◌⊎◌, ⊎_elim, cond, arith, ◌&&◌, ◌==◌, nat_lt, slice_get, Option, Some}
use Rattle.ckpt_chain.proofs.Names.{None, Ok, list_any, cond_both, common_steps, none-some, same_Some, IsIn, IsIn-append_cases, IsIn-append_left, IsIn-append_right, Alignment, all_released}
use Rattle.ckpt_chain.proofs.Names.{held_for, is_aligning, is_late, is_open, with_input, Input, Open, Held, Item, Element, Barrier, End, Action, Reads, GivesUp, Sends, Ends, after}
use Rattle.ckpt_chain.proofs.Names.{answer_to, barriers, cut_as, cut_by, has_cut, is_number, is_taken, sent, sent_by, taken, taken_by, Stepped, barrier, give_up, if_open, settled}
use Rattle.ckpt_chain.proofs.Names.{element_reads-other, give_up_cuts_not, is_number-Some, reads_cut-element}
use Rattle.ckpt_align.specs.declared.event.Answer.TheVariants as answer
use Rattle.ckpt_align.specs.declared.event.Event.TheVariants as event
use Rattle.ckpt_align.specs.declared.input.Input.TheVariants.{Ended}
use Rattle.ckpt_align.specs.Steps.{step}

-- ONE STEP

-- The latest record is what it was, or that of a barrier which was taken.
abbrev Latest : Alignment → ℕ → Stepped → Type 0
Latest a n s = (s.0.latest ≡ a.latest) ⊎ ((s.0.latest ≡ n) × (is_taken s.1 ≡ true))

-- A cut is of the latest record.
abbrev Cuts : Stepped → Type 0
Cuts s = (n : ℕ) → cut_as s.1 ≡ Some n → s.0.latest ≡ n

-- what holds of each way in which a step ends holds of the step

settled_cases : (P : Stepped → Type 0) (b : Alignment) → P (b, Ok answer.Wait) → P (all_released b, Ok (answer.Cut b.latest)) → P (b, Ok answer.Nothing) → P (settled b)
unfolding settled
settled_cases P b waits cuts nothing =
    cond_both (is_aligning b) (cond (list_any is_open b.inputs) (b, Ok answer.Wait) (all_released b, Ok (answer.Cut b.latest))) (b, Ok answer.Nothing) P
    (λ _. cond_both (list_any is_open b.inputs) (b, Ok answer.Wait) (all_released b, Ok (answer.Cut b.latest)) P (λ _. waits) (λ _. cuts))
    (λ _. nothing)

barrier_cases : (P : Stepped → Type 0) (a : Alignment) (i n : ℕ) → P (a, Ok answer.Late) → P (held_for (all_released a) i n, Ok (answer.Abandon a.latest)) → P (settled (held_for a i n))
    → P (barrier a i n)
unfolding barrier
barrier_cases P a i n late abandons settles =
    cond_both (is_late a n) (a, Ok answer.Late) (cond (is_aligning a && nat_lt a.latest n) (held_for (all_released a) i n, Ok (answer.Abandon a.latest)) (settled (held_for a i n))) P
    (λ _. late)
    (λ _. cond_both (is_aligning a && nat_lt a.latest n) (held_for (all_released a) i n, Ok (answer.Abandon a.latest)) (settled (held_for a i n)) P (λ _. abandons) (λ _. settles))

settled_latest : (a b : Alignment) (n : ℕ) → b.latest ≡ n → Latest a n (settled b)
settled_latest a b n e = settled_cases (Latest a n) b (inr (e, refl)) (inr (e, refl)) (inr (e, refl))

settled_cuts : (b : Alignment) → Cuts (settled b)
settled_cuts b = settled_cases Cuts b (λ n e. absurd (none-some n e)) (λ n e. same_Some b.latest n e) (λ n e. absurd (none-some n e))

-- an end leaves the latest record
settled_stays : (b : Alignment) → (settled b).0.latest ≡ b.latest
settled_stays b = settled_cases (λ (s : Stepped). s.0.latest ≡ b.latest) b refl refl refl

barrier_latest : (a : Alignment) (i n : ℕ) → Latest a n (barrier a i n)
barrier_latest a i n = barrier_cases (Latest a n) a i n (inl refl) (inr (refl, refl)) (settled_latest a (held_for a i n) n refl)

barrier_cuts : (a : Alignment) (i n : ℕ) → Cuts (barrier a i n)
barrier_cuts a i n = barrier_cases Cuts a i n (λ m e. absurd (none-some m e)) (λ m e. absurd (none-some m e)) (settled_cuts (held_for a i n))

open_latest : (a : Alignment) (n : ℕ) (o : Option Input) (s : Stepped) → Latest a n s → Latest a n (if_open a o s)
open_latest a n None s k = inl refl
open_latest a n (Some Open) s k = k
open_latest a n (Some Held) s k = inl refl
open_latest a n (Some Ended) s k = inl refl

open_cuts : (a : Alignment) (o : Option Input) (s : Stepped) → Cuts s → Cuts (if_open a o s)
open_cuts a None s k n e = absurd (none-some n e)
open_cuts a (Some Open) s k n e = k n e
open_cuts a (Some Held) s k n e = absurd (none-some n e)
open_cuts a (Some Ended) s k n e = absurd (none-some n e)

open_stays : (a : Alignment) (o : Option Input) (s : Stepped) → s.0.latest ≡ a.latest → (if_open a o s).0.latest ≡ a.latest
open_stays a None s k = refl
open_stays a (Some Open) s k = k
open_stays a (Some Held) s k = refl
open_stays a (Some Ended) s k = refl

give_up_stays : (a : Alignment) (n : ℕ) → (give_up a n).0.latest ≡ a.latest
unfolding give_up
give_up_stays a n =
    cond_both (is_aligning a && (n == a.latest)) (all_released a, Ok (answer.Abandon n)) (a, Ok answer.Nothing) (λ (s : Stepped). s.0.latest ≡ a.latest) (λ _. refl) (λ _. refl)

-- AN ACTION

-- the barrier of this record is among what was taken
abbrev IsAmong : ℕ → (ℕ → List Item) → Type 0
IsAmong n items = (i : ℕ) × IsIn (Barrier n) (items i)

taken_one : (i : ℕ) (is : Bool) (item : Item) → is ≡ true → IsIn item (cond ((i == i) && is) (item ∷ []) [])
taken_one i is item e = grind (arith, common_steps)

barrier_came : (a : Alignment) (i n : ℕ) (s : Stepped) → s ≡ step a (event.Barrier i n) → Latest a n s
    → (s.0.latest ≡ a.latest) ⊎ IsAmong s.0.latest (λ j. taken_by j a (Reads i (Barrier n)))
barrier_came a i n s is (inl e) = inl e
barrier_came a i n s is (inr k) =
    inr (
      i,
      subst (λ (m : ℕ). IsIn (Barrier m) (taken_by i a (Reads i (Barrier n)))) (sym k.0)
          (taken_one i (is_taken (answer_to a i (Barrier n))) (Barrier n) (ap (λ (t : Stepped). is_taken t.1) (sym is) ∙ k.1)),
    )

came_by : (a : Alignment) (action : Action) → ((after a action).latest ≡ a.latest) ⊎ IsAmong (after a action).latest (λ j. taken_by j a action)
unfolding step
came_by a (Reads i (Element x)) = inl (ap (λ (b : Alignment). b.latest) (element_reads-other a (slice_get a.inputs i)))
came_by a (Reads i (Barrier n)) = barrier_came a i n (step a (event.Barrier i n)) refl (open_latest a n (slice_get a.inputs i) (barrier a i n) (barrier_latest a i n))
came_by a (Reads i End) = inl (open_stays a (slice_get a.inputs i) (settled (with_input a i Ended)) (settled_stays (with_input a i Ended)))
came_by a (GivesUp id) = inl (give_up_stays a id)
came_by a (Sends output x) = inl refl
came_by a Ends = inl refl

cut_is_latest : (a : Alignment) (action : Action) (n : ℕ) → cut_by a action ≡ Some n → (after a action).latest ≡ n
unfolding step
cut_is_latest a (Reads i (Element x)) n e = absurd (reads_cut-element a i x n e)
cut_is_latest a (Reads i (Barrier m)) n e = open_cuts a (slice_get a.inputs i) (barrier a i m) (barrier_cuts a i m) n e
cut_is_latest a (Reads i End) n e = open_cuts a (slice_get a.inputs i) (settled (with_input a i Ended)) (settled_cuts (with_input a i Ended)) n e
cut_is_latest a (GivesUp id) n e = absurd (give_up_cuts_not a id n e)
cut_is_latest a (Sends output x) n e = absurd (none-some n e)
cut_is_latest a Ends n e = absurd (none-some n e)

-- LISTS OF ACTIONS

-- the latest record at the beginning, or one whose barrier was taken
abbrev Came : ℕ → Alignment → List Action → Type 0
Came n a actions = (a.latest ≡ n) ⊎ IsAmong n (λ j. taken j a actions)

came_later : (n : ℕ) (a : Alignment) (action : Action) (actions : List Action) → Came n (after a action) actions → Came n a (action ∷ actions)
came_later n a action actions (inr k) = inr (k.0, IsIn-append_right (Barrier n) (taken_by k.0 a action) (taken k.0 (after a action) actions) k.1)
came_later n a action actions (inl e) =
    ⊎_elim
    (λ (k : (after a action).latest ≡ a.latest). inl (sym k ∙ e))
    (λ (k : IsAmong (after a action).latest (λ j. taken_by j a action)).
    inr (
      k.0,
      IsIn-append_left (Barrier n) (taken_by k.0 a action) (taken k.0 (after a action) actions)
          (subst (λ (m : ℕ). IsIn (Barrier m) (taken_by k.0 a action)) e k.1),
    ))
    (came_by a action)

cut_came : (n : ℕ) (a : Alignment) (action : Action) (actions : List Action) → cut_by a action ≡ Some n → Came n a (action ∷ actions)
cut_came n a action actions e = came_later n a action actions (inl (cut_is_latest a action n e))

cut_first : (n : ℕ) (a : Alignment) (action : Action) (actions : List Action) (b : Bool) → b ≡ is_number n (cut_by a action) → cond b true (has_cut n (after a action) actions) ≡ true
    → (has_cut n (after a action) actions ≡ true → Came n (after a action) actions) → Came n a (action ∷ actions)
cut_first n a action actions true is e later = cut_came n a action actions (is_number-Some n (cut_by a action) (sym is))
cut_first n a action actions false is e later = came_later n a action actions (later e)

pub came-from_cut : (n : ℕ) (a : Alignment) (actions : List Action) → has_cut n a actions ≡ true → Came n a actions
came-from_cut n a [] e = absurd cc
came-from_cut n a (Reads i item ∷ actions) e = cut_first n a (Reads i item) actions (is_number n (cut_by a (Reads i item))) refl e (λ k. came-from_cut n (after a (Reads i item)) actions k)
came-from_cut n a (GivesUp id ∷ actions) e = cut_first n a (GivesUp id) actions (is_number n (cut_by a (GivesUp id))) refl e (λ k. came-from_cut n (after a (GivesUp id)) actions k)
came-from_cut n a (Sends output x ∷ actions) e = cut_first n a (Sends output x) actions (is_number n (cut_by a (Sends output x))) refl e (λ k. came-from_cut n (after a (Sends output x)) actions k)
came-from_cut n a (Ends ∷ actions) e = absurd cc

-- a barrier that an action puts on an output is of its cut

among_barriers : (n : ℕ) (o : Option ℕ) → IsIn (Barrier n) (barriers o) → o ≡ Some n
among_barriers n None h = absurd h
among_barriers n (Some m) (inl e) = let same : n ≡ m = cc in ap Some (sym same)
among_barriers n (Some m) (inr none) = absurd none

no_element : (n x : ℕ) (b : Bool) → IsIn (Barrier n) (cond b (Element x ∷ []) []) → ⊥
no_element n x true (inl e) = cc
no_element n x true (inr none) = none
no_element n x false none = none

sent_cut : (n c : ℕ) (a : Alignment) (action : Action) → IsIn (Barrier n) (sent_by c a action) → cut_by a action ≡ Some n
sent_cut n c a (Reads i item) h = among_barriers n (cut_by a (Reads i item)) h
sent_cut n c a (GivesUp id) h = among_barriers n (cut_by a (GivesUp id)) h
sent_cut n c a (Sends output x) h = absurd (no_element n x (output == c) h)
sent_cut n c a Ends (inl e) = absurd (no_end e)
  where
    no_end : Barrier n ≡ End → ⊥
    no_end k = cc
sent_cut n c a Ends (inr none) = absurd none

pub came-from_sent : (n c : ℕ) (a : Alignment) (actions : List Action) → IsIn (Barrier n) (sent c a actions) → Came n a actions
came-from_sent n c a [] h = absurd h
came-from_sent n c a (action ∷ actions) h =
    ⊎_elim
    (λ (k : IsIn (Barrier n) (sent_by c a action)). cut_came n a action actions (sent_cut n c a action k))
    (λ (k : IsIn (Barrier n) (sent c (after a action) actions)). came_later n a action actions (came-from_sent n c (after a action) actions k))
    (IsIn-append_cases (Barrier n) (sent_by c a action) (sent c (after a action) actions) h)
