-- One turn of the code is one of `ckpt_once`.
use Rattle.ckpt_task.proofs.Names.{◌≡◌, ℕ, Bool, true, false, List, ◌∷◌, ◌++◌, ◌∙◌, refl, sym, ap, subst, arith, if◌then◌else◌, Option, Some, None, Ok, inl, inr, [], ◌==◌, ◌⊎◌, ◌≢◌, map}
use Rattle.ckpt_task.proofs.Names.{slice_get, both_ways, common_steps, Alignment, Item, Element, Barrier, End, Reads, after, answer_to, barriers, cut_as, elements, sent, element, step}
use Rattle.ckpt_task.proofs.Names.{Answer, Input, reads_cut-element, element_reads-other, Acts, Entry, Held, Writes, after_entries, entries, told_of, Emitted, Program, Turn, Offered}
use Rattle.ckpt_task.proofs.Names.{GivenUp, Drawn, Ended, acts, emitted_by, move_in, moves_in, on_output, sendings, state, with_one, Transaction, Saved, SinkAt, after_outcome, after_turn}
use Rattle.ckpt_task.proofs.Names.{At, IsSaved, IsToldAs, abandoned_in, cut_in, cut_of, emitted_in, is_held, is_unsaved, put_on, puts, Outcome, elements_barriers}
use Rattle.ckpt_align.specs.declared.event.Answer.TheVariants as answer
use Rattle.ckpt_align.specs.declared.event.Event.TheVariants as event
use Rattle.ckpt_align.specs.declared.input.Input.TheVariants as input
use Rattle.ckpt_task.specs.declared.turn.Outcome.TheVariants as outcome

-- an element is processed or held, and changes nothing in the aligner

element_answers_by : (a : Alignment) (o : Option Input) (one : Answer) → (element a o).1 ≡ Ok one → (one ≡ answer.Process) ⊎ (one ≡ answer.Hold)
element_answers_by a None one e = grind (arith, common_steps)
element_answers_by a (Some input.Open) one e = grind (arith, common_steps)
element_answers_by a (Some input.Held) one e = grind (arith, common_steps)
element_answers_by a (Some input.Ended) one e = grind (arith, common_steps)

pub element_answers : (a : Alignment) (i : ℕ) (one : Answer) → (step a (event.Element i)).1 ≡ Ok one → (one ≡ answer.Process) ⊎ (one ≡ answer.Hold)
unfolding step
element_answers a i one e = element_answers_by a (slice_get a.inputs i) one e

pub element_held : (a : Alignment) (i : ℕ) (one : Answer) → (step a (event.Element i)).1 ≡ Ok one → one ≢ answer.Process → (step a (event.Element i)).1 ≡ Ok answer.Hold
element_held a i one e not = by_answer (element_answers a i one e)
  where
    by_answer : (one ≡ answer.Process) ⊎ (one ≡ answer.Hold) → (step a (event.Element i)).1 ≡ Ok answer.Hold
    by_answer (inl is) = absurd (not is)
    by_answer (inr is) = e ∙ ap Ok is

pub element_stays : (a : Alignment) (i : ℕ) → (step a (event.Element i)).0 ≡ a
unfolding step
element_stays a i = element_reads-other a (slice_get a.inputs i)

pub element_cuts_not : (a : Alignment) (i x : ℕ) → cut_as (answer_to a i (Element x)) ≡ None
element_cuts_not a i x = by_option (cut_as (answer_to a i (Element x))) refl
  where
    by_option : (o : Option ℕ) → cut_as (answer_to a i (Element x)) ≡ o → o ≡ None
    by_option None e = refl
    by_option (Some n) e = absurd (reads_cut-element a i x n e)

-- what is put on an output

sends_by : (b : Bool) (x : ℕ) (items : List Item) (xs : List ℕ) → items ≡ map Element xs → (if b then Element x ∷ [] else []) ++ items ≡ map Element (if b then x ∷ xs else xs)
sends_by true x items xs e = ap (λ l. Element x ∷ l) e
sends_by false x items xs e = e

pub sent_sendings : (c : ℕ) (a : Alignment) (es : List Emitted) → sent c a (sendings es) ≡ map Element (on_output c es)
sent_sendings c a [] = refl
sent_sendings c a (e ∷ es) = sends_by (e.output == c) e.element (sent c a (sendings es)) (on_output c es) (sent_sendings c a es)

pub sent_element : (c : ℕ) (a : Alignment) (i x : ℕ) (es : List Emitted) → sent c a (Reads i (Element x) ∷ sendings es) ≡ map Element (on_output c es)
sent_element c a i x es = ap (λ o. barriers o ++ sent c (after a (Reads i (Element x))) (sendings es)) (element_cuts_not a i x) ∙ sent_sendings c (after a (Reads i (Element x))) es

pub element_put : (c : ℕ) (p : Program) (m : At) (i x : ℕ) → puts p m (Offered i (Element x)) c ≡ map Element (on_output c (emitted_by p m.state (move_in m.alignment (Offered i (Element x)))))
element_put c p m i x = sent_element c m.alignment i x (emitted_by p m.state (move_in m.alignment (Offered i (Element x))))

-- a turn that is a cut makes no move
pub cut_moves_none : (a : Alignment) (turn : Turn) (n : ℕ) → cut_of a turn ≡ Some n → move_in a turn ≡ None
cut_moves_none a (Offered i (Element x)) n e = absurd (reads_cut-element a i x n e)
cut_moves_none a (Offered i (Barrier m)) n e = refl
cut_moves_none a (Offered i End) n e = refl
cut_moves_none a (GivenUp id) n e = refl
cut_moves_none a Drawn n e = grind (arith, common_steps)
cut_moves_none a Ended n e = refl

-- what is saved at a cut is the state before it

cut_state : (p : Program) (m : At) (turn : Turn) (n : ℕ) → cut_of m.alignment turn ≡ Some n → state p m.state (moves_in m.alignment (turn ∷ [])) ≡ m.state
cut_state p m turn n e = ap (λ o. state p m.state (with_one o [])) (cut_moves_none m.alignment turn n e)

-- the ledger of a sink

writes_by : (b : Bool) (x : ℕ) (rest : List Entry) (xs : List ℕ) → rest ≡ map Writes xs → told_of None (elements (if b then Element x ∷ [] else [])) ++ rest ≡ map Writes (if b then x ∷ xs else xs)
writes_by true x rest xs e = ap (λ l. Writes x ∷ l) e
writes_by false x rest xs e = e

entries_sendings : (o : ℕ) (a : Alignment) (es : List Emitted) → entries o a (map Acts (sendings es)) ≡ map Writes (on_output o es)
entries_sendings o a [] = refl
entries_sendings o a (e ∷ es) = writes_by (e.output == o) e.element (entries o a (map Acts (sendings es))) (on_output o es) (entries_sendings o a es)

entries_turn : (p : Program) (s o : ℕ) (a : Alignment) (turn : Turn) → entries o a (map Acts (acts p s a turn)) ≡ told_of (cut_of a turn) [] ++ map Writes (on_output o (emitted_by p s (move_in a turn)))
entries_turn p s o a (Offered i item) = grind (arith, common_steps, entries_sendings, elements_barriers)
entries_turn p s o a (GivenUp id) = grind (arith, common_steps, elements_barriers)
entries_turn p s o a Drawn = grind (arith, common_steps, entries_sendings)
entries_turn p s o a Ended = grind (arith, common_steps)

outcome_enters : (o : ℕ) (h : Held) (one : Outcome) → is_unsaved one ≡ false → after_outcome o h one ≡ after_entries h (told_of (cut_in one) [] ++ map Writes (on_output o (emitted_in one)))
outcome_enters o h (outcome.Moved ones) e = refl
outcome_enters o h outcome.Held e = refl
outcome_enters o h outcome.Nothing e = refl
outcome_enters o h (outcome.Cut n) e = refl
outcome_enters o h (outcome.Unsaved id) e = absurd (both_ways true e refl)
outcome_enters o h (outcome.Abandoned id) e = refl

pub enters_turn : (p : Program) (m : SinkAt) (turn : Turn) (one : Outcome) → emitted_in one ≡ emitted_by p m.task.state (move_in m.task.alignment turn) → cut_in one ≡ cut_of m.task.alignment turn → is_unsaved one ≡ false
    → after_outcome m.output m.held one ≡ after_turn p m turn
enters_turn p m turn one emitted cut fresh = grind (arith, common_steps, entries_turn, outcome_enters)

-- after the snapshot of a cut the engine is told the same

-- the engine is told the same of both
pub record SaysSame (before now : Outcome) : Type 0 where
  pub emitted : emitted_in now ≡ emitted_in before
  pub put : (c : ℕ) → put_on c now ≡ put_on c before
  pub held : is_held now ≡ is_held before
  pub cut : cut_in now ≡ cut_in before
  pub abandoned : abandoned_in now ≡ abandoned_in before

same_self : (o : Outcome) → SaysSame o o
same_self o = record { emitted = refl; put = λ c. refl; held = refl; cut = refl; abandoned = refl }

unsaved_same : (n : ℕ) → SaysSame (outcome.Cut n) (outcome.Unsaved n)
unsaved_same n = record { emitted = refl; put = λ c. refl; held = refl; cut = refl; abandoned = refl }

is_same : (before now : Outcome) → now ≡ before → SaysSame before now
is_same before now e = subst (λ (o : Outcome). SaysSame before o) (sym e) (same_self before)

pub says_same : (before now : Outcome) → IsToldAs before now → SaysSame before now
says_same (outcome.Cut n) now (inl e) = is_same (outcome.Cut n) now e
says_same (outcome.Cut n) now (inr e) = subst (λ (o : Outcome). SaysSame (outcome.Cut n) o) (sym e) (unsaved_same n)
says_same (outcome.Moved ones) now e = is_same (outcome.Moved ones) now e
says_same outcome.Held now e = is_same outcome.Held now e
says_same outcome.Nothing now e = is_same outcome.Nothing now e
says_same (outcome.Unsaved id) now e = is_same (outcome.Unsaved id) now e
says_same (outcome.Abandoned id) now e = is_same (outcome.Abandoned id) now e

-- the snapshot
saved_as : (p : Program) (m now : At) (turn : Turn) (after : Outcome) (waiting : List Transaction) (old new : List Saved) → cut_in after ≡ cut_of m.alignment turn → now.state ≡ state p m.state (moves_in m.alignment (turn ∷ []))
    → IsSaved after now.state waiting old new → IsSaved after m.state waiting old new
saved_as p m now turn (outcome.Cut n) waiting old new cut is k = subst (λ s. IsSaved (outcome.Cut n) s waiting old new) (is ∙ cut_state p m turn n (sym cut)) k
saved_as p m now turn (outcome.Unsaved n) waiting old new cut is k = subst (λ s. IsSaved (outcome.Unsaved n) s waiting old new) (is ∙ cut_state p m turn n (sym cut)) k
saved_as p m now turn (outcome.Moved ones) waiting old new cut is k = k
saved_as p m now turn outcome.Held waiting old new cut is k = k
saved_as p m now turn outcome.Nothing waiting old new cut is k = k
saved_as p m now turn (outcome.Abandoned id) waiting old new cut is k = k

pub saved_before : (p : Program) (m now : At) (turn : Turn) (before after : Outcome) (waiting : List Transaction) (old new : List Saved) → IsToldAs before after → cut_in before ≡ cut_of m.alignment turn
    → now.state ≡ state p m.state (moves_in m.alignment (turn ∷ [])) → IsSaved after now.state waiting old new → IsSaved after m.state waiting old new
saved_before p m now turn before after waiting old new same cut is k = saved_as p m now turn after waiting old new ((says_same before after same).cut ∙ cut) is k
