-- Worked examples: a task that does not hold, one that has ended, and a restore of two subtasks to three. The expected values were written by hand.
use Rattle.std.specs.Prelude.{◌≡◌, ◌==◌, ◌+◌, ◌/◌, ◌%◌, ℕ, if◌then◌else◌, List, [], ◌∷◌, true, false, refl}
use Rattle.ckpt_align.specs.Alignment.{opened}
use Rattle.ckpt_align.specs.Histories.{Element, Barrier, End, Action, Reads, Ends, before_cut, elements, has_cut, taken}
use Rattle.ckpt_align.specs.Steps.{step, settled, barrier}
use Rattle.ckpt_other_cuts.specs.{Loose.let_through, Stops.EndsWithout, Stops.has_stop}
use Rattle.ckpt_other_cuts.specs.Rescaled.{Entry, KeyStates, Split, Vertex, after, emitted_for, its_own, loaded, redistributed}

-- Input 0 has delivered the barrier of record 7, and input 1 has not. The task takes element 13 of input 0 all the same.
-- So its snapshot has 13, which comes again after a restart.
abbrev joined : List Action
joined = Reads 0 (Element 11) ∷ Reads 0 (Barrier 7) ∷ Reads 0 (Element 13) ∷ Reads 1 (Element 21) ∷ Reads 1 (Barrier 7) ∷ Reads 0 (Element 14) ∷ []

pub joined_lets : let_through 0 (opened 2) joined ≡ (Element 11 ∷ Barrier 7 ∷ Element 13 ∷ Element 14 ∷ [])
unfolding step barrier settled
joined_lets = refl

pub joined_too : elements (let_through 0 (opened 2) (before_cut 7 (opened 2) joined)) ≡ 11 ∷ 13 ∷ []
unfolding step barrier settled
joined_too = refl

-- A task ends with its input, before any barrier of record 7.
abbrev finished : List Action
finished = Reads 0 (Element 11) ∷ Reads 0 (Element 12) ∷ Reads 0 End ∷ Ends ∷ []

pub finished_cuts_none : has_cut 7 (opened 1) finished ≡ false
unfolding step barrier settled
finished_cuts_none = refl

pub finished_part : EndsWithout 7 (taken 0 (opened 1) (before_cut 7 (opened 1) finished))
unfolding step barrier settled
finished_part = (Element 11 ∷ Element 12 ∷ [], refl, refl)

-- With the barrier of record 7 among what it took, it has no part of that record: another task has cut it.
pub not_without : has_stop 7 (Element 11 ∷ Barrier 7 ∷ Element 12 ∷ []) ≡ true
not_without = refl

pub other_record : has_stop 7 (Element 11 ∷ Barrier 6 ∷ Element 12 ∷ []) ≡ false
other_record = refl

-- Two subtasks have the even and the odd keys. Three go on, by the remainder of the key.
abbrev split : ℕ → Split
split parallelism = record { parallelism = parallelism; owner = λ k. k % parallelism }

abbrev entry : ℕ → ℕ → Entry
entry key s = record { key = key; state = s }

abbrev parts : ℕ → List Entry
parts i = if i == 0 then entry 0 10 ∷ entry 2 12 ∷ [] else entry 1 11 ∷ entry 3 13 ∷ []

pub to_first : redistributed (split 2) (split 3) parts 0 ≡ entry 0 10 ∷ entry 3 13 ∷ []
to_first = refl

pub to_second : redistributed (split 2) (split 3) parts 1 ≡ entry 1 11 ∷ []
to_second = refl

pub to_third : redistributed (split 2) (split 3) parts 2 ≡ entry 2 12 ∷ []
to_third = refl

-- A subtask that reads the part of its own index alone loses key 3.
pub one_part_only : its_own (split 3) 0 (parts 0) ≡ entry 0 10 ∷ []
one_part_only = refl

-- The last digit of an element is its key, and the others are added to the key's sum, which is emitted.
abbrev sums : Vertex
sums = record { key = λ x. x % 10; start = λ k. 0; next = λ s x. s + x / 10; emits = λ s x. (s + x / 10) ∷ [] }

abbrev first : KeyStates
first = loaded sums (redistributed (split 2) (split 3) parts 0)

pub sum_of_3 : after sums first (53 ∷ 20 ∷ 43 ∷ []) 3 ≡ 22
sum_of_3 = refl

pub sum_of_0 : after sums first (53 ∷ 20 ∷ 43 ∷ []) 0 ≡ 12
sum_of_0 = refl

pub emitted_for_3 : emitted_for sums 3 first (53 ∷ 20 ∷ 43 ∷ []) ≡ 18 ∷ 22 ∷ []
emitted_for_3 = refl

-- A key that the record has no state of begins from its start.
pub new_key : after sums first (46 ∷ []) 6 ≡ 4
new_key = refl
