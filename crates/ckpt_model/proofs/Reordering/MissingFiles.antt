-- The missing subtasks of a pending record, each with the next file from a first one on, meet the conditions of the law of any order.
use Rattle.ckpt_model.proofs.Names.{◌≡◌, ℕ, ◌+◌, ◌≤◌, Bool, true, false, not, ◌&&◌, eqb, List, [], ◌∷◌, map, arith, find, Some, filter, enumerate_from, both_ways, not-true, SubtaskId, IsIn, IsInOrder}
use Rattle.ckpt_model.proofs.Names.{is_before, Record, has_acknowledged, subtasks, IsIn-from_filter, IsInOrder-filter, ComesBefore-at, IsInOrder-subtasks, is_subtask-from_IsIn, State, is_pending}
use Rattle.ckpt_model.proofs.Names.{record_of, pending_of, NewFile, AreApart, AreMissing, common_steps}
use Rattle.ckpt_model.proofs.Records.{IsIn-from_find}

-- the one that a test finds is found by a narrower test that it passes
find-narrower : {X : Type 0} (wide narrow : X → Bool) (x : X) (xs : List X) → ((y : X) → narrow y ≡ true → wide y ≡ true) → find wide xs ≡ Some x → narrow x ≡ true → find narrow xs ≡ Some x
find-narrower wide narrow x [] within found passes = grind (arith, common_steps)
find-narrower {X} wide narrow x (y ∷ ys) within found passes = grind (arith, common_steps, find-narrower wide narrow x ys within)

-- the record of a number, if it is pending
pub pending_record : (m : State) (id : ℕ) (r : Record) → record_of m id ≡ Some r → r.done ≡ false → pending_of m.records id ≡ Some r
pending_record m id r found pending = grind (arith, common_steps, find-narrower (λ x. eqb x.id id) (λ x. is_pending x && eqb x.id id) r m.records, IsIn-from_find (λ x. eqb x.id id) r m.records found)

-- the subtasks, each with the next file; the first of them is at this place
abbrev pub new_files : ℕ → ℕ → List SubtaskId → List NewFile
new_files first place missing = map (λ p. record { subtask = p.1; file = first + p.0 }) (enumerate_from place missing)

abbrev pub missing_of : Record → List SubtaskId
missing_of r = filter (λ s. not (has_acknowledged r s)) (subtasks r.shape)

-- each is one of the subtasks, with a file from the first one on
from_new_files : (first place : ℕ) (missing : List SubtaskId) (n : NewFile) → IsIn n (new_files first place missing) → IsIn n.subtask missing × (first + place ≤ n.file)
from_new_files first place [] n h = absurd h
from_new_files first place (s ∷ missing) n h = grind (arith, common_steps, from_new_files first (place + 1) missing n)

-- all different
pub apart_new_files : (first place : ℕ) (missing : List SubtaskId) → IsInOrder is_before missing → AreApart (new_files first place missing)
apart_new_files first place [] order = tt
apart_new_files first place (s ∷ missing) order = (
  λ o h. let files = from_new_files first (place + 1) missing o h in
      grind (arith, common_steps, files, ComesBefore-at, both_ways),
  apart_new_files first (place + 1) missing order.1,
)

pub apart_missing : (first : ℕ) (r : Record) → AreApart (new_files first 0 (missing_of r))
apart_missing first r = apart_new_files first 0 (missing_of r) (IsInOrder-filter is_before (λ s. not (has_acknowledged r s)) (subtasks r.shape) (IsInOrder-subtasks r.shape))

pub are_missing : (first : ℕ) (r : Record) → AreMissing r (new_files first 0 (missing_of r))
are_missing first r n h =
    let q = IsIn-from_filter (λ s. not (has_acknowledged r s)) n.subtask (subtasks r.shape) (from_new_files first 0 (missing_of r) n h).0 in
    (is_subtask-from_IsIn r.shape n.subtask q.0, not-true (has_acknowledged r n.subtask) q.1)
