-- The words of the laws, computed for two short lists of calls. The expected values were written by hand, from the rules.
use Rattle.ckpt_model.proofs.Names.{◌≡◌, ℕ, List, refl, true, false, [], ◌∷◌, SubtaskId, Call, Tick, Ack, Take, Deleted, Configuration, State, opened, step, step_computes, Part, ack_of}
use Rattle.ckpt_model.proofs.Names.{is_ack_pending, is_ack_taken, along, registered_by, handed_by, deleted_by, given_by, new_by, accepted_by}

-- a checkpoint each second, of which one is kept
abbrev usual : Configuration
usual = record { interval = 1000; pause = 0; at_once = 1; timeout = 600000; tolerable = 0; retained = 1; keep_on_cancel = false }

-- a job of this shape, started at 0 with the first number 1
abbrev opening : List ℕ → State
opening shape = opened (record { config = usual; shape = shape; start = 0; first = 1 })

-- a subtask of its one vertex
abbrev subtask : ℕ → SubtaskId
subtask index = record { vertex = 0; index = index }

-- The second checkpoint reuses file 7 of the first, and completes: the first goes, and file 8 with it. It is deleted, and then
-- named once more by a late acknowledgement.
abbrev two_checkpoints : List Call
two_checkpoints =
    Tick 1000 ∷ Ack 1000 1 (subtask 0) (7 ∷ 8 ∷ []) [] ∷ Tick 2000 ∷ Ack 2000 2 (subtask 0) (9 ∷ []) (7 ∷ [])
    ∷ Take 5 ∷ Deleted 8 ∷ Ack 2500 1 (subtask 0) (8 ∷ []) [] ∷ []

-- file 8 is registered twice
pub registered_are : along registered_by (opening (1 ∷ [])) two_checkpoints ≡ 7 ∷ 8 ∷ 9 ∷ 8 ∷ []
unfolding step_computes
registered_are = refl

-- and handed out twice; 7 and 9 are in use
pub handed_are : along handed_by (opening (1 ∷ [])) two_checkpoints ≡ 8 ∷ 8 ∷ []
unfolding step_computes
handed_are = refl

-- it was deleted once
pub deleted_are : along deleted_by (opening (1 ∷ [])) two_checkpoints ≡ 8 ∷ []
unfolding step_computes
deleted_are = refl

-- the late one does not report it as new
pub new_are : along new_by (opening (1 ∷ [])) two_checkpoints ≡ 7 ∷ 8 ∷ 9 ∷ []
unfolding step_computes
new_are = refl

-- two numbers
pub given_are : along given_by (opening (1 ∷ [])) two_checkpoints ≡ 1 ∷ 2 ∷ []
unfolding step_computes
given_are = refl

-- one acknowledgement of the second
pub accepted_are : along (accepted_by 2) (opening (1 ∷ [])) two_checkpoints ≡ record { subtask = subtask 0; files = 7 ∷ 9 ∷ [] } ∷ []
unfolding step_computes
accepted_are = refl

-- Two subtasks acknowledge the first checkpoint: the premises of the law of exchange hold.
abbrev part : ℕ → ℕ → Part
part index file = record { subtask = subtask index; fresh = file ∷ []; reused = [] }

-- the state in which it is pending
abbrev triggered_once : State
triggered_once = (step (opening (2 ∷ [])) (Tick 1000)).0

-- the first is answered AckPending
pub first_pending : is_ack_pending (step triggered_once (ack_of 1000 1 (part 0 7))).1 ≡ true
unfolding step_computes
first_pending = refl

-- and the second AckCompleted
pub second_taken : is_ack_taken (step (step triggered_once (ack_of 1000 1 (part 0 7))).0 (ack_of 1000 1 (part 1 8))).1 ≡ true
unfolding step_computes
second_taken = refl
