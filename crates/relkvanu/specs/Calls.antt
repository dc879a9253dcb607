-- The state that a call through a handle leaves, and its answer.
use Rattle.std.specs.Prelude.{◌≡◌, ◌≢◌, ℕ, Bool, true, false, ◌==◌, if◌then◌else◌, List, [], ◌∷◌, Option, Some, None, is_none, Result, Err}
use Rattle.ckpt_ids.specs.{declared.subtask.SubtaskId.SubtaskId, declared.call.Call.Call, declared.call.Target.Target, declared.call.Target.TheVariants.Latest}
use Rattle.ckpt_ids.specs.{declared.call.Target.TheVariants.Savepoint, Ascending.ascending, Shapes.is_shape}
use Rattle.ckpt_ids.specs.declared.call.Call.TheVariants as call
use Rattle.ckpt_model.specs.{Memory.may_want_memory, State.State, Steps.step}
use Rattle.relkvanu.specs.{declared.answer.Answer.Answer, declared.handle.Handle.Handle}
use Rattle.relkvanu.specs.Told.{answer_told, is_closed, bad_argument, no_memory, out_of_memory}

-- a closed handle stays closed, and says so
abbrev pub StaysClosed : Option State → Option State → Answer → Type 0
StaysClosed old new answer = old ≡ None → (answer ≡ is_closed) × (new ≡ None)

-- the coordinator makes the step and returns its answer, however much memory there is
abbrev pub IsMade : Option State → Option State → Call → Answer → Type 0
IsMade old new call answer = (m : State) → old ≡ Some m → (new ≡ Some (step m call).0) × (answer ≡ answer_told (step m call).1)

-- the coordinator makes the step and returns its answer, unless memory ran out
abbrev pub IsAnswered : Option State → Option State → Call → Answer → Type 0
IsAnswered old new call answer =
    (m : State) → old ≡ Some m → answer.code ≢ no_memory → (new ≡ Some (step m call).0) × (answer ≡ answer_told (step m call).1)

-- the same, if the handle has no names
abbrev pub IsMadePlainly : Handle → Handle → Call → Answer → Type 0
IsMadePlainly old new call answer = old.names ≡ None → IsMade old.value new.value call answer

abbrev pub IsAnsweredPlainly : Handle → Handle → Call → Answer → Type 0
IsAnsweredPlainly old new call answer = old.names ≡ None → IsAnswered old.value new.value call answer

-- a step that a core has made, and its answer
abbrev pub IsStepTold : State → State → Call → Answer → Type 0
IsStepTold old new call answer = answer.code ≢ no_memory → (new ≡ (step old call).0) × (answer ≡ answer_told (step old call).1)

-- the bad argument because of which no call is made, unless memory ran out
abbrev pub IsWhyNoCall : Result Call ℕ → Answer → Type 0
IsWhyNoCall given answer = answer.code ≢ no_memory → (given ≡ Err answer.what) × (answer ≡ bad_argument answer.what)

-- the answer for out of memory has no numbers
abbrev pub HasNoNumbers : Answer → Type 0
HasNoNumbers answer = answer.code ≡ no_memory → answer ≡ out_of_memory

-- the calls that take no memory, whatever their answer is
abbrev pub takes_no_memory : Call → Bool
takes_no_memory (call.Decline now id subtask) = true
takes_no_memory (call.Dispose id) = true
takes_no_memory (call.Restore now target shape) = is_none shape
takes_no_memory (call.Cancel now) = true
takes_no_memory (call.Deleted file) = true
takes_no_memory (call.Undeleted file) = true
takes_no_memory (call.Count file) = true
takes_no_memory (call.Configure now config) = true
takes_no_memory call = false

-- only the other calls may run out of memory
abbrev pub WantsMemory : Option State → Call → Answer → Type 0
WantsMemory old call answer = (m : State) → old ≡ Some m → answer.code ≡ no_memory → may_want_memory m call ≡ true

-- a call that runs out of memory changes nothing
abbrev pub StaysAsItWas : Option State → Option State → Answer → Type 0
StaysAsItWas old new answer = answer.code ≡ no_memory → new ≡ old

-- the handle is as it was
abbrev pub IsSame : Handle → Handle → Type 0
IsSame old new = (new.value ≡ old.value) × (new.names ≡ old.names) × (new.past ≡ old.past)

-- an open handle says which argument is bad, and nothing has changed
abbrev pub IsRefusedAs : Option State → Option State → ℕ → Answer → Type 0
IsRefusedAs old new what answer = (m : State) → old ≡ Some m → (answer ≡ bad_argument what) × (new ≡ old)

abbrev pub subtask_at : ℕ → ℕ → SubtaskId
subtask_at vertex index = record { vertex = vertex; index = index }

-- 0 means the latest
abbrev pub target_of : ℕ → Target
target_of savepoint = if savepoint == 0 then Latest else Savepoint savepoint

-- an empty list means the shape that the job has
abbrev pub shape_of : List ℕ → Option (List ℕ)
shape_of [] = None
shape_of (n ∷ ns) = Some (n ∷ ns)

abbrev pub IsBadShape : List ℕ → Type 0
IsBadShape list = (list ≢ []) × (is_shape list ≡ false)

-- what a restore asks for
abbrev pub restore_of : ℕ → ℕ → List ℕ → Call
restore_of now savepoint shape = call.Restore now (target_of savepoint) (shape_of shape)

-- what an acknowledgement asks for, for any order of its files
abbrev pub ack_of : ℕ → ℕ → SubtaskId → List ℕ → List ℕ → Call
ack_of now id subtask fresh reused = call.Ack now id subtask (ascending fresh) (ascending reused)
