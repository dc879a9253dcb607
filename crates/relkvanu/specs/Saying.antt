-- The call that a line says, told to a C program: its fields and its two lists.
use Rattle.std.specs.Prelude.{◌≡◌, ℕ, ⊤, Bool, false, ◌||◌, ◌==◌, nat_lt, if◌then◌else◌, List, [], ◌∷◌, length, take, Some, Result, Ok, Err}
use Rattle.std.specs.Int.{from_bool}
use Rattle.ckpt_ids.specs.{Ascending.IsAscending, Configuration.Configuration, Configuration.IsWithinLimits, Shapes.IsShape, declared.call.Call.Call, declared.call.Target.Target}
use Rattle.ckpt_ids.specs.{declared.reply.Refusal.TheVariants.NoSuchSavepoint, declared.subtask.SubtaskId.SubtaskId}
use Rattle.ckpt_ids.specs.declared.call.Call.TheVariants as call
use Rattle.ckpt_ids.specs.declared.call.Target.TheVariants as target
use Rattle.ckpt_lines.specs.CallTexts.{parallelisms}
use Rattle.ckpt_terms.specs.declared.call.FencedCall.TheVariants.{Reserve, Forfeit, Make, Advance}
use Rattle.relkvanu.specs.{declared.answer.Answer.Answer, declared.asked.Asked.Asked, declared.writing.CallFields.CallFields, Asking.said, Buffers.StandsInFront, Writing.given}
use Rattle.relkvanu.specs.declared.asked.Asked.TheVariants as ask
use Rattle.relkvanu.specs.Told.{done, refusal_told, too_short_for}

abbrev pub no_subtask : SubtaskId
no_subtask = record { vertex = 0; index = 0 }

abbrev pub fields_with : ℕ → SubtaskId → ℕ → ℕ → ℕ → CallFields
fields_with kind s now number term = record { kind = kind; vertex = s.vertex; index = s.index; now = now; number = number; term = term }

-- 0 means the latest
abbrev pub target_number : Target → ℕ
target_number target.Latest = 0
target_number (target.Savepoint id) = id

-- the fields of a call by a caller of this term; those that its kind does not use are 0
abbrev pub call_fields : ℕ → Call → CallFields
call_fields term (call.Tick now) = fields_with 1 no_subtask now 0 term
call_fields term (call.Savepoint now) = fields_with 2 no_subtask now 0 term
call_fields term (call.Ack now id s fresh reused) = fields_with 3 s now id term
call_fields term (call.Decline now id s) = fields_with 4 s now id term
call_fields term (call.Dispose id) = fields_with 5 no_subtask 0 id term
call_fields term (call.Restore now t shape) = fields_with 6 no_subtask now (target_number t) term
call_fields term (call.Cancel now) = fields_with 7 no_subtask now 0 term
call_fields term (call.Take most) = fields_with 8 no_subtask 0 most term
call_fields term (call.Deleted file) = fields_with 9 no_subtask 0 file term
call_fields term (call.Undeleted file) = fields_with 10 no_subtask 0 file term
call_fields term (call.Show id) = fields_with 11 no_subtask 0 id term
call_fields term (call.Count file) = fields_with 12 no_subtask 0 file term
call_fields term (call.Trigger now) = fields_with 16 no_subtask now 0 term
call_fields term (call.Configure now config) = fields_with 17 no_subtask now 0 term

-- the fields of what is asked for
abbrev pub fields_of : Asked → CallFields
fields_of (ask.Fence first) = fields_with 13 no_subtask 0 first 0
fields_of (ask.Call (Reserve term count)) = fields_with 14 no_subtask 0 count term
fields_of (ask.Call (Forfeit term names)) = fields_with 15 no_subtask 0 0 term
fields_of (ask.Call (Advance now term first)) = fields_with 18 no_subtask now first term
fields_of (ask.Call (Make term call)) = call_fields term call

-- the settings in the order of `relkvanu_settings`, of which the last is 0 or 1
abbrev pub settings_of : Configuration → List ℕ
settings_of c = c.interval ∷ c.pause ∷ c.at_once ∷ c.timeout ∷ c.tolerable ∷ c.retained ∷ from_bool c.keep_on_cancel ∷ []

-- the fresh files of an acknowledgement, the new shape of a restore, or the new settings
abbrev pub call_first : Call → List ℕ
call_first (call.Ack now id s fresh reused) = fresh
call_first (call.Restore now t shape) = parallelisms shape
call_first (call.Configure now config) = settings_of config
call_first call = []

-- or the names that are given up
abbrev pub first_of : Asked → List ℕ
first_of (ask.Call (Forfeit term names)) = names
first_of (ask.Call (Make term call)) = call_first call
first_of asked = []

-- the reused files of an acknowledgement
abbrev pub call_second : Call → List ℕ
call_second (call.Ack now id s fresh reused) = reused
call_second call = []

abbrev pub second_of : Asked → List ℕ
second_of (ask.Call (Make term call)) = call_second call
second_of asked = []

-- what the types of the lists keep: the files ascend, and a shape and settings are within their limits
abbrev pub CallHasLists : Call → Type 0
CallHasLists (call.Ack now id s fresh reused) = IsAscending fresh × IsAscending reused
CallHasLists (call.Restore now t (Some shape)) = IsShape shape
CallHasLists (call.Configure now config) = IsWithinLimits config
CallHasLists call = ⊤

abbrev pub HasLists : Asked → Type 0
HasLists (ask.Call (Forfeit term names)) = IsAscending names
HasLists (ask.Call (Make term call)) = CallHasLists call
HasLists asked = ⊤

-- A restore to savepoint 0 has no fields, since 0 means the latest. No savepoint has this number.
abbrev pub call_has_no_fields : Call → Bool
call_has_no_fields (call.Restore now (target.Savepoint id) shape) = id == 0
call_has_no_fields call = false

abbrev pub has_no_fields : Asked → Bool
has_no_fields (ask.Call (Make term call)) = call_has_no_fields call
has_no_fields asked = false

-- what the answer is if the line says a call
abbrev pub says_call : ℕ
says_call = 42

-- the answer for two lists if the buffers have these many places: how many items each list has
abbrev pub lists_told : List ℕ → List ℕ → ℕ → ℕ → Answer
lists_told first second places others =
    if nat_lt places (length first) || nat_lt others (length second) then too_short_for (length first) (length second)
    else done says_call (length first) (length second)

abbrev pub asked_told : Asked → ℕ → ℕ → Answer
asked_told asked places others =
    if has_no_fields asked then refusal_told NoSuchSavepoint else lists_told (first_of asked) (second_of asked) places others

-- the answer for what a line says
unfoldable pub meant_told : Result Asked Answer → ℕ → ℕ → Answer
meant_told (Ok asked) places others = asked_told asked places others
meant_told (Err answer) places others = answer

-- the line asks for this, and the answer tells it
abbrev pub IsSaid : List ℕ → Answer → Asked → Type 0
IsSaid line answer asked = (said line ≡ Ok asked) × (answer.what ≡ says_call)

-- the fields are those of what the line asks for
abbrev pub BringsFields : List ℕ → Answer → CallFields → Type 0
BringsFields line answer fields = (asked : Asked) → IsSaid line answer asked → fields ≡ fields_of asked

-- a list of what the line asks for is at the start of its buffer
abbrev pub BringsCallList : (Asked → List ℕ) → List ℕ → Answer → List ℕ → List ℕ → Type 0
BringsCallList list_of line answer old new = (asked : Asked) → IsSaid line answer asked → StandsInFront (list_of asked) old new

-- the fields and the lists give what the line asks for
abbrev pub GivesBack : List ℕ → Answer → CallFields → List ℕ → List ℕ → Type 0
GivesBack line answer fields first second =
    (asked : Asked) → IsSaid line answer asked → given fields (take answer.a first) (take answer.b second) ≡ Ok asked
