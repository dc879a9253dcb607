-- The answers about terms and names, and what a call does through a handle, whether its tasks reserve names or not.
use Rattle.std.specs.Prelude.{◌≡◌, ◌≢◌, ℕ, Bool, true, false, ◌||◌, nat_lt, nat_le, filter, if◌then◌else◌, List, length, Option, Some, None}
use Rattle.ckpt_ids.specs.{declared.call.Call.Call, declared.subtask.SubtaskId.SubtaskId}
use Rattle.ckpt_model.specs.State.{State}
use Rattle.ckpt_terms.specs.{declared.call.FencedCall.FencedCall, declared.call.FencedRefusal.FencedRefusal, declared.call.FencedAnswer.FencedAnswer}
use Rattle.ckpt_terms.specs.{declared.machine.Machine.Machine, declared.machine.FenceFault.FenceFault, Wants.wants_memory}
use Rattle.ckpt_terms.specs.declared.call.FencedCall.TheVariants as fencing
use Rattle.ckpt_terms.specs.declared.call.FencedRefusal.TheVariants as why
use Rattle.ckpt_terms.specs.declared.call.FencedAnswer.TheVariants as answered
use Rattle.ckpt_terms.specs.declared.machine.Machine.TheVariants as machine
use Rattle.ckpt_terms.specs.declared.machine.FenceFault.TheVariants as fault
use Rattle.ckpt_terms.specs.Fencing.{FencedStepped, fenced_step, is_garbage}
use Rattle.ckpt_terms.specs.Machines.{Issued, core_in, fence_fault, fenced_of, machine_of, machine_step, names_in}
use Rattle.ckpt_logged.specs.Events.{named_from}
use Rattle.relkvanu.specs.{declared.answer.Answer.Answer, declared.handle.Handle.Handle, Buffers.StandsInFront, Calls.ack_of}
use Rattle.relkvanu.specs.Told.{answer, answer_told, bad_argument, done, no_memory, out_of_memory, too_short_for}

-- the code of a call that a term or the names refuse
abbrev pub fence_refused : ℕ → ℕ → Answer
fence_refused what file = answer 7 what file 0

-- the handle has no names
abbrev pub no_names : Answer
no_names = fence_refused 8 0

-- the handle has names
abbrev pub has_names : Answer
has_names = fence_refused 9 0

-- the bad argument of a first name outside its limits
abbrev pub bad_name : ℕ
bad_name = 8

abbrev pub fenced_refusal_told : FencedRefusal → Answer
fenced_refusal_told why.OldTerm = fence_refused 1 0
fenced_refusal_told why.Ended = fence_refused 2 0
fenced_refusal_told why.BadCount = fence_refused 3 0
fenced_refusal_told why.NamesUsedUp = fence_refused 4 0
fenced_refusal_told why.TermsUsedUp = fence_refused 5 0
fenced_refusal_told why.BadName = bad_argument bad_name
fenced_refusal_told (why.Spent file) = fence_refused 6 file
fenced_refusal_told (why.NeverReserved file) = fence_refused 7 file

-- the answer to a call that asked for this many names
abbrev pub fenced_told : ℕ → FencedAnswer → Answer
fenced_told count (answered.Reserved first) = done 56 first count
fenced_told count answered.Forfeited = done 57 0 0
fenced_told count (answered.Made term its) = answer_told its
fenced_told count (answered.Fenced why) = fenced_refusal_told why

-- how many names a call asks for
abbrev pub count_of : FencedCall → ℕ
count_of (fencing.Reserve term count) = count
count_of call = 0

-- a call without a term: the coordinator that it leaves, and its answer
abbrev pub call_step : Machine → Call → Machine × Answer
call_step k call = ((machine_step k call).0, fenced_told 0 (machine_step k call).1)

-- a call with a term
abbrev pub term_step : Machine → FencedCall → Machine × Answer
term_step (machine.Plain m) call = (machine.Plain m, no_names)
term_step (machine.Fenced m) call = let s : FencedStepped = fenced_step m call in (machine.Fenced s.0, fenced_told (count_of call) s.1)

-- an acknowledgement with a term
abbrev pub ack_step : Machine → ℕ → ℕ → ℕ → SubtaskId → List ℕ → List ℕ → Machine × Answer
ack_step k term now id subtask fresh reused = term_step k (fencing.Make term (ack_of now id subtask fresh reused))

-- the step is made and its answer returned, unless memory ran out
abbrev pub IsTaken : (Machine → Machine × Answer) → Machine → Machine → Answer → Type 0
IsTaken step old new answer = answer.code ≢ no_memory → (new ≡ (step old).0) × (answer ≡ (step old).1)

-- the coordinator of a handle with this state
abbrev pub machine_in : Handle → State → Machine
machine_in h m = machine_of m h.names

-- the same through an open handle
abbrev pub IsHandled : (Machine → Machine × Answer) → Handle → Handle → Answer → Type 0
IsHandled step old new answer =
    (m : State) → old.value ≡ Some m → answer.code ≢ no_memory
    → let after : Machine × Answer = step (machine_in old m) in
    (new.value ≡ Some (core_in after.0)) × (new.names ≡ names_in after.0) × (answer ≡ after.1)

-- the calls with a term that may run out of memory
abbrev pub term_wants : Machine → FencedCall → Bool
term_wants (machine.Plain m) call = false
term_wants (machine.Fenced m) call = wants_memory m call

-- only these do, through an open handle
abbrev pub WantsNames : Handle → FencedCall → Answer → Type 0
WantsNames old call answer = (m : State) → old.value ≡ Some m → answer.code ≡ no_memory → term_wants (machine_in old m) call ≡ true

-- the answer of a coordinator that gets names, or why it gets none
abbrev pub fence_told : Option FenceFault → Answer
fence_told None = done 59 0 0
fence_told (Some fault.HasNames) = has_names
fence_told (Some fault.BadName) = bad_argument bad_name
fence_told (Some fault.NameInUse) = fence_refused 10 0
fence_told (Some fault.Memory) = out_of_memory

-- a coordinator gets names from this one on
abbrev pub fence_step : Machine → ℕ → Machine × Answer
fence_step k first = (named_from k first (fence_fault k first), fence_told (fence_fault k first))

-- the term that runs, and the next name
abbrev pub term_told : Option Issued → Answer
term_told (Some names) = done 58 names.term names.next_name
term_told None = no_names

-- of these files those that may be deleted, in their order
abbrev pub garbage_of : State → Issued → List ℕ → List ℕ
garbage_of m names files = filter (is_garbage (fenced_of m names)) files

-- of these files those whose names were not given out
abbrev pub unissued_of : Issued → List ℕ → List ℕ
unissued_of names files = filter (nat_le names.next_name) files

-- the answer if the buffers have these many places: each file needs one in both
abbrev pub garbage_told : State → Option Issued → List ℕ → ℕ → ℕ → Answer
garbage_told m None files places others = no_names
garbage_told m (Some names) files places others =
    if nat_lt places (length files) || nat_lt others (length files) then too_short_for (length files) (length files)
    else done 60 (length (garbage_of m names files)) (length (unissued_of names files))

-- the same through an open handle with these names
abbrev pub IsGarbageTold : Option State → Option Issued → List ℕ → ℕ → ℕ → Answer → Type 0
IsGarbageTold state names files places others answer = (m : State) → state ≡ Some m → answer ≡ garbage_told m names files places others

-- the list that a handle with names gives is at the start of the buffer
abbrev pub BringsOf : (Issued → List ℕ) → Option Issued → List ℕ → List ℕ → Answer → Type 0
BringsOf list names old new answer = (n : Issued) → names ≡ Some n → answer.code ≡ 0 → StandsInFront (list n) old new

-- and those files that may be deleted, of an open handle with these names
abbrev pub BringsGarbage : Option State → Option Issued → List ℕ → List ℕ → List ℕ → Answer → Type 0
BringsGarbage state names files old new answer = (m : State) → state ≡ Some m → BringsOf (λ n. garbage_of m n files) names old new answer
