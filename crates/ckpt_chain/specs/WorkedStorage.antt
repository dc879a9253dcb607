-- A worked example: the source and the adder of `ckpt_task`, which save their states as files. A coordinator gets names, an image cuts its log,
-- and it crashes twice; a file that a task of the old attempt writes late is removed. The expected values were written by hand.
use Rattle.std.specs.Prelude.{◌≡◌, ℕ, true, List, [], ◌∷◌, ◌++◌, drop, refl, take, Option, Some, None}
use Rattle.ckpt_ids.specs.{declared.ack.Acked.Acked, declared.call.Call.TheVariants.Ack, declared.subtask.SubtaskId.SubtaskId, Records.Record}
use Rattle.ckpt_ids.specs.declared.numbers.Kind.TheVariants as kind
use Rattle.ckpt_model.specs.{State.record_of, Steps.step_computes}
use Rattle.ckpt_terms.specs.{declared.call.FencedCall.TheVariants.Make, declared.call.FencedCall.TheVariants.Reserve, Fencing.fenced_step, Machines.core_in}
use Rattle.ckpt_logged.specs.Events.{Event, Fence, Named, events_replay}
use Rattle.ckpt_durable.specs.Groups.{Committed, Crashed, Imaged, Made, Receipt, synced}
use Rattle.ckpt_once.specs.WorkedExamples.{adder, job, source}
use Rattle.ckpt_task.specs.{Loops.history_of, WorkedLoops.failed}
use Rattle.ckpt_chain.specs.Storages.{Act, Removed, Storage, Turned, Wrote}
use Rattle.ckpt_chain.specs.Stored.{Place, Reader, StoredAttempt, now_at, read_from}
use Rattle.ckpt_chain.specs.WorkedExamples.{begin, restores, ticks}

-- In term 1 the names 5 to 7 are reserved. The source saves its offset in file 5, and the adder its sum in file 6.
abbrev pub reserves_three : Event
reserves_three = Named (Reserve 1 3)

abbrev pub source_saves : Event
source_saves = Named (Make 1 (Ack 1000 1 source (5 ∷ []) []))

abbrev pub adder_saves : Event
adder_saves = Named (Make 1 (Ack 1000 1 adder (6 ∷ []) []))

-- of the old adder, which wrote file 7
abbrev pub saves_late : Event
saves_late = Named (Make 1 (Ack 2100 1 adder (7 ∷ []) []))

abbrev pub nothing : Storage
nothing = λ f. None

-- The first acknowledgement of the adder is lost by a crash. It is made again.
abbrev pub before : List Act
before =
    Turned (Made (Fence 5)) ∷ Turned (Made ticks) ∷ Turned Committed ∷ Turned (Made reserves_three) ∷ Turned Committed ∷ Wrote 5 1 ∷ Turned (Made source_saves)
    ∷ Turned Committed ∷ Turned (Imaged 2) ∷ Wrote 6 100 ∷ Turned (Made adder_saves) ∷ Turned (Crashed 0) ∷ Turned (Made adder_saves) ∷ Turned Committed ∷ Turned (Crashed 3)
    ∷ Wrote 7 200 ∷ Turned (Made restores) ∷ Turned Committed ∷ []

-- The program is told that file 7 is garbage, and removes it.
abbrev pub after : List Act
after = Turned (Made saves_late) ∷ Turned Committed ∷ Removed 7 ∷ []

-- a state is the content of its first file, and 0 if that is lost
abbrev pub first_content : List (Option ℕ) → ℕ
first_content (Some content ∷ contents) = content
first_content contents = 0

abbrev pub reads : Reader
reads t contents = first_content contents

abbrev pub place : Place
place = record { begin = begin; storage = nothing; acts = before ++ after; reader = reads }

abbrev pub log : List Event
log = Fence 5 ∷ ticks ∷ reserves_three ∷ source_saves ∷ adder_saves ∷ restores ∷ saves_late ∷ []

pub is_synced : synced (now_at place).world ≡ log
is_synced = refl

abbrev pub at : ℕ → Receipt
at k = record { state = events_replay begin (take k log); entry = take 1 (drop k log) }

pub is_told : (now_at place).world.told ≡ at 0 ∷ at 1 ∷ at 2 ∷ at 3 ∷ at 4 ∷ at 5 ∷ at 6 ∷ []
unfolding fenced_step step_computes
is_told = refl

abbrev pub acked : SubtaskId → ℕ → Acked
acked t file = record { subtask = t; files = file ∷ [] }

-- the record, as the restart finds it
abbrev pub found : Record
found = record { id = 1; kind = kind.Checkpoint; done = true; shape = 1 ∷ 1 ∷ []; started = 1000; acks = acked source 5 ∷ acked adder 6 ∷ []; pins = [] }

pub is_found : record_of (core_in (at 5).state) 1 ≡ Some found
unfolding fenced_step step_computes
is_found = refl

abbrev pub attempt : StoredAttempt
attempt = record { attempt = record { history = history_of failed; record_id = 1; earlier = 1 ∷ [] }; found = found; by_then = before }

-- what is there in the end
pub file_5 : (now_at place).there 5 ≡ Some 1
file_5 = refl

pub file_6 : (now_at place).there 6 ≡ Some 100
file_6 = refl

pub file_7 : (now_at place).there 7 ≡ None
file_7 = refl

-- what the restart reads
pub source_read : read_from place job (attempt ∷ []) source ≡ 1
source_read = refl

pub adder_read : read_from place job (attempt ∷ []) adder ≡ 100
adder_read = refl

-- If somebody had removed file 6, which no premise allows, the adder would begin anew.
abbrev lost : StoredAttempt
lost = record { attempt = attempt.attempt; found = found; by_then = before ++ Removed 6 ∷ [] }

pub adder_lost : read_from place job (lost ∷ []) adder ≡ 0
adder_lost = refl
