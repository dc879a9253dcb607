-- A worked example: the record of the worked loops of `ckpt_task`, once both subtasks have acknowledged it.
use Rattle.std.specs.Prelude.{true, [], ◌∷◌}
use Rattle.ckpt_ids.specs.{declared.ack.Acked.Acked, declared.subtask.SubtaskId.SubtaskId, Records.Record}
use Rattle.ckpt_ids.specs.declared.numbers.Kind.TheVariants as kind
use Rattle.ckpt_once.specs.{Jobs.History, WorkedExamples.adder, WorkedExamples.source}
use Rattle.ckpt_task.specs.{Loops.history_of, WorkedLoops.failed}

abbrev pub acked : SubtaskId → Acked
acked t = record { subtask = t; files = [] }

abbrev pub completed : Record
completed = record { id = 1; kind = kind.Checkpoint; done = true; shape = 1 ∷ 1 ∷ []; started = 1000; acks = acked source ∷ acked adder ∷ []; pins = [] }

-- what the tasks did by then
abbrev pub history : History
history = history_of failed
