-- A worked example: the adder of `ckpt_task` as a sink in a loop, whose job fails after record 1 was completed. The expected values were
-- written by hand.
use Rattle.std.specs.Prelude.{false, List, [], ◌∷◌, if◌then◌else◌}
use Rattle.ckpt_ids.specs.Shapes.{same_subtask}
use Rattle.ckpt_ledger.specs.Ledgers.{Held, nothing}
use Rattle.ckpt_once.specs.{Sinks.Transaction, WorkedExamples.adder, WorkedExamples.source}
use Rattle.ckpt_task.specs.{declared.deed.Deed.TheVariants.Came, declared.deed.Deed.TheVariants.Took, Loops.Loops, Runs.Around, Runs.around, Saving.Saved, SinkTurns.SinkAt}
use Rattle.ckpt_task.specs.Turns.{At}
use Rattle.ckpt_task.specs.declared.turn.Next.TheVariants as next
use Rattle.ckpt_task.specs.SinkLoops.{SinkAttempt, Sinking, Step, Ran, WasTold, around_sink}
use Rattle.ckpt_task.specs.WorkedLoops.{adder_did, at, begin, going, source_did, with_100}

-- what it wrote before the cut of record 1, which its snapshot has too
abbrev pub sealed : Transaction
sealed = record { id = 1; content = 100 ∷ [] }

abbrev pub saved : Saved
saved = record { id = 1; state = 100; waiting = sealed ∷ [] }

abbrev pub sink_at : At → Held → SinkAt
sink_at task held = record { task = task; held = held; output = 0; has_failed = false }

abbrev pub starting : Sinking
starting = record { at = sink_at (at 0) nothing; deeds = []; saved = []; refused = []; published = [] }

-- It took 100, wrote the sum, and cut record 1.
abbrev pub cutting : Sinking
cutting = record { at = sink_at adder_did.task (record { waiting = sealed ∷ []; open_one = [] }); deeds = adder_did.deeds; saved = saved ∷ []; refused = []; published = [] }

-- It was told that the record is completed.
abbrev pub ending : Sinking
ending = record { at = sink_at adder_did.task nothing; deeds = adder_did.deeds; saved = saved ∷ []; refused = []; published = 100 ∷ [] }

abbrev pub steps : List Step
steps = WasTold 1 cutting ∷ Ran starting ∷ []

abbrev pub did : Loops
did = record {
  looped = λ t. if same_subtask t adder then going (around_sink starting) (around_sink ending) else going begin source_did;
  order = adder ∷ source ∷ [];
}

-- the restart gives it what its snapshot held back
abbrev pub attempt : SinkAttempt
attempt = record { one = record { loops = did; record_id = 1; earlier = 1 ∷ [] }; given = sealed ∷ [] }

-- A FAULT

-- Its channels failed after the cut was saved, before the barrier left: record 1 was not acknowledged, and it was told of none.
abbrev pub stopped : Around
stopped = around adder_did.task (Took ∷ Came (next.Barrier 0 1) ∷ with_100) (saved ∷ []) []

abbrev pub failing : Loops
failing = record { looped = λ t. if same_subtask t adder then going (around_sink starting) stopped else going begin source_did; order = adder ∷ source ∷ [] }
