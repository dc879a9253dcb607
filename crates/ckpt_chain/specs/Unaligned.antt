-- The same of a job whose checkpoints may overtake: a record has what was on the way to each task, which channels give first after a restart.
use Rattle.std.specs.Prelude.{ℕ, List, [], ◌∷◌}
use Rattle.ckpt_ids.specs.{declared.ack.Acked.Acked, Ordered.IsIn}
use Rattle.ckpt_terms.specs.declared.machine.Machine.{Machine}
use Rattle.ckpt_logged.specs.Events.{Event}
use Rattle.ckpt_durable.specs.Groups.{Turn, World, synced, world}
use Rattle.ckpt_once.specs.Jobs.{IsJob, Job}
use Rattle.ckpt_unaligned.specs.Laws.{HasPart, Network}
use Rattle.ckpt_other_cuts.specs.Restarted.{Doings, IsRunFrom, begin_after, moves}
use Rattle.ckpt_other_cuts.specs.Resumed.{Attempt, IsSeamless, WasRecorded, stretches}
use Rattle.ckpt_chain.specs.{Since.acknowledgements_of, Told.NeverGoesBack, Told.WasRestored}

-- Left to the engine: each acknowledgement of the record that stands accepted in the log is of a subtask whose part of it was whole.
abbrev pub AcknowledgesParts : ℕ → Machine → List Event → Network → Type 0
AcknowledgesParts id m events w = (a : Acked) → IsIn a (acknowledgements_of id m events) → HasPart id (w.task a.subtask)

abbrev pub AreToldResumes : Machine → World → Job → List Attempt → Type 0
AreToldResumes m w job [] = Unit {0}
AreToldResumes m w job (it ∷ its) =
    AreToldResumes m w job its
    × WasRecorded job (begin_after job (stretches its)) it
    × WasRestored (AcknowledgesParts it.stretch.record_id m (synced w) it.network) it.stretch.record_id it.earlier w job

-- Failures are invisible, crashes of the coordinator included, if the job acts on what it was told.
abbrev pub ToldResumesAreSeamless : Machine → List Turn → Job → List Attempt → Doings → Type 0
ToldResumesAreSeamless m turns job its doings =
    let w : World = world m turns in
    IsJob job → NeverGoesBack m (synced w) → AreToldResumes m w job its → IsRunFrom job (begin_after job (stretches its)) (moves doings) → IsSeamless job its doings
