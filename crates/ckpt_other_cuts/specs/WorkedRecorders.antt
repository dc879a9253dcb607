-- The worked example of such a restart, with what its recorders were told.
use Rattle.std.specs.Prelude.{◌≡◌, ℕ, zero, suc, [], ◌∷◌, refl}
use Rattle.ckpt_align.specs.Histories.{Barrier, Element}
use Rattle.ckpt_once.specs.WorkedExamples.{job, line}
use Rattle.ckpt_unaligned.specs.Histories.{Overtakes, Reads, Sends}
use Rattle.ckpt_unaligned.specs.Laws.{Network, Task}
use Rattle.ckpt_other_cuts.specs.{Resumed.Attempt, Resumed.published_before, WorkedResumes.sink, WorkedResumes.stretch}

-- The source's barrier is the coordinator's order; at the adder the record overtakes, so 100 is recorded.
abbrev task_of : ℕ → Task
task_of zero = record { inputs = 1; actions = Sends 0 100 ∷ Reads 0 (Barrier 1) ∷ [] }
task_of (suc vertex) = record { inputs = 1; actions = Overtakes 1 ∷ Reads 0 (Element 100) ∷ Sends 0 100 ∷ Reads 0 (Barrier 1) ∷ [] }

abbrev pub network : Network
network = record { task = λ t. task_of t.vertex; channels = line ∷ []; first = λ c. [] }

-- the sinks had been told of this record
abbrev pub attempt : Attempt
attempt = record { stretch = stretch; network = network; earlier = 1 ∷ [] }

pub published_of_it : published_before job sink (attempt ∷ []) ≡ []
published_of_it = refl
