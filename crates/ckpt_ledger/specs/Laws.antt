-- A ledger is the sink of `ckpt_once`.
use Rattle.std.specs.Prelude.{◌≡◌, List, []}
use Rattle.ckpt_align.specs.Alignment.{opened}
use Rattle.ckpt_once.specs.Jobs.{History, Job, States, network}
use Rattle.ckpt_once.specs.Sinks.{Sink, published_in, sealed_in}
use Rattle.ckpt_ledger.specs.Ledgers.{HaveBeenCut, Moment, acts, after_entries, all_published, completed, entries, nothing}

-- what the task of a sink did in a history, with what the sink was told
abbrev pub AreMomentsOf : Job → States → History → Sink → List Moment → Type 0
AreMomentsOf job from h sink moments = (acts moments ≡ ((network job from h).task sink.task).actions) × HaveBeenCut (job.inputs sink.task) [] moments

-- what a ledger publishes is what the sink publishes if these records are completed
abbrev pub PublishesAsSink : Job → States → History → Sink → List Moment → Type 0
PublishesAsSink job from h sink moments =
    AreMomentsOf job from h sink moments
    → all_published nothing (entries sink.output (opened (job.inputs sink.task)) moments) ≡ published_in job from h sink (completed moments)

-- before the first completed record it holds what the sink has sealed
abbrev pub Holds : Job → States → History → Sink → List Moment → Type 0
Holds job from h sink moments =
    AreMomentsOf job from h sink moments
    → completed moments ≡ []
    → (after_entries nothing (entries sink.output (opened (job.inputs sink.task)) moments)).waiting ≡ sealed_in job from h sink
