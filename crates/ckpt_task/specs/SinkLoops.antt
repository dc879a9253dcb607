-- A sink that runs in a loop, and what it publishes. Lists have the newest first, but for what is published.
use Rattle.std.specs.Prelude.{◌≡◌, ◌≤◌, ℕ, false, List, [], ◌∷◌, ◌++◌, map, Some, None}
use Rattle.ckpt_ids.specs.Ordered.{IsIn}
use Rattle.ckpt_ledger.specs.Ledgers.{Completes, after_entry, nothing}
use Rattle.ckpt_once.specs.Jobs.{IsJob, IsPrefix, Job, States, restored}
use Rattle.ckpt_once.specs.Programs.{Program}
use Rattle.ckpt_once.specs.Sinks.{AreLast, Sink, Transaction, contents, published_before, published_in, up_to}
use Rattle.ckpt_task.specs.{declared.deed.Deed.Deed, Deeds.Acknowledges, Deeds.told_in, Engines.begun, SinkTurns.SinkAt}
use Rattle.ckpt_task.specs.Loops.{AreLooping, Looped, Loops, LoopsAttempt, attempts_of, history_of}
use Rattle.ckpt_task.specs.Runs.{Around, HasSunk, around}
use Rattle.ckpt_task.specs.Saving.{Saved, under, waiting_under}

-- a sink at some moment: what it did until then, its snapshots, and the elements that it has published, the oldest first
pub record Sinking : Type 0 where
  pub at : SinkAt
  pub deeds : List Deed
  pub saved : List Saved
  pub refused : List ℕ
  pub published : List ℕ

abbrev pub around_sink : Sinking → Around
around_sink x = around x.at.task x.deeds x.saved x.refused

-- `SinkTask::run`
pub record SinkRuns (p : Program) (x y : Sinking) : Type 0 where
  pub count : ℕ
  pub sunk : HasSunk p count x.at y.at (around_sink x) (around_sink y)
  pub published : y.published ≡ x.published

-- `SinkTask::completed`: the sink publishes what it returns. It is told of a record that it has acknowledged.
pub record IsToldOf (id : ℕ) (x y : Sinking) : Type 0 where
  pub acknowledged : IsIn (Acknowledges id) (told_in x.deeds)
  pub at : y.at ≡ record x.at { held = after_entry x.at.held (Completes id) }
  pub same : around_sink y ≡ around_sink x
  pub published : y.published ≡ x.published ++ contents (up_to id x.at.held.waiting)

-- what a sink did, and where it began that
pub data Step : Type 0 where
  Ran : (begin : Sinking) → Step
  WasTold : (id : ℕ) → (begin : Sinking) → Step

abbrev pub AreSteps : Program → List Step → Sinking → Sinking → Type 0
AreSteps p [] x y = y ≡ x
AreSteps p (Ran begin ∷ steps) x y = AreSteps p steps x begin × SinkRuns p begin y
AreSteps p (WasTold id begin ∷ steps) x y = AreSteps p steps x begin × IsToldOf id begin y

-- the records of whose completion it was told, the oldest first
abbrev pub told_of : List Step → List ℕ
told_of [] = []
told_of (Ran begin ∷ steps) = told_of steps
told_of (WasTold id begin ∷ steps) = told_of steps ++ id ∷ []

-- a sink in an attempt: it started with nothing held back, and did these steps
pub record HasSunkOver (job : Job) (from : States) (sink : Sink) (l : Looped) : Type 0 where
  pub first : Sinking
  pub last : Sinking
  pub steps : List Step
  pub task : first.at.task ≡ (begun job from).task sink.task
  pub held : first.at.held ≡ nothing
  pub output : first.at.output ≡ sink.output
  pub unused : first.deeds ≡ []
  pub unpublished : first.published ≡ []
  pub are_steps : AreSteps (job.program sink.task) steps first last
  pub is_loop : l ≡ record { first = around_sink first; last = around_sink last; has_ended = false }

-- What it published in the attempt is what the sink of `ckpt_once` publishes.
abbrev pub SinkPublishes : Job → States → Loops → Sink → Type 0
SinkPublishes job from e sink =
    IsJob job
    → AreLooping job from e
    → IsIn sink.task job.tasks
    → (over : HasSunkOver job from sink (e.looped sink.task))
    → over.last.published ≡ published_in job from (history_of e) sink (told_of over.steps)

-- RESTARTS

-- What a sink published by its cut of a record, and what it is given once it is restored to that, is together what the sink of
-- `ckpt_once` publishes up to it. What the lost one published since the cut is among that.
pub record GivesOnce (job : Job) (from : States) (e : Loops) (sink : Sink) (n : ℕ) (completed published : List ℕ) (given : List Transaction) : Type 0 where
  pub by_cut : List ℕ
  pub since : List ℕ
  pub all : published ≡ by_cut ++ since
  pub once : by_cut ++ contents given ≡ published_in job from (history_of e) sink (completed ++ n ∷ [])
  pub comes_again : IsPrefix published (by_cut ++ contents given)

-- A sink is restored to a record that was completed last: `SinkTask::restored` returns what its snapshot held back.
abbrev pub SinkGivesOnce : Job → States → Loops → Sink → ℕ → List Transaction → Type 0
SinkGivesOnce job from e sink n given =
    IsJob job
    → AreLooping job from e
    → IsIn sink.task job.tasks
    → (over : HasSunkOver job from sink (e.looped sink.task))
    → under n over.first.saved ≡ None
    → waiting_under n over.last.saved ≡ Some given
    → ((m : ℕ) → IsIn m (told_of over.steps) → m ≤ n)
    → GivesOnce job from e sink n (told_of over.steps) over.last.published given

-- an attempt with such a sink, and what it was given at the restart
pub record SinkAttempt : Type 0 where
  pub one : LoopsAttempt
  pub given : List Transaction

abbrev pub loops_of : List SinkAttempt → List LoopsAttempt
loops_of ones = map (λ one. one.one) ones

abbrev pub from_of : Job → List SinkAttempt → States
from_of job ones = restored job (attempts_of (loops_of ones))

-- it did so in this attempt, from these states on
pub record HasGiven (job : Job) (from : States) (sink : Sink) (k : SinkAttempt) : Type 0 where
  pub looping : AreLooping job from k.one.loops
  pub over : HasSunkOver job from sink (k.one.loops.looped sink.task)
  pub told : told_of over.steps ≡ k.one.earlier
  pub unsaved : under k.one.record_id over.first.saved ≡ None
  pub given : waiting_under k.one.record_id over.last.saved ≡ Some k.given

abbrev pub HaveGiven : Job → Sink → List SinkAttempt → Type 0
HaveGiven job sink [] = Unit {0}
HaveGiven job sink (k ∷ ks) = HaveGiven job sink ks × HasGiven job (from_of job ks) sink k

-- These are the elements that it published by the cuts of the records that it was restored to, each time with what it was
-- given then.
abbrev pub AreGiven : (job : Job) (sink : Sink) (ks : List SinkAttempt) → HaveGiven job sink ks → List ℕ → Type 0
AreGiven job sink [] have xs = xs ≡ []
AreGiven job sink (k ∷ ks) have xs =
    (before : List ℕ)
    × (by_cut : List ℕ)
    × (since : List ℕ)
    × AreGiven job sink ks have.0 before
    × (have.1.over.last.published ≡ by_cut ++ since)
    × (xs ≡ before ++ (by_cut ++ contents k.given))

-- So it publishes over restarts what the sink of `ckpt_once` publishes, which is what one run without a failure writes.
abbrev pub SinkGivesOverRestarts : Job → Sink → List SinkAttempt → Type 0
SinkGivesOverRestarts job sink ks =
    IsJob job
    → IsIn sink.task job.tasks
    → AreLast (attempts_of (loops_of ks))
    → (have : HaveGiven job sink ks)
    → AreGiven job sink ks have (published_before job sink (attempts_of (loops_of ks)))
