-- Laws of exactly-once, over all jobs and histories.
use Rattle.std.specs.Prelude.{◌≡◌, ℕ, List, ◌++◌}
use Rattle.ckpt_ids.specs.{Ordered.IsIn, declared.subtask.SubtaskId.SubtaskId}
use Rattle.ckpt_once.specs.Jobs.{Attempt, AreAttempts, HaveCut, History, IsHistory, IsJob, IsPrefix, IsQuiet, IsRun, Job, Run, States, before_cuts, restored, run_of, run_of_attempts, snapshots, starts, states_after, states_in}
use Rattle.ckpt_once.specs.Sinks.{AreLast, Sink, published_before, published_in, written}

-- Barriers and records are invisible: what the tasks do in an engine is a run of the job, with the same states.
abbrev pub WithoutBarriers : Job → States → History → Type 0
WithoutBarriers job from h =
    IsHistory job from h
    → IsRun job from (run_of job h) × ((t : SubtaskId) → states_in job from h t ≡ states_after job from (run_of job h) t)

-- The moves before the cuts of a record are a run of the job. Its states are the snapshots, and nothing is on the way.
abbrev pub IsOfRun : ℕ → Job → States → History → Type 0
IsOfRun n job from h =
    let run : Run = run_of job (before_cuts n job from h) in
    IsRun job from run × IsQuiet job from run × ((t : SubtaskId) → snapshots n job from h t ≡ states_after job from run t)

-- So it is for each record that each task has cut.
abbrev pub RecordIsOfRun : ℕ → Job → States → History → Type 0
RecordIsOfRun n job from h = IsJob job → IsHistory job from h → HaveCut n job from h → IsOfRun n job from h

-- A run goes on where nothing is on the way: from its states alone.
abbrev pub RunsJoin : Job → States → Run → Run → Type 0
RunsJoin job from first second =
    IsRun job from first
    → IsQuiet job from first
    → IsRun job (states_after job from first) second
    → IsRun job from (second ++ first) × ((t : SubtaskId) → states_after job (states_after job from first) second t ≡ states_after job from (second ++ first) t)

-- Failures are invisible. After any number of failures, each followed by a restart from the snapshots of a record with
-- empty channels, the states of the tasks are those of one run of the job from its start, without a failure: the moves
-- before the cuts, then those since the last restart. At that restart nothing was on the way: no element was lost.
abbrev pub FailuresInvisible : Job → List Attempt → History → Type 0
FailuresInvisible job attempts h =
    let first : Run = run_of_attempts job attempts in
    let run : Run = run_of job h ++ first in
    IsJob job
    → AreAttempts job attempts
    → IsHistory job (restored job attempts) h
    → IsRun job (starts job) run
    × IsQuiet job (starts job) first
    × ((t : SubtaskId) → states_in job (restored job attempts) h t ≡ states_after job (starts job) run t)

-- What a sink has published when a record is completed is exactly what that run without a failure writes up to it, each
-- element once, if each restart was to the last record that was completed.
abbrev pub PublishedOnce : Job → List Attempt → Sink → Type 0
PublishedOnce job attempts sink =
    IsJob job
    → AreAttempts job attempts
    → AreLast attempts
    → IsIn sink.task job.tasks
    → published_before job sink attempts ≡ written job (starts job) (run_of_attempts job attempts) sink

-- And at any moment it is a beginning of what the run of `FailuresInvisible` writes, whatever records were completed
-- since the last restart.
abbrev pub PublishedIsPrefix : Job → List Attempt → Sink → History → List ℕ → Type 0
PublishedIsPrefix job attempts sink h completed =
    let run : Run = run_of job h ++ run_of_attempts job attempts in
    IsJob job
    → AreAttempts job attempts
    → AreLast attempts
    → IsIn sink.task job.tasks
    → IsPrefix (published_before job sink attempts ++ published_in job (restored job attempts) h sink completed) (written job (starts job) run sink)
