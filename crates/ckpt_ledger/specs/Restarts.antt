-- A ledger over restarts.
use Rattle.std.specs.Prelude.{◌≡◌, ℕ, true, List, [], ◌∷◌, ◌++◌, map}
use Rattle.ckpt_align.specs.{Alignment.opened, Histories.has_cut}
use Rattle.ckpt_ids.specs.Ordered.{IsIn}
use Rattle.ckpt_once.specs.Jobs.{AreAttempts, Attempt, IsPrefix, Job, restored}
use Rattle.ckpt_once.specs.Sinks.{AreLast, Sink, contents, published_before, up_to}
use Rattle.ckpt_ledger.specs.Laws.{AreMomentsOf}
use Rattle.ckpt_ledger.specs.Ledgers.{Entry, Moment, acts, after_entries, all_published, completed, entries, nothing}

-- An attempt, as the ledger of a sink is told it. The ledger that is restored at its end was told `early`: all of it; or, if that
-- ledger was lost and one is made from the snapshot of the record, what comes up to the cut of that.
pub record AttemptTold : Type 0 where
  pub attempt : Attempt
  pub early : List Moment
  -- what only the lost ledger was told
  pub late : List Moment

abbrev pub attempts : List AttemptTold → List Attempt
attempts ones = map (λ one. one.attempt) ones

-- It was told each write and each cut of the sink's task, and the records that were completed.
abbrev pub AreTold : Job → Sink → List AttemptTold → Type 0
AreTold job sink [] = Unit {0}
AreTold job sink (one ∷ ones) =
    AreTold job sink ones
    × AreMomentsOf job (restored job (attempts ones)) one.attempt.history sink (one.early ++ one.late)
    × (completed (one.early ++ one.late) ≡ one.attempt.earlier)
    × (has_cut one.attempt.record_id (opened (job.inputs sink.task)) (acts one.early) ≡ true)

abbrev pub entries_in : Job → Sink → List Moment → List Entry
entries_in job sink moments = entries sink.output (opened (job.inputs sink.task)) moments

-- what a ledger publishes as it is told this, and then gives as `publish` when it is restored to a record
abbrev pub published_with : ℕ → List Entry → List ℕ
published_with n told = all_published nothing told ++ contents (up_to n (after_entries nothing told).waiting)

-- Over attempts. `restored` leaves a ledger with nothing, as each attempt begins.
abbrev pub over_restarts : Job → Sink → List AttemptTold → List ℕ
over_restarts job sink [] = []
over_restarts job sink (one ∷ ones) = over_restarts job sink ones ++ published_with one.attempt.record_id (entries_in job sink one.early)

-- A ledger that is restored, or made anew and restored, at each restart publishes what the sink of the laws publishes.
abbrev pub PublishesOverRestarts : Job → Sink → List AttemptTold → Type 0
PublishesOverRestarts job sink ones =
    AreAttempts job (attempts ones)
    → AreLast (attempts ones)
    → IsIn sink.task job.tasks
    → AreTold job sink ones
    → over_restarts job sink ones ≡ published_before job sink (attempts ones)

-- All that a lost ledger published is among that, in this order: what it published behind the cut is asked for again.
abbrev pub LostComesAgain : Job → Sink → AttemptTold → List AttemptTold → Type 0
LostComesAgain job sink one ones =
    AreAttempts job (attempts (one ∷ ones))
    → AreLast (attempts (one ∷ ones))
    → IsIn sink.task job.tasks
    → AreTold job sink (one ∷ ones)
    → IsPrefix (all_published nothing (entries_in job sink (one.early ++ one.late))) (published_with one.attempt.record_id (entries_in job sink one.early))
