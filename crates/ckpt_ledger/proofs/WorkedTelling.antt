-- The worked example meets the premises of the law of restarts.
use Rattle.std.proofs.Common.{◌≤◌, ℕ, List, [], ◌∷◌, refl, inl, inr, arith, subst}
use Rattle.ckpt_align.specs.Steps.{barrier, settled, step}
use Rattle.ckpt_ids.specs.Ordered.{IsIn}
use Rattle.ckpt_once.specs.Jobs.{AreAttempts}
use Rattle.ckpt_once.specs.Sinks.{AreLast}
use Rattle.ckpt_once.specs.WorkedExamples.{have_cut, is_history, job}
use Rattle.ckpt_ledger.specs.Restarts.{AreTold, attempts}
use Rattle.ckpt_ledger.specs.WorkedRestarts.{sink, told}

pub are_attempts : AreAttempts job (attempts (told ∷ []))
are_attempts = (tt, is_history, have_cut)

no_later : (m : ℕ) → IsIn m (7 ∷ []) → m ≤ 7
no_later m (inl e) = omega arith
no_later m (inr none) = absurd none

pub are_last : AreLast (attempts (told ∷ []))
are_last = (tt, no_later)

pub is_task : IsIn sink.task job.tasks
is_task = inr (inl refl)

pub are_told : AreTold job sink (told ∷ [])
unfolding step barrier settled
are_told = (tt, (refl, (refl, tt)), refl, refl)
