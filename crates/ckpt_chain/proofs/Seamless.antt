-- Restarts to done records since a sound state.
use Rattle.ckpt_chain.proofs.Names.{ℕ, List, [], ◌∷◌, sym, subst, SubtaskId, IsIn, HasCut, Machine, IsWell, Agree, HasNoChoice, Plan, Attempt, AreAttempts, HaveCut, History, IsHistory}
use Rattle.ckpt_chain.proofs.Names.{IsJob, IsRun, Job, Run, States, network, restored, run_of, run_of_attempts, starts, IsSeamless, AreLast, Sink, published_before, written, one_output}
use Rattle.ckpt_chain.proofs.Names.{failures_invisible, is_restored, published_is_prefix, published_once, AreRestarts, ExactlyOnce, RestartsInvisible, WasDone}
use Rattle.ckpt_chain.proofs.Cutting.{has_cut-from_done}

have_cut : (n : ℕ) (m : Machine) (job : Job) (from : States) (h : History) → IsWell m → WasDone n m job from h → HaveCut n job from h
have_cut n m job from h i was t has =
    subst (λ (k : ℕ). HasCut k ((network job from h).task t)) was.is_this
    (has_cut-from_done m was.events (network job from h) was.done_record t i was.are_events was.is_live was.is_done was.acknowledged
    (subst (λ (ts : List SubtaskId). IsIn t ts) (sym was.is_of_job) has))

pub are_attempts : (m : Machine) (job : Job) (attempts : List Attempt) → IsWell m → AreRestarts m job attempts → AreAttempts job attempts
are_attempts m job [] i k = tt
are_attempts m job (attempt ∷ attempts) i k =
    (are_attempts m job attempts i k.0, k.1, have_cut attempt.record_id m job (restored job attempts) attempt.history i k.2)

pub seamless : (job : Job) (attempts : List Attempt) (h : History) → IsJob job → AreAttempts job attempts → AreLast attempts → IsHistory job (restored job attempts) h → IsSeamless job attempts h
seamless job attempts h is are last k =
    let one = failures_invisible job attempts h is are k in
    record {
      first = run_of_attempts job attempts;
      later = run_of job h;
      is_run = one.0;
      is_quiet = one.1;
      has_states = one.2;
      was_published = λ sink has. published_once job attempts sink is are last has;
      is_published = λ sink completed has. published_is_prefix job attempts sink h completed is are last has;
    }

pub agrees : (job : Job) (plan : Plan) (attempts : List Attempt) → IsJob job → HasNoChoice job plan → AreAttempts job attempts → AreLast attempts
    → (run : Run) (sink : Sink) → IsRun job (starts job) run → IsIn sink.task job.tasks → Agree (published_before job sink attempts) (written job (starts job) run sink)
agrees job plan attempts is only are last run sink r has =
    let before = is_restored job attempts is are in
    subst (λ (xs : List ℕ). Agree xs (written job (starts job) run sink)) (sym (published_once job attempts sink is are last has))
    ((one_output job (starts job) plan (run_of_attempts job attempts) run only before.run r).1 sink)

pub restarts_invisible : (m : Machine) (job : Job) (attempts : List Attempt) (h : History) → IsWell m → RestartsInvisible m job attempts h
restarts_invisible m job attempts h i is are last k = seamless job attempts h is (are_attempts m job attempts i are) last k

pub exactly_once : (m : Machine) (job : Job) (plan : Plan) (attempts : List Attempt) → IsWell m → ExactlyOnce m job plan attempts
exactly_once m job plan attempts i is only are last run sink r has = agrees job plan attempts is only (are_attempts m job attempts i are) last run sink r has
