-- Restarts in other shapes, one behind the other.
use Rattle.ckpt_other_cuts.proofs.Names.{◌≡◌, ℕ, Bool, List, ◌∷◌, ◌++◌, ◌∙◌, refl, sym, ap, [], filter, append_assoc, filter-append, SubtaskId, IsIn, CanOpen, Opening, HaveCut, History}
use Rattle.ckpt_other_cuts.proofs.Names.{IsJob, IsQuiet, IsRun, Job, Run, States, before_cuts, of, run_of, starts, states_after, emitted, on_output, state, Sink, published_in, written}
use Rattle.ckpt_other_cuts.proofs.Names.{is_quiet-join, put-join, runs_join, states-join, record_is_of_run, without_barriers, AreRestarts, IsBegun, IsShapeOf, ReshapingInvisible, Restart}
use Rattle.ckpt_other_cuts.proofs.Names.{Spread, Stage, key_states, published_before, published_now, recorded, sink_over, published_attempt, have_cut}
use Rattle.ckpt_other_cuts.proofs.KeyRuns.{AgreeOn, channel_of, is_key_quiet, is_key_run, key_run, key_states_after, same_quiet, same_run, written_by_keys}
use Rattle.ckpt_once.proofs.Publishing.{published_now as published_since}

-- runs one behind the other

-- a stage

-- the moves of the keys before the cuts, one stage behind the other
stage_run : ℕ → Stage → Run
stage_run n stage = key_run stage.job stage.spread stage.from (run_of stage.job (before_cuts n stage.job stage.from stage.history))

run_of_stages : List Restart → Run
run_of_stages [] = []
run_of_stages (restart ∷ restarts) = stage_run restart.record_id restart.stage ++ run_of_stages restarts

record IsReached (keys : Job) (restarts : List Restart) (run : Run) : Type 0 where
  pub is_run : IsRun keys (starts keys) run
  pub quiet : IsQuiet keys (starts keys) run
  pub states : (k : SubtaskId) → IsIn k keys.tasks → recorded keys restarts k ≡ states_after keys (starts keys) run k
  pub published : (sink : Sink) → IsIn sink.task keys.tasks → published_before sink restarts ≡ written keys (starts keys) run sink

-- the states that a stage begins with are those that the run before has led to
given : (keys : Job) (restarts : List Restart) (stage : Stage) (run : Run) → IsBegun keys (recorded keys restarts) stage → IsReached keys restarts run
    → AgreeOn keys (key_states stage.spread stage.from) (states_after keys (starts keys) run)
given keys restarts stage run begins before k has = begins.is_given k has ∙ before.states k has

is_reached : (o : Opening) (keys : Job) (restarts : List Restart) → CanOpen o → IsJob keys → AreRestarts o keys restarts → IsReached keys restarts (run_of_stages restarts)
unfolding run_of_stages stage_run
is_reached o keys [] opens is are = record { is_run = tt; quiet = λ c has. refl; states = λ k has. refl; published = λ sink has. refl }
is_reached o keys (restart ∷ restarts) opens is are =
    let stage : Stage = restart.stage in
    let job : Job = stage.job in
    let spread : Spread = stage.spread in
    let begun : States = stage.from in
    let n : ℕ = restart.record_id in
    let h : History = stage.history in
    let begins = are.1 in
    let ends = are.2 in
    let shape : IsShapeOf keys job spread = begins.is_shape in
    let first : Run = run_of_stages restarts in
    let plain : Run = run_of job (before_cuts n job begun h) in
    let second : Run = key_run job spread begun plain in
    let before = is_reached o keys restarts opens is are.0 in
    let cut : HaveCut n job begun h = have_cut n o job begun h opens ends.was_done in
    let of_record = record_is_of_run n job begun h begins.is_job begins.is_history cut in
    let reached : States = states_after keys (starts keys) first in
    let same : AgreeOn keys (key_states spread begun) reached = given keys restarts stage first begins before in
    let wrote : Sink → List ℕ = written keys (starts keys) first in
    record {
      is_run = (runs_join keys (starts keys) first second before.is_run before.quiet (same_run keys (key_states spread begun) reached second is same (is_key_run keys job spread begun plain shape of_record.0 ends.is_routed is))).0;
      quiet = is_quiet-join keys (starts keys) first second before.quiet (same_quiet keys (key_states spread begun) reached second is same (is_key_quiet keys job spread begun plain shape of_record.0 ends.is_routed of_record.1 is));
      states = λ k has. ap (spread.part k) (of_record.2 (spread.owner k))
          ∙ key_states_after keys job spread begun plain shape of_record.0 ends.is_routed k has
          ∙ ap (λ s. state (keys.program k) s (of k second)) (same k has)
          ∙ states-join keys (starts keys) second first k;
      published = λ sink has. ap (λ l. l ++ published_now stage sink (restart.earlier ++ n ∷ [])) (before.published sink has)
          ∙ ap (λ l. wrote sink ++ filter (spread.is_from sink) l) (published_attempt n job begun h (sink_over spread sink) restart.earlier cut (shape.tasks sink.task has) ends.is_last)
          ∙ ap (λ l. wrote sink ++ l) (written_by_keys keys job spread begun plain shape of_record.0 ends.is_routed sink has)
          ∙ ap (λ s. wrote sink ++ on_output sink.output (emitted (keys.program sink.task) s (of sink.task second))) (same sink.task has)
          ∙ sym (put-join keys (starts keys) second first (channel_of sink));
    }

pub reshaping_invisible : (o : Opening) (keys : Job) (restarts : List Restart) (stage : Stage) → CanOpen o → ReshapingInvisible o keys restarts stage
reshaping_invisible o keys restarts stage opens is are begins routed =
    let job : Job = stage.job in
    let spread : Spread = stage.spread in
    let begun : States = stage.from in
    let h : History = stage.history in
    let shape : IsShapeOf keys job spread = begins.is_shape in
    let first : Run = run_of_stages restarts in
    let plain : Run = run_of job h in
    let second : Run = key_run job spread begun plain in
    let before = is_reached o keys restarts opens is are in
    let now = without_barriers job begun h begins.is_history in
    let reached : States = states_after keys (starts keys) first in
    let same : AgreeOn keys (key_states spread begun) reached = given keys restarts stage first begins before in
    let wrote : Sink → List ℕ = written keys (starts keys) first in
    record {
      first = first;
      later = second;
      is_run = (runs_join keys (starts keys) first second before.is_run before.quiet (same_run keys (key_states spread begun) reached second is same (is_key_run keys job spread begun plain shape now.0 routed is))).0;
      is_quiet = before.quiet;
      has_states = λ k has. ap (spread.part k) (now.1 (spread.owner k))
          ∙ key_states_after keys job spread begun plain shape now.0 routed k has
          ∙ ap (λ s. state (keys.program k) s (of k second)) (same k has)
          ∙ states-join keys (starts keys) second first k;
      was_published = before.published;
      is_published = λ sink completed has.
          let test : ℕ → Bool = spread.is_from sink in
          let over : Sink = sink_over spread sink in
          let gone : List ℕ = published_now stage sink completed in
          let part = published_since job begun h over completed in (
            filter test part.0,
            put-join keys (starts keys) second first (channel_of sink)
                ∙ ap (λ s. wrote sink ++ on_output sink.output (emitted (keys.program sink.task) s (of sink.task second))) (sym (same sink.task has))
                ∙ ap (λ l. wrote sink ++ l) (sym (written_by_keys keys job spread begun plain shape now.0 routed sink has))
                ∙ ap (λ l. wrote sink ++ filter test l) part.1
                ∙ ap (λ l. wrote sink ++ l) (filter-append test (published_in job begun h over completed) part.0)
                ∙ ap (λ l. l ++ (gone ++ filter test part.0)) (sym (before.published sink has))
                ∙ sym (append_assoc (published_before sink restarts) gone (filter test part.0)),
          );
    }
