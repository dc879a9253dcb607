-- A run in a shape is a run of the job of the keys.
use Rattle.ckpt_other_cuts.proofs.Names.{common_steps, arith, ◌≡◌, ℕ, Bool, true, false, List, ◌∷◌, ◌++◌, ◌∙◌, refl, sym, ap, subst, [], filter, both_ways, false_from_ne_true, filter-append}
use Rattle.ckpt_other_cuts.proofs.Names.{SubtaskId, IsIn, same_subtask, same_subtask-Decides, Channel, Move, emitted, on_output, By, IsJob, IsPrefix, IsQuiet, IsRun, Job, Run, States, of}
use Rattle.ckpt_other_cuts.proofs.Names.{put_on, states_after, taken_off, Sink, written, put-join, of_here, of_there, IsForOwn, IsOfKey, IsRoutedByKey, IsShapeOf, Spread, channel_over}
use Rattle.ckpt_other_cuts.proofs.Names.{finest, key_states, outlet, sink_over}

-- the moves of the keys
abbrev pub key_run : Job → Spread → States → Run → Run
key_run job spread from [] = []
key_run job spread from (step ∷ run) = spread.mover step.task (states_after job from run step.task) step.what ∷ key_run job spread from run

elsewhere : (spread : Spread) (task k : SubtaskId) (one : By Move) → spread.owner one.task ≡ task → same_subtask task (spread.owner k) ≡ false → same_subtask one.task k ≡ false
elsewhere spread task k one own e =
    false_from_ne_true (same_subtask one.task k) (λ same. both_ways (same_subtask task (spread.owner k)) e ((same_subtask-Decides task (spread.owner k)).1 (sym own ∙ ap spread.owner ((same_subtask-Decides one.task k).0 same))))

-- one move

step_writes : (keys job : Job) (spread : Spread) (now : States) (step : By Move) (sink : Sink) (b : Bool) → same_subtask step.task (spread.owner sink.task) ≡ b → IsIn sink.task keys.tasks
    → IsForOwn spread step.task (now step.task) step.what → IsOfKey keys job spread step.task (now step.task) step.what
    → written keys (key_states spread now) (spread.mover step.task (now step.task) step.what ∷ []) sink ≡ filter (spread.is_from sink) (written job now (step ∷ []) (sink_over spread sink))
step_writes keys job spread now step sink true e has own of_key =
    let one : By Move = spread.mover step.task (now step.task) step.what in
    let k : SubtaskId = sink.task in
    let task : SubtaskId = spread.owner k in
    let o : ℕ = spread.output sink in
    let same : step.task ≡ task = (same_subtask-Decides step.task task).0 e in
    ap (λ t. on_output sink.output (emitted (keys.program k) (spread.part k (now t)) (of k (one ∷ [])))) (sym same)
    ∙ sym (of_key.emits sink has (sym same))
    ∙ ap (λ t. filter (spread.is_from sink) (on_output o ((job.program t).emits (now t) step.what))) same
    ∙ ap (λ l. filter (spread.is_from sink) (on_output o (emitted (job.program task) (now task) l))) (sym (of_here task step [] same))
step_writes keys job spread now step sink false e has own of_key =
    let one : By Move = spread.mover step.task (now step.task) step.what in
    let k : SubtaskId = sink.task in
    let task : SubtaskId = spread.owner k in
    ap (λ l. on_output sink.output (emitted (keys.program k) (spread.part k (now task)) l)) (of_there k one [] (elsewhere spread step.task k one own e))
    ∙ ap (λ l. filter (spread.is_from sink) (on_output (spread.output sink) (emitted (job.program task) (now task) l))) (sym (of_there task step [] e))

-- all moves

of_keys : (keys job : Job) (spread : Spread) (begun : States) (step : By Move) (run : Run) → IsShapeOf keys job spread → IsRun job begun (step ∷ run) → IsRoutedByKey job spread begun (step ∷ run)
    → IsOfKey keys job spread step.task (states_after job begun run step.task) step.what
of_keys keys job spread begun step run shape r routed = shape.of_keys step.task (states_after job begun run step.task) step.what r.1 routed.1

pub key_states_after : (keys job : Job) (spread : Spread) (begun : States) (run : Run) → IsShapeOf keys job spread → IsRun job begun run → IsRoutedByKey job spread begun run
    → (k : SubtaskId) → IsIn k keys.tasks → key_states spread (states_after job begun run) k ≡ states_after keys (key_states spread begun) (key_run job spread begun run) k
key_states_after keys job spread begun [] shape r routed k has = grind (arith, common_steps)
key_states_after keys job spread begun (step ∷ run) shape r routed k has = grind (arith, common_steps, key_states_after keys job spread begun run shape r.0 routed.0 k)

-- a sink's output as that of a channel; its other end does not count
abbrev pub channel_of : Sink → Channel
channel_of sink = record { sender = sink.task; output = sink.output; receiver = sink.task; input = 0 }

pub written_by_keys : (keys job : Job) (spread : Spread) (begun : States) (run : Run) → IsShapeOf keys job spread → IsRun job begun run → IsRoutedByKey job spread begun run
    → (sink : Sink) → IsIn sink.task keys.tasks → filter (spread.is_from sink) (written job begun run (sink_over spread sink)) ≡ written keys (key_states spread begun) (key_run job spread begun run) sink
written_by_keys keys job spread begun [] shape r routed sink has = refl
written_by_keys keys job spread begun (step ∷ run) shape r routed sink has =
    let now : States = states_after job begun run in
    let one : By Move = spread.mover step.task (now step.task) step.what in
    let test : ℕ → Bool = spread.is_from sink in
    let over : Sink = sink_over spread sink in
    let k : SubtaskId = sink.task in
    let rest : Run = key_run job spread begun run in
    ap (filter test) (put-join job begun (step ∷ []) run (channel_of over))
    ∙ filter-append test (written job begun run over) (written job now (step ∷ []) over)
    ∙ ap (λ l. l ++ filter test (written job now (step ∷ []) over)) (written_by_keys keys job spread begun run shape r.0 routed.0 sink has)
    ∙ ap (λ l. written keys (key_states spread begun) rest sink ++ l)
    (sym (step_writes keys job spread now step sink (same_subtask step.task (spread.owner k)) refl has routed.1 (of_keys keys job spread begun step run shape r routed))
    ∙ ap (λ s. on_output sink.output (emitted (keys.program k) s (of k (one ∷ [])))) (key_states_after keys job spread begun run shape r.0 routed.0 k has))
    ∙ sym (put-join keys (key_states spread begun) (one ∷ []) rest (channel_of sink))

taken_by_keys : (keys job : Job) (spread : Spread) (begun : States) (run : Run) → IsShapeOf keys job spread → IsRun job begun run → IsRoutedByKey job spread begun run
    → (c : Channel) → IsIn c keys.channels → filter (spread.is_from (outlet c)) (taken_off run (channel_over spread c)) ≡ taken_off (key_run job spread begun run) c
taken_by_keys keys job spread begun [] shape r routed c has = grind (arith, common_steps)
taken_by_keys keys job spread begun (step ∷ run) shape r routed c has = grind (arith, common_steps, taken_by_keys keys job spread begun run shape r.0 routed.0 c)

pub is_key_run : (keys job : Job) (spread : Spread) (begun : States) (run : Run) → IsShapeOf keys job spread → IsRun job begun run → IsRoutedByKey job spread begun run
    → IsJob keys → IsRun keys (key_states spread begun) (key_run job spread begun run)
is_key_run keys job spread begun [] shape r routed is = tt
is_key_run keys job spread begun (step ∷ run) shape r routed is = (
  is_key_run keys job spread begun run shape r.0 routed.0 is,
  (of_keys keys job spread begun step run shape r routed).is_move,
  λ c has.
      let test : ℕ → Bool = spread.is_from (outlet c) in
      let over : Channel = channel_over spread c in
      let h : IsPrefix (taken_off (step ∷ run) over) (put_on job begun run over) = r.2 over (shape.channels c has) in (
        filter test h.0,
        sym (written_by_keys keys job spread begun run shape r.0 routed.0 (outlet c) (is c has).0)
            ∙ ap (filter test) h.1
            ∙ filter-append test (taken_off (step ∷ run) over) h.0
            ∙ ap (λ l. l ++ filter test h.0) (taken_by_keys keys job spread begun (step ∷ run) shape r routed c has),
      ),
)

pub is_key_quiet : (keys job : Job) (spread : Spread) (begun : States) (run : Run) → IsShapeOf keys job spread → IsRun job begun run → IsRoutedByKey job spread begun run
    → IsQuiet job begun run → IsJob keys → IsQuiet keys (key_states spread begun) (key_run job spread begun run)
is_key_quiet keys job spread begun run shape r routed quiet is c has =
    let over : Channel = channel_over spread c in
    sym (written_by_keys keys job spread begun run shape r routed (outlet c) (is c has).0)
    ∙ ap (filter (spread.is_from (outlet c))) (quiet over (shape.channels c has))
    ∙ taken_by_keys keys job spread begun run shape r routed c has

-- states that are the same for the keys of the job lead to the same

abbrev pub AgreeOn : Job → States → States → Type 0
AgreeOn keys s t = (k : SubtaskId) → IsIn k keys.tasks → s k ≡ t k

pub same_run : (keys : Job) (s t : States) (run : Run) → IsJob keys → AgreeOn keys s t → IsRun keys s run → IsRun keys t run
same_run keys s t [] is same r = tt
same_run keys s t (step ∷ run) is same r = (
  same_run keys s t run is same r.0,
  r.1,
  λ c has.
      let Begins : ℕ → Type 0 = λ from. IsPrefix (taken_off (step ∷ run) c) (on_output c.output (emitted (keys.program c.sender) from (of c.sender run))) in
      subst Begins (same c.sender (is c has).0) (r.2 c has),
)

pub same_quiet : (keys : Job) (s t : States) (run : Run) → IsJob keys → AgreeOn keys s t → IsQuiet keys s run → IsQuiet keys t run
same_quiet keys s t run is same quiet c has =
    ap (λ from. on_output c.output (emitted (keys.program c.sender) from (of c.sender run))) (sym (same c.sender (is c has).0)) ∙ quiet c has

-- each key a subtask by itself

filter_true : (xs : List ℕ) → filter (λ x. true) xs ≡ xs
filter_true [] = refl
filter_true (x ∷ xs) = ap (λ l. x ∷ l) (filter_true xs)

here : (t : SubtaskId) (one : By Move) → t ≡ one.task → of t (one ∷ []) ≡ one.what ∷ []
here t one same = of_here t one [] (sym same)

pub finest_is_shape : (keys : Job) → IsShapeOf keys keys finest
finest_is_shape keys = grind (arith, common_steps, filter_true, here, of_keys)
