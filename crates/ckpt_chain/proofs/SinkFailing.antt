-- A sink that a fault stopped counts as one without a fault, with what it published.
use Rattle.ckpt_chain.proofs.Names.{◌≡◌, ℕ, ◌+◌, true, false, List, [], ◌∷◌, ◌++◌, if◌then◌else◌, refl, sym, ap, ◌∙◌, subst, inl, inr, cond_both, Some, SubtaskId, IsIn, same_subtask}
use Rattle.ckpt_chain.proofs.Names.{same_subtask-Decides, opened, Item, Channel, IsTurnOf, Job, States, Program, Sink, runs_more, Counted, begun_restores, faults_count, finishes, going}
use Rattle.ckpt_chain.proofs.Names.{skips, at_as, IsPart, taken_in, Came, CountAsLoops, CountsAs, HasFailed, AreRuns, HasLooped, KeepsOrder, Looped, Loops, deeds_of, turns_of, Around}
use Rattle.ckpt_chain.proofs.Names.{HasRun, IsStopped, WasBegun, around, held_after, sink_waits, under, AreSteps, HasSunkOver, Ran, Sinking, Step, WasTold, around_sink, told_of, SinkAt}
use Rattle.ckpt_chain.proofs.Names.{HasSunkUntilFault, SinkFaultsCount}
use Rattle.std.proofs.lemmas.List.{append_assoc}
use Rattle.ckpt_task.specs.Engines.{begun}

-- its steps as runs

abbrev begins_of : List Step → List Around
begins_of [] = []
begins_of (Ran begin ∷ steps) = around_sink begin ∷ begins_of steps
begins_of (WasTold id begin ∷ steps) = begins_of steps

are_runs : (p : Program) (steps : List Step) (x y : Sinking) → AreSteps p steps x y → AreRuns p (begins_of steps) (around_sink x) (around_sink y)
are_runs p [] x y k = ap around_sink k
are_runs p (Ran begin ∷ steps) x y k = (are_runs p steps x begin k.0, (sink_waits p begin.at, k.1.count, k.1.sunk.run))
are_runs p (WasTold id begin ∷ steps) x y k =
    subst (λ (z : Around). AreRuns p (begins_of steps) (around_sink x) z) (sym k.1.same) (are_runs p steps x begin k.0)

abbrev has_failed : (job : Job) (from : States) (sink : Sink) (l : Looped) → HasSunkUntilFault job from sink l → HasFailed (job.program sink.task) (at_as (from sink.task) (opened (job.inputs sink.task))) l
has_failed job from sink l until = record {
  task = ap (λ (x : Around). x.task) until.begins ∙ until.task;
  unused = ap (λ (x : Around). x.deeds) until.begins ∙ until.unused;
  begins = begins_of until.steps;
  last_begin = around_sink until.last;
  runs = subst (λ (x : Around). AreRuns (job.program sink.task) (begins_of until.steps) x (around_sink until.last)) (sym until.begins)
      (are_runs (job.program sink.task) until.steps until.first until.last until.are_steps);
  waits = sink_waits (job.program sink.task) until.last.at;
  stopped = until.stopped;
  ended_not = until.ended_not;
}

-- a sink without a fault, which ended here
record SinksTo (job : Job) (from : States) (sink : Sink) (published told : List ℕ) (k : Looped) : Type 0 where
  over : HasSunkOver job from sink k
  same_published : over.last.published ≡ published
  same_told : told_of over.steps ≡ told

sinks_to : (job : Job) (from : States) (sink : Sink) (l : Looped) (until : HasSunkUntilFault job from sink l) (n : ℕ) (y : Around)
    → HasRun (job.program sink.task) (sink_waits (job.program sink.task) until.last.at) n (around_sink until.last) y
    → SinksTo job from sink until.last.published (told_of until.steps) (going l.first y)
sinks_to job from sink l until n y run =
    let last : SinkAt = until.last.at in
    let at : SinkAt = record { task = y.task; held = held_after (job.program sink.task) last run.turns; output = last.output; has_failed = last.has_failed } in
    let ending : Sinking = record { at = at; deeds = y.deeds; saved = y.saved; refused = y.refused; published = until.last.published } in
    record {
      over = record {
        first = until.first;
        last = ending;
        steps = Ran until.last ∷ until.steps;
        task = until.task;
        held = until.held;
        output = until.output;
        unused = until.unused;
        unpublished = until.unpublished;
        are_steps = (until.are_steps, record { count = n; sunk = record { run = run; held = refl; output = refl }; published = refl });
        is_loop = ap (λ (x : Around). going x y) until.begins;
      };
      same_published = refl;
      same_told = refl;
    }

record SinkCounted (job : Job) (from : States) (sink : Sink) (l : Looped) (published told : List ℕ) : Type 0 where
  loop : Looped
  counted : Counted (job.program sink.task) (from sink.task) (job.inputs sink.task) l loop
  sinks : SinksTo job from sink published told loop

abbrev IsSinkCounted : (job : Job) (from : States) (sink : Sink) (l : Looped) → HasSunkUntilFault job from sink l → Type 0
IsSinkCounted job from sink l until = SinkCounted job from sink l until.last.published (told_of until.steps)

by_part : (job : Job) (from : States) (sink : Sink) (l : Looped) (until : HasSunkUntilFault job from sink l)
    (begun : WasBegun (job.program sink.task) (λ turn. sink_waits (job.program sink.task) until.last.at (turn ∷ until.stopped.run.turns)) until.stopped.whole l.last)
    → IsPart (Came begun.next ∷ until.stopped.whole.deeds) l.last.deeds begun.all → IsSinkCounted job from sink l until
by_part job from sink l until begun (inl same) =
    let p : Program = job.program sink.task in
    record {
      loop = going l.first until.stopped.whole;
      counted = skips p (from sink.task) (job.inputs sink.task) l (has_failed job from sink l until) (Some begun.next) same
          (begun_restores p (from sink.task) (job.inputs sink.task) l (has_failed job from sink l until) begun same);
      sinks = sinks_to job from sink l until until.stopped.count until.stopped.whole until.stopped.run;
    }
by_part job from sink l until begun (inr rest) =
    let p : Program = job.program sink.task in
    let z : Around = around l.last.task begun.all l.last.saved l.last.refused in
    record {
      loop = going l.first z;
      counted = finishes p (from sink.task) (job.inputs sink.task) l (has_failed job from sink l until) begun rest;
      sinks = sinks_to job from sink l until (until.stopped.count + 1) z
          (runs_more p (sink_waits p until.last.at) (λ turn. sink_waits p until.last.at (turn ∷ until.stopped.run.turns)) until.stopped.count (around_sink until.last) until.stopped.whole z
          until.stopped.run begun.turned refl);
    }

by_stop : (job : Job) (from : States) (sink : Sink) (l : Looped) (until : HasSunkUntilFault job from sink l)
    → IsStopped (job.program sink.task) (λ turn. sink_waits (job.program sink.task) until.last.at (turn ∷ until.stopped.run.turns)) until.stopped.whole l.last
    → IsSinkCounted job from sink l until
by_stop job from sink l until (inl none) = record {
  loop = going l.first until.stopped.whole;
  counted = skips (job.program sink.task) (from sink.task) (job.inputs sink.task) l (has_failed job from sink l until) none.next none.deeds (λ n has. sym (ap (under n) none.saved));
  sinks = sinks_to job from sink l until until.stopped.count until.stopped.whole until.stopped.run;
}
by_stop job from sink l until (inr begun) = by_part job from sink l until begun begun.part

-- THE JOB

-- channels keep their order if each task counts so
keeps_order : (e loops : Loops) (c : Channel) → CountsAs (e.looped c.sender) (loops.looped c.sender) → CountsAs (e.looped c.receiver) (loops.looped c.receiver) → KeepsOrder e c → KeepsOrder loops c
keeps_order e loops c sender receiver way =
    let put = sender.sent_on c.output in (
      way.0 ++ put.0,
      put.1
          ∙ ap (λ (items : List Item). items ++ put.0) way.1
          ∙ append_assoc (taken_in c.input (deeds_of (e.looped c.receiver))) way.0 put.0
          ∙ ap (λ (items : List Item). items ++ (way.0 ++ put.0)) (sym (receiver.taken_on c.input)),
    )

pub sink_faults_count : (job : Job) (from : States) (sink : Sink) (e : Loops) → SinkFaultsCount job from sink e
sink_faults_count job from sink e is are member until =
    let others : CountAsLoops job from e = faults_count job from e is are in
    let its : IsSinkCounted job from sink (e.looped sink.task) until = by_stop job from sink (e.looped sink.task) until until.stopped.stopped in
    let loops : Loops = record { looped = λ t. if same_subtask t sink.task then its.loop else others.loops.looped t; order = others.loops.order } in
    let either : (P : SubtaskId → Looped → Type 0) (t : SubtaskId) → P sink.task its.loop → P t (others.loops.looped t) → P t (loops.looped t) =
    λ P t yes no.
    cond_both (same_subtask t sink.task) its.loop (others.loops.looped t) (P t)
    (λ same. subst (λ (s : SubtaskId). P s its.loop) (sym ((same_subtask-Decides t sink.task).0 same)) yes) (λ _. no) in
    let count : (t : SubtaskId) → IsIn t job.tasks → CountsAs (e.looped t) (loops.looped t) =
    λ t has. either (λ s l. CountsAs (e.looped s) l) t its.counted.counts (others.count t has) in
    let here : loops.looped sink.task ≡ its.loop =
    cond_both (same_subtask sink.task sink.task) its.loop (others.loops.looped sink.task) (λ (l : Looped). l ≡ its.loop) (λ _. refl)
    (λ other. absurd (differ sink.task other)) in
    let sinks : SinksTo job from sink until.last.published (told_of until.steps) (loops.looped sink.task) =
    subst (λ (l : Looped). SinksTo job from sink until.last.published (told_of until.steps) l) (sym here) its.sinks in
    record {
      loops = loops;
      are_looping = record {
        looped = λ t has. either (λ s l. HasLooped (job.program s) ((begun job from).task s) l) t its.counted.looped (others.are_looping.looped t has);
        are_turns = λ t turn has.
            either (λ s l. IsIn turn (turns_of l) → IsTurnOf job s turn) t (λ came. are.are_turns sink.task turn member (its.counted.turns turn came))
            (λ came. others.are_looping.are_turns t turn has came);
        keep_order = λ c has. keeps_order e loops c (count c.sender (is c has).0) (count c.receiver (is c has).1) (are.keep_order c has);
        has_no_cycle = others.are_looping.has_no_cycle;
        are_tasks = others.are_looping.are_tasks;
      };
      count = count;
      over = sinks.over;
      same_published = sinks.same_published;
      same_told = sinks.same_told;
    }
  where
    differ : (t : SubtaskId) → same_subtask t t ≡ false → ⊥
    differ t other = let yes : same_subtask t t ≡ true = (same_subtask-Decides t t).1 refl in cc
