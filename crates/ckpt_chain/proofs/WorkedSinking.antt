-- The worked example of a sink in a loop meets the premises of the laws.
use Rattle.ckpt_chain.proofs.Names.{◌≡◌, ℕ, ◌+◌, false, List, [], ◌∷◌, ◌++◌, if◌then◌else◌, refl, sym, ap, ◌∙◌, subst, inl, inr, ◌==◌, Some, Acked, Ack, Tick, SubtaskId, IsIn, Record}
use Rattle.ckpt_chain.proofs.Names.{subtasks, Barrier, Element, barrier, settled, record_of, step_computes, replay, accepted_by, along, synced, IsTurnOf, starts, Offered, WasCompleted}
use Rattle.ckpt_chain.proofs.Names.{adder, job, source, Deed, Acknowledged, SentBarrier, Acknowledges, came_in, taken_in, told_in, AreLooping, HasLooped, KeepsOrder, turns_of, AreFailing}
use Rattle.ckpt_chain.proofs.Names.{HasFailed, HasLoopedOrFailed, Around, HasRun, HasStopped, HasTurned, Waits, around, held_after, sink_waits, HasSunkOver, HaveGiven, SinkRuns, around_sink}
use Rattle.ckpt_chain.proofs.Names.{loops_of, at, calls, failed, opening, with_100, not_run_as, run_as, takes_last, AreChosenLoops, AcceptsTold, AreToldLoops, acknowledgements_of}
use Rattle.ckpt_chain.proofs.Names.{HasSunkUntilFault, is_synced, now, sink, attempt, cutting, did, ending, failing, starting}
use Rattle.ckpt_chain.proofs.Worked.{acked, checkpoint_in, of_both, subtasks_in}
use Rattle.std.proofs.lemmas.List.{append-nil}
use Rattle.ckpt_align.specs.Steps.{step}
use Rattle.ckpt_model.specs.State as model
use Rattle.ckpt_once.specs.Programs.{Turn}
use Rattle.ckpt_task.specs.declared.turn.Next.TheVariants as next
use Rattle.ckpt_task.specs.Engines.{begun}
use Rattle.ckpt_task.specs.Loops as loop
use Rattle.ckpt_task.specs.WorkedLoops.{begin}
use Rattle.ckpt_task.proofs.WorkedLooping as loops
use Rattle.ckpt_chain.specs.WorkedExamples as chain
use Rattle.ckpt_chain.specs.WorkedSink as worked
use Rattle.ckpt_chain.proofs.Worked as shown

-- its run

abbrev waits : Waits
waits = sink_waits (job.program adder) starting.at

abbrev element : Turn
element = Offered 0 (Element 100)

abbrev middle : Around
middle = around (at 100) with_100 [] []

takes_100 : HasTurned (job.program adder) (λ turn. waits (turn ∷ [])) begin middle
unfolding step
takes_100 = record {
  turn = element;
  came = refl;
  task = refl;
  taken_on = λ j. sym (takes_last (job.program adder) (at 0) element [] j false refl refl);
  sent_on = λ c. sym (append-nil (if 0 == c then Element 100 ∷ [] else []));
  kept = refl;
}

cuts_one : HasTurned (job.program adder) (λ turn. waits (turn ∷ element ∷ [])) middle (around_sink cutting)
unfolding step barrier settled
cuts_one = record {
  turn = Offered 0 (Barrier 1);
  came = refl;
  task = refl;
  taken_on = λ j. ap (λ l. taken_in j with_100 ++ l) (sym (takes_last (job.program adder) (at 100) (Offered 0 (Barrier 1)) (came_in with_100) j false refl refl));
  sent_on = λ c. refl;
  kept = inl refl;
}

-- a run with these turns
record RanWith (n : ℕ) (y : Around) (turns : List Turn) : Type 0 where
  run : HasRun (job.program adder) waits n begin y
  its_turns : run.turns ≡ turns

one_more : (n : ℕ) (y z : Around) (turns : List Turn) (ran : RanWith n y turns) (one : HasTurned (job.program adder) (λ turn. waits (turn ∷ turns)) y z) → RanWith (n + 1) z (one.turn ∷ turns)
one_more n y z turns ran one =
    let more = run_as (job.program adder) waits (λ turn. waits (turn ∷ turns)) n begin y z ran.run one (ap (λ (ts : List Turn). waits (one.turn ∷ ts)) (sym ran.its_turns)) in
    record { run = more.0; its_turns = more.1 ∙ ap (λ (ts : List Turn). one.turn ∷ ts) ran.its_turns }

no_run : RanWith 0 begin []
no_run = let none = not_run_as (job.program adder) waits begin in record { run = none.0; its_turns = none.1 }

ran : RanWith 2 (around_sink cutting) (Offered 0 (Barrier 1) ∷ element ∷ [])
unfolding takes_100 cuts_one
ran = one_more 1 middle (around_sink cutting) (element ∷ []) (one_more 0 begin middle [] no_run takes_100) cuts_one

runs : SinkRuns (job.program adder) starting cutting
unfolding step barrier settled
runs = record {
  count = 2;
  sunk = record { run = ran.run; held = sym (ap (held_after (job.program adder) starting.at) ran.its_turns); output = refl };
  published = refl;
}

over : HasSunkOver job (starts job) sink (did.looped sink.task)
over = record {
  first = starting;
  last = ending;
  steps = worked.steps;
  task = refl;
  held = refl;
  output = refl;
  unused = refl;
  unpublished = refl;
  are_steps = ((refl, runs), record { acknowledged = inl refl; at = refl; same = refl; published = refl });
  is_loop = refl;
}

-- the job

is_source : IsIn source job.tasks
is_source = inl refl

is_adder : IsIn adder job.tasks
is_adder = inr (inl refl)

adder_looped : HasLooped (job.program adder) (at 0) (did.looped adder)
adder_looped = record { task = refl; unused = refl; begins = begin ∷ []; runs = (refl, (waits, 2, ran.run)) }

-- The other task did what it does in `failed`, and the adder the same deeds.
pub is_looping : AreLooping job (starts job) did
is_looping =
    let was : AreLooping job (starts job) failed = loops.failed_looping in
    record {
      looped = let Did : SubtaskId → Type 0 = λ t. HasLooped (job.program t) ((begun job (starts job)).task t) (did.looped t) in
          loops.at_tasks Did (was.looped source is_source) adder_looped;
      are_turns = λ t turn has.
          let Are : SubtaskId → Type 0 = λ s. (u : Turn) → IsIn u (turns_of (did.looped s)) → IsTurnOf job s u in
          loops.at_tasks Are (λ u came. was.are_turns source u is_source came) (λ u came. was.are_turns adder u is_adder came) t has turn;
      keep_order = λ c has. loops.at_line (λ d. KeepsOrder failed d → KeepsOrder did d) (λ k. k) c has (was.keep_order c has);
      has_no_cycle = was.has_no_cycle;
      are_tasks = was.are_tasks;
    }

pub have_given : HaveGiven job sink (attempt ∷ [])
unfolding over
have_given = (tt, record { looping = is_looping; over = over; told = refl; unsaved = refl; given = refl })

-- its record

abbrev Tells : Acked → Type 0
Tells a = IsIn a.subtask job.tasks × IsIn (Acknowledges 1) (told_in (did.looped a.subtask).last.deeds)

have_told : (files : List ℕ) (a : Acked) (ones : List Acked) → ones ≡ acked source [] ∷ acked adder files ∷ [] → IsIn a ones → Tells a
have_told files = of_both (λ (k : Acked). Tells k) (acked source []) (acked adder files) (is_source, inl refl) (is_adder, inl refl)

accepts_told : AcceptsTold 1 chain.begin (synced now) job did
accepts_told a = have_told (5 ∷ []) a (acknowledgements_of 1 chain.begin (synced now)) (ap (acknowledgements_of 1 chain.begin) is_synced ∙ shown.accepted_are)

pub are_told : AreToldLoops chain.begin now job (loops_of (attempt ∷ []))
are_told = (tt, is_looping, shown.was_restored (AcceptsTold 1 chain.begin (synced now) job did) accepts_told)

-- and without names, as the coordinator's choice

accepted_are : along (accepted_by 1) (model.opened opening) calls ≡ acked source [] ∷ acked adder [] ∷ []
unfolding step_computes
accepted_are = refl

accepts : loop.AcceptsTold opening job did 1 calls
accepts a = have_told [] a (along (accepted_by 1) (model.opened opening) calls) accepted_are

completed_one : WasCompleted 1 opening calls
unfolding step_computes
completed_one = record {
  before = Tick 1000 ∷ Ack 1000 1 source [] [] ∷ [];
  now = 1000;
  part = record { subtask = adder; fresh = []; reused = [] };
  later = [];
  are_these = refl;
  completing = refl;
  checkpoint = λ one found. sym (ap checkpoint_in found);
  none_back = tt;
}

completed : (n : ℕ) → IsIn n (1 ∷ []) → WasCompleted n opening calls
completed n (inl e) = subst (λ (k : ℕ). WasCompleted k opening calls) (sym e) completed_one
completed n (inr none) = absurd none

of_job : (one : Record) → record_of (replay (model.opened opening) calls) 1 ≡ Some one → subtasks one.shape ≡ job.tasks
unfolding step_computes
of_job one found = sym (ap subtasks_in found)

pub are_chosen : AreChosenLoops opening job (loops_of (attempt ∷ []))
unfolding step_computes
are_chosen = (
  tt,
  is_looping,
  record { calls = calls; are_calls = (tt, (tt, (tt, tt))); is_choice = refl; earlier_too = completed; is_of_job = of_job; acknowledged = accepts },
)

-- stopped by a fault

element_run : RanWith 1 middle (element ∷ [])
unfolding takes_100
element_run = one_more 0 begin middle [] no_run takes_100

abbrev of_all : List Deed
of_all = (around_sink cutting).deeds

stopped_run : HasStopped (job.program adder) waits begin worked.stopped
unfolding cuts_one
stopped_run = record {
  count = 1;
  whole = middle;
  run = element_run.run;
  stopped = inr (record {
    next = next.Barrier 0 1;
    all = of_all;
    turned = subst (λ (ts : List Turn). HasTurned (job.program adder) (λ turn. waits (turn ∷ ts)) middle (around_sink cutting)) (sym element_run.its_turns) cuts_one;
    part = inr (record { left = Acknowledged 1 ∷ SentBarrier 1 ∷ []; is_left = refl; came = refl; took = λ j. refl });
  });
}

pub until : HasSunkUntilFault job (starts job) sink (failing.looped sink.task)
until = record {
  first = starting;
  last = starting;
  steps = [];
  task = refl;
  held = refl;
  output = refl;
  unused = refl;
  unpublished = refl;
  are_steps = refl;
  begins = refl;
  stopped = stopped_run;
  ended_not = refl;
}

adder_failed : HasFailed (job.program adder) (at 0) (failing.looped adder)
adder_failed = record { task = refl; unused = refl; begins = []; last_begin = begin; runs = refl; waits = waits; stopped = stopped_run; ended_not = refl }

pub are_failing : AreFailing job (starts job) failing
are_failing =
    let was : AreLooping job (starts job) failed = loops.failed_looping in
    record {
      looped = let Did : SubtaskId → Type 0 = λ t. HasLoopedOrFailed (job.program t) ((begun job (starts job)).task t) (failing.looped t) in
          loops.at_tasks Did (inl (was.looped source is_source)) (inr adder_failed);
      are_turns = λ t turn has.
          let Are : SubtaskId → Type 0 = λ s. (u : Turn) → IsIn u (turns_of (failing.looped s)) → IsTurnOf job s u in
          loops.at_tasks Are (λ u came. was.are_turns source u is_source came) (λ u came. was.are_turns adder u is_adder came) t has turn;
      keep_order = λ c has. loops.at_line (λ d. KeepsOrder failed d → KeepsOrder failing d) (λ k. k) c has (was.keep_order c has);
      has_no_cycle = was.has_no_cycle;
      are_tasks = was.are_tasks;
    }
