-- The worked loops meet the premises of the law of failures.
use Rattle.ckpt_task.proofs.Names.{common_steps, ◌≡◌, ℕ, ◌+◌, ◌==◌, false, true, if◌then◌else◌, List, ◌∷◌, ◌++◌, refl, sym, ap, subst, inl, inr, arith, [], append-nil, Acked, Checkpoint}
use Rattle.ckpt_task.proofs.Names.{SubtaskId, IsIn, Record, Barrier, Element, Channel, barrier, settled, step, CanOpen, accepted_by, along, step_computes, IsTurnOf, restored, starts, Drawn}
use Rattle.ckpt_task.proofs.Names.{Offered, Turn, AreLast, adder, job, line, source, Came, Sent, Took, Acknowledges, came_in, taken_in, told_in, begun, WasCompletedBy, AcceptsTold}
use Rattle.ckpt_task.proofs.Names.{AreLooping, AreLoopsAttempts, HasLooped, IsDownstreamFirst, KeepsOrder, attempts_of, turns_of, Around, HasRun, HasTurned, around, waits_none, takes}
use Rattle.ckpt_task.proofs.Names.{adder_again, adder_did, after_100, again, at, attempt, begin, calls, failed, going, opening, source_again, source_did, with_100}
use Rattle.ckpt_task.proofs.Doing.{has_not_run, runs_more, takes_last}
use Rattle.ckpt_model.specs.State as model
use Rattle.ckpt_task.specs.declared.turn.Next.TheVariants as next

pub can_open : CanOpen opening
can_open = grind (arith, common_steps)

-- turns

abbrev Turned : SubtaskId → Around → Around → Type 0
Turned t x y = HasTurned (job.program t) (λ _. []) x y

-- the source reads on from this offset
draws_at : (s : ℕ) (x : Around) → x.task ≡ at s → Turned source x (around (at (s + 1)) (Sent 0 (s + 100) ∷ Took ∷ Came next.Draw ∷ x.deeds) x.saved x.refused)
draws_at s x is = grind (arith, common_steps)

-- the adder takes 100
takes_100 : Turned adder begin (around (at 100) with_100 [] [])
unfolding step
takes_100 = record {
  turn = Offered 0 (Element 100);
  came = refl;
  task = refl;
  taken_on = λ j. sym (takes_last (job.program adder) (at 0) (Offered 0 (Element 100)) [] j false refl refl);
  sent_on = λ c. sym (append-nil (if 0 == c then Element 100 ∷ [] else []));
  kept = refl;
}

-- the cut of record 1
source_cuts : Turned source (around (at 1) after_100 [] []) source_did
unfolding step barrier settled
source_cuts = record {
  turn = Offered 0 (Barrier 1);
  came = refl;
  task = refl;
  taken_on = λ j. ap (λ l. taken_in j after_100 ++ l) (sym (takes_last (job.program source) (at 1) (Offered 0 (Barrier 1)) (came_in after_100) j false refl refl));
  sent_on = λ c. refl;
  kept = inl refl;
}

adder_cuts : Turned adder (around (at 100) with_100 [] []) adder_did
unfolding step barrier settled
adder_cuts = record {
  turn = Offered 0 (Barrier 1);
  came = refl;
  task = refl;
  taken_on = λ j. ap (λ l. taken_in j with_100 ++ l) (sym (takes_last (job.program adder) (at 100) (Offered 0 (Barrier 1)) (came_in with_100) j false refl refl));
  sent_on = λ c. refl;
  kept = inl refl;
}

-- runs

one_run : (t : SubtaskId) (x y : Around) → Turned t x y → HasRun (job.program t) waits_none 1 x y
one_run t x y one = runs_more (job.program t) waits_none (λ _. []) 0 x x y (has_not_run (job.program t) waits_none x) one refl

two_runs : (t : SubtaskId) (x y z : Around) → Turned t x y → Turned t y z → HasRun (job.program t) waits_none 2 x z
two_runs t x y z one two = runs_more (job.program t) waits_none (λ _. []) 1 x y z (one_run t x y one) two refl

source_looped : HasLooped (job.program source) (at 0) (going begin source_did)
source_looped = record {
  task = refl;
  unused = refl;
  begins = begin ∷ [];
  runs = (refl, (waits_none, 2, two_runs source begin (around (at 1) after_100 [] []) source_did (draws_at 0 begin refl) source_cuts));
}

adder_looped : HasLooped (job.program adder) (at 0) (going begin adder_did)
adder_looped = record {
  task = refl;
  unused = refl;
  begins = begin ∷ [];
  runs = (refl, (waits_none, 2, two_runs adder begin (around (at 100) with_100 [] []) adder_did takes_100 adder_cuts));
}

source_looped_again : HasLooped (job.program source) (at 1) source_again
source_looped_again = record {
  task = refl;
  unused = refl;
  begins = source_again.first ∷ [];
  runs = (refl, (waits_none, 1, one_run source source_again.first source_again.last (draws_at 1 source_again.first refl)));
}

adder_looped_again : HasLooped (job.program adder) (at 100) adder_again
adder_looped_again = record { task = refl; unused = refl; begins = []; runs = refl }

-- the job

pub at_tasks : (P : SubtaskId → Type 0) → P source → P adder → (t : SubtaskId) → IsIn t job.tasks → P t
at_tasks P first second t (inl e) = subst P (sym e) first
at_tasks P first second t (inr (inl e)) = subst P (sym e) second
at_tasks P first second t (inr (inr none)) = absurd none

pub at_line : (P : Channel → Type 0) → P line → (c : Channel) → IsIn c job.channels → P c
at_line P it c (inl e) = subst P (sym e) it
at_line P it c (inr none) = absurd none

no_cycle : IsDownstreamFirst job (adder ∷ source ∷ [])
no_cycle = grind (arith, common_steps)

swapped : (t s u : SubtaskId) → IsIn t (s ∷ u ∷ []) → IsIn t (u ∷ s ∷ [])
swapped t s u (inl e) = inr (inl e)
swapped t s u (inr (inl e)) = inl e
swapped t s u (inr (inr none)) = absurd none

-- the turns of the source and the adder

one_turn : (P : Turn → Type 0) (u : Turn) → P u → (turn : Turn) → IsIn turn (u ∷ []) → P turn
one_turn P u first turn (inl e) = subst P (sym e) first
one_turn P u first turn (inr none) = absurd none

two_turns : (P : Turn → Type 0) (u v : Turn) → P u → P v → (turn : Turn) → IsIn turn (u ∷ v ∷ []) → P turn
two_turns P u v first second turn (inl e) = subst P (sym e) first
two_turns P u v first second turn (inr has) = one_turn P v second turn has

no_turn : (P : Turn → Type 0) (turn : Turn) → IsIn turn [] → P turn
no_turn P turn none = absurd none

pub failed_looping : AreLooping job (starts job) failed
failed_looping = record {
  looped = let Did : SubtaskId → Type 0 = λ t. HasLooped (job.program t) ((begun job (starts job)).task t) (failed.looped t) in at_tasks Did source_looped adder_looped;
  are_turns = λ t turn has.
      let Are : SubtaskId → Type 0 = λ s. (u : Turn) → IsIn u (turns_of (failed.looped s)) → IsTurnOf job s u in
      at_tasks Are (two_turns (IsTurnOf job source) (Offered 0 (Barrier 1)) Drawn (inl refl) (inl refl, inl refl))
      (two_turns (IsTurnOf job adder) (Offered 0 (Barrier 1)) (Offered 0 (Element 100)) (inr (inl refl)) (inr (inl refl), (line, inl refl, refl, refl))) t has turn;
  keep_order = let Keeps : Channel → Type 0 = λ c. KeepsOrder failed c in at_line Keeps ([], refl);
  has_no_cycle = no_cycle;
  are_tasks = λ t. (swapped t adder source, swapped t source adder);
}

-- record 1

abbrev pub acked : SubtaskId → Acked
acked t = record { subtask = t; files = [] }

pub accepted_are : along (accepted_by 1) (model.opened opening) calls ≡ acked source ∷ acked adder ∷ []
unfolding step_computes
accepted_are = refl

abbrev Tells : Acked → Type 0
Tells a = IsIn a.subtask job.tasks × IsIn (Acknowledges 1) (told_in (failed.looped a.subtask).last.deeds)

have_told : (a : Acked) → IsIn a (acked source ∷ acked adder ∷ []) → Tells a
have_told a (inl e) = subst (λ (k : Acked). Tells k) (sym e) (inl refl, inl refl)
have_told a (inr (inl e)) = subst (λ (k : Acked). Tells k) (sym e) (inr (inl refl), inl refl)
have_told a (inr (inr none)) = absurd none

accepts_told : AcceptsTold opening job failed 1 calls
accepts_told a has = have_told a (subst (λ (ones : List Acked). IsIn a ones) accepted_are has)

abbrev one_done : Record
one_done = record { id = 1; kind = Checkpoint; done = true; shape = 1 ∷ 1 ∷ []; started = 1000; acks = acked source ∷ acked adder ∷ []; pins = [] }

was_completed : WasCompletedBy (AcceptsTold opening job failed) 1 opening job
unfolding step_computes
was_completed = record {
  calls = calls;
  are_calls = (tt, (tt, (tt, tt)));
  done_record = one_done;
  is_live = inl refl;
  is_done = refl;
  is_this = refl;
  is_of_job = refl;
  acknowledged = accepts_told;
}

pub are_attempts : AreLoopsAttempts opening job (attempt ∷ [])
are_attempts = (tt, failed_looping, was_completed)

pub are_last : AreLast (attempts_of (attempt ∷ []))
are_last = (tt, λ m none. absurd none)

-- the attempt since then

again_begun : (t : SubtaskId) → IsIn t job.tasks → HasLooped (job.program t) ((begun job (restored job (attempts_of (attempt ∷ [])))).task t) (again.looped t)
unfolding step barrier settled
again_begun = grind (arith, common_steps, adder_looped_again, at_tasks, source_looped_again)

pub again_looping : AreLooping job (restored job (attempts_of (attempt ∷ []))) again
again_looping = record {
  looped = again_begun;
  are_turns = λ t turn has.
      let Are : SubtaskId → Type 0 = λ s. (u : Turn) → IsIn u (turns_of (again.looped s)) → IsTurnOf job s u in
      at_tasks Are (one_turn (IsTurnOf job source) Drawn (inl refl, inl refl)) (no_turn (IsTurnOf job adder)) t has turn;
  keep_order = let Keeps : Channel → Type 0 = λ c. KeepsOrder again c in at_line Keeps (Element 101 ∷ [], refl);
  has_no_cycle = no_cycle;
  are_tasks = λ t. (swapped t adder source, swapped t source adder);
}
