-- The worked example meets the premises of the laws.
use Rattle.ckpt_chain.proofs.Names.{◌≡◌, ℕ, Bool, false, true, List, [], ◌∷◌, refl, sym, ap, ◌∙◌, subst, inl, inr, Option, Some, None, Acked, Ack, Tick, SubtaskId, IsIn, Record, subtasks}
use Rattle.ckpt_chain.proofs.Names.{is_checkpoint, record_of, Part, ack_of, step_computes, opening_is_sound, FencedCall, Make, fenced, fenced_step, core_in, Event, Fence, IsWell, named_as}
use Rattle.ckpt_chain.proofs.Names.{Channel, barrier, settled, AreTold, attempts, AreTurns, Receipt, World, synced, groups_durable, HasNoChoice, IsPlanned, Draws, Takes, AreLast, adder}
use Rattle.ckpt_chain.proofs.Names.{is_job, job, plan, source, Acknowledges, told_in, failed, opening, AcceptsTold, AreToldLoops, AreRestarts, acknowledgements_of, AreToldRestarts}
use Rattle.ckpt_chain.proofs.Names.{Completes, NeverGoesBack, Restores, WasRestored, WasToldOf, asks_way_back, call_of, AreTermLoops, HasToldOf, TellsInTerm, adder_acks, begin, calls_late}
use Rattle.ckpt_chain.proofs.Names.{is_synced, is_told, log, now, reserves, restores, sink, source_acks, ticks, told, turns}
use Rattle.ckpt_ids.specs.declared.reply.Choice.TheVariants as choice
use Rattle.ckpt_align.specs.Steps.{step}
use Rattle.ckpt_task.proofs.WorkedLooping as loops
use Rattle.ckpt_chain.proofs.Chain.{loops_told}
use Rattle.ckpt_chain.proofs.Telling as telling
use Rattle.ckpt_chain.specs.WorkedExamples.{at, attempt}

pub is_well : IsWell begin
is_well = opening_is_sound opening loops.can_open

pub are_turns : AreTurns turns
are_turns = (tt, (tt, (tt, (tt, (tt, (tt, (tt, (tt, tt))))))))

-- no call of the log goes back
never_in_log : NeverGoesBack begin log
unfolding fenced_step step_computes
never_in_log = (refl, (refl, (refl, (refl, tt))))

pub never_goes_back : NeverGoesBack begin (synced now)
never_goes_back = subst (NeverGoesBack begin) (sym is_synced) never_in_log

-- All that was asked: no way back.
pub nobody_asks : (event : Event) → IsIn event now.made → asks_way_back (call_of event) ≡ false
nobody_asks event has = among event has
  where
    among : (k : Event) → IsIn k (Fence 5 ∷ ticks ∷ reserves ∷ source_acks ∷ adder_acks ∷ adder_acks ∷ restores ∷ calls_late ∷ []) → asks_way_back (call_of k) ≡ false
    among k (inl e) = ap (λ (x : Event). asks_way_back (call_of x)) e
    among k (inr (inl e)) = ap (λ (x : Event). asks_way_back (call_of x)) e
    among k (inr (inr (inl e))) = ap (λ (x : Event). asks_way_back (call_of x)) e
    among k (inr (inr (inr (inl e)))) = ap (λ (x : Event). asks_way_back (call_of x)) e
    among k (inr (inr (inr (inr (inl e))))) = ap (λ (x : Event). asks_way_back (call_of x)) e
    among k (inr (inr (inr (inr (inr (inl e)))))) = ap (λ (x : Event). asks_way_back (call_of x)) e
    among k (inr (inr (inr (inr (inr (inr (inl e))))))) = ap (λ (x : Event). asks_way_back (call_of x)) e
    among k (inr (inr (inr (inr (inr (inr (inr (inl e)))))))) = ap (λ (x : Event). asks_way_back (call_of x)) e
    among k (inr (inr (inr (inr (inr (inr (inr (inr none)))))))) = absurd none

-- what was told

abbrev pub checkpoint_in : Option Record → Bool
checkpoint_in None = true
checkpoint_in (Some one) = is_checkpoint one

completes : Completes (at 4) 1
unfolding fenced_step step_computes
completes = record {
  event = adder_acks;
  entry = refl;
  now = 1000;
  part = record { subtask = adder; fresh = 5 ∷ []; reused = [] };
  asked = refl;
  dropped = 0;
  released = 0;
  told = refl;
  checkpoint = λ one found. sym (ap checkpoint_in found);
}

restores_to_one : Restores (at 5) 1
unfolding fenced_step step_computes
restores_to_one = record {
  event = restores;
  entry = refl;
  now = 2000;
  shape = None;
  asked = refl;
  chosen = choice.Checkpoint 1;
  released = 0;
  told = refl;
  is_this = refl;
}

-- the record is one of the job
abbrev pub subtasks_in : Option Record → List SubtaskId
subtasks_in None = job.tasks
subtasks_in (Some one) = subtasks one.shape

of_job : (one : Record) → record_of (core_in (at 5).state) 1 ≡ Some one → subtasks one.shape ≡ job.tasks
unfolding fenced_step step_computes
of_job one found = sym (ap subtasks_in found)

-- its acknowledgements

abbrev pub acked : SubtaskId → List ℕ → Acked
acked t files = record { subtask = t; files = files }

pub accepted_are : acknowledgements_of 1 begin log ≡ acked source [] ∷ acked adder (5 ∷ []) ∷ []
unfolding fenced_step step_computes
accepted_are = refl

abbrev Tells : Acked → Type 0
Tells a = IsIn a.subtask job.tasks × IsIn (Acknowledges 1) (told_in (failed.looped a.subtask).last.deeds)

-- what holds of both acknowledgements
pub of_both : (P : Acked → Type 0) (first second : Acked) → P first → P second → (a : Acked) (ones : List Acked) → ones ≡ first ∷ second ∷ [] → IsIn a ones → P a
of_both P first second one other a ones these has = among a (subst (λ (xs : List Acked). IsIn a xs) these has)
  where
    among : (k : Acked) → IsIn k (first ∷ second ∷ []) → P k
    among k (inl e) = subst P (sym e) one
    among k (inr (inl e)) = subst P (sym e) other
    among k (inr (inr none)) = absurd none

accepts_told : AcceptsTold 1 begin (synced now) job failed
accepts_told a =
    of_both (λ (k : Acked). Tells k) (acked source []) (acked adder (5 ∷ [])) (inl refl, inl refl) (inr (inl refl), inl refl) a (acknowledgements_of 1 begin (synced now))
    (ap (acknowledgements_of 1 begin) is_synced ∙ accepted_are)

-- of these receipts the fifth says that record 1 was completed, and the sixth that the job was restored to it
pub told_of : (r : ℕ → Receipt) → Completes (r 4) 1 → (k : ℕ) → IsIn k (1 ∷ []) → WasToldOf k (r 0 ∷ r 1 ∷ r 2 ∷ r 3 ∷ r 4 ∷ [])
told_of r completed k (inl e) = subst (λ (j : ℕ). WasToldOf j (r 0 ∷ r 1 ∷ r 2 ∷ r 3 ∷ r 4 ∷ [])) (sym e)
    (record { before = r 0 ∷ r 1 ∷ r 2 ∷ r 3 ∷ []; receipt = r 4; later = []; place = refl; completes = completed })
told_of r completed k (inr none) = absurd none

unfoldable pub restored_to_one : (r : ℕ → Receipt) (w : World) (Premise : Type 0) → w.told ≡ r 0 ∷ r 1 ∷ r 2 ∷ r 3 ∷ r 4 ∷ r 5 ∷ r 6 ∷ [] → Completes (r 4) 1 → Restores (r 5) 1
    → ((one : Record) → record_of (core_in (r 5).state) 1 ≡ Some one → subtasks one.shape ≡ job.tasks) → Premise → WasRestored Premise 1 (1 ∷ []) w job
restored_to_one r w Premise these completed chosen its acknowledged = record {
  before = r 0 ∷ r 1 ∷ r 2 ∷ r 3 ∷ r 4 ∷ [];
  receipt = r 5;
  later = r 6 ∷ [];
  place = these;
  restores = chosen;
  earlier_too = told_of r completed;
  is_of_job = its;
  acknowledged = acknowledged;
}

pub was_restored : (Premise : Type 0) → Premise → WasRestored Premise 1 (1 ∷ []) now job
was_restored Premise = restored_to_one at now Premise is_told completes restores_to_one of_job

pub are_told : AreToldLoops begin now job (attempt ∷ [])
are_told = (tt, loops.failed_looping, was_restored (AcceptsTold 1 begin (synced now) job failed) accepts_told)

-- in terms

abbrev subtask_of : List FencedCall → SubtaskId
subtask_of (Make term (Ack moment id subtask fresh reused) ∷ calls) = subtask
subtask_of calls = source

tells_source : HasToldOf 1 job failed source
tells_source = (inl refl, inl refl)

tells_adder : HasToldOf 1 job failed adder
tells_adder = (inr (inl refl), inl refl)

-- the events behind the trigger
each_tells : (late : Event) (moment : ℕ) (p : Part) → IsIn late (reserves ∷ source_acks ∷ adder_acks ∷ restores ∷ calls_late ∷ []) → named_as late ≡ Make 1 (ack_of moment 1 p) ∷ [] → HasToldOf 1 job failed p.subtask
each_tells late moment p (inl e) is = absurd (no_ack (sym (ap named_as e) ∙ is))
  where
    no_ack : named_as reserves ≡ Make 1 (ack_of moment 1 p) ∷ [] → ⊥
    no_ack k = cc
each_tells late moment p (inr (inl e)) is = subst (HasToldOf 1 job failed) (ap subtask_of (sym (ap named_as e) ∙ is)) tells_source
each_tells late moment p (inr (inr (inl e))) is = subst (HasToldOf 1 job failed) (ap subtask_of (sym (ap named_as e) ∙ is)) tells_adder
each_tells late moment p (inr (inr (inr (inl e)))) is = absurd (no_ack (sym (ap named_as e) ∙ is))
  where
    no_ack : named_as restores ≡ Make 1 (ack_of moment 1 p) ∷ [] → ⊥
    no_ack k = cc
each_tells late moment p (inr (inr (inr (inr (inl e))))) is = subst (HasToldOf 1 job failed) (ap subtask_of (sym (ap named_as e) ∙ is)) tells_adder
each_tells late moment p (inr (inr (inr (inr (inr none))))) is = absurd none

tells_in_term : TellsInTerm 1 begin (synced now) job failed
unfolding fenced_step step_computes
tells_in_term = record {
  before = Fence 5 ∷ [];
  event = ticks;
  after = reserves ∷ source_acks ∷ adder_acks ∷ restores ∷ calls_late ∷ [];
  is_log = is_synced;
  names = fenced opening 5;
  state = refl;
  trigger = Make 0 (Tick 1000);
  asked = refl;
  triggered = refl;
  in_term = each_tells;
}

pub in_terms : AreTermLoops begin now job (attempt ∷ [])
in_terms = (tt, loops.failed_looping, was_restored (TellsInTerm 1 begin (synced now) job failed) tells_in_term)

-- without loops, with a ledger

pub are_restarts : AreToldRestarts begin now job (attempts (told ∷ []))
are_restarts = loops_told begin now job (attempt ∷ []) is_job are_told

pub since : AreRestarts begin job (attempts (told ∷ []))
since = telling.are_restarts begin now job (attempts (told ∷ [])) is_well (telling.its_events begin turns are_turns) (groups_durable begin turns).told are_restarts

pub are_last : AreLast (attempts (told ∷ []))
are_last = telling.are_last begin now job (attempts (told ∷ [])) is_well (telling.its_events begin turns are_turns) never_goes_back (groups_durable begin turns).told are_restarts

pub is_task : IsIn sink.task job.tasks
is_task = inr (inl refl)

pub ledger_told : AreTold job sink (told ∷ [])
unfolding step barrier settled
ledger_told = (tt, (refl, (refl, tt)), refl, refl)

-- no task chooses

abbrev Planned : ℕ → SubtaskId → ℕ → Type 0
Planned x t i = IsPlanned job t (plan t) (Takes i x)

takes_from : (t : SubtaskId) (i x : ℕ) (c : Channel) → IsIn c job.channels → c.receiver ≡ t → c.input ≡ i → Planned x t i
takes_from t i x c (inl e) to on =
    let the_task : adder ≡ t = sym (ap (λ (d : Channel). d.receiver) e) ∙ to in
    let the_input : 0 ≡ i = sym (ap (λ (d : Channel). d.input) e) ∙ on in
    subst (λ (s : SubtaskId). Planned x s i) the_task (subst (Planned x adder) the_input (inl refl, refl, (x, refl)))
takes_from t i x c (inr none) to on = absurd none

draws_only : (t : SubtaskId) → IsIn t job.sources → IsPlanned job t (plan t) Draws
draws_only t (inl e) = subst (λ (s : SubtaskId). IsPlanned job s (plan s) Draws) (sym e) refl
draws_only t (inr none) = absurd none

pub no_choice : HasNoChoice job plan
no_choice t (Takes i x) is = takes_from t i x is.1.0 is.1.1 is.1.2 is.1.3
no_choice t Draws is = draws_only t is.1
