-- The parts after an accepted call, and that only calls that may take memory run out of it.
use Rattle.ckpt_core.proofs.Names.{moment_of, no_record, refusal, IsCall, State, record_of, at_moment, effect, show, step_keeps, step_accepted, first_row-none, common_steps, arith}
use Rattle.ckpt_core.proofs.Names.{◌≡◌, ℕ, true, refl, ◌∙◌, Option, Some, None, Result, Ok, Err, IfOk, OnErr, Call, Show, Reply, Record, Parts, answer_wants, may_want_memory, AreSound, Answers, Stays}

-- after a call
pub sound_answered : (old new : Parts) (call : Call) (reply : Reply) → IsCall call → AreSound old → Answers old new call reply → AreSound new
sound_answered old new call reply c s a = grind (arith, common_steps, step_keeps)

pub sound_unchanged : (old new : Parts) → AreSound old → Stays old new → AreSound new
sound_unchanged old new s a = grind (arith, common_steps)

-- whether it was answered or not
pub sound_after : {E : Type 0} (old new : Parts) (call : Call) (result : Result Reply E) → IsCall call → AreSound old → IfOk result (Answers old new call) → OnErr result (Stays old new) → AreSound new
sound_after old new call (Ok reply) c s a h = sound_answered old new call reply c s a
sound_after old new call (Err error) c s a h = sound_unchanged old new s h

-- memory

-- so its answer determines whether it may take memory
wants_as_effect : (m : State) (call : Call) → refusal m call ≡ None → may_want_memory m call ≡ answer_wants call (effect (at_moment m (moment_of call)) call).1
wants_as_effect m call e = grind (arith, common_steps, step_accepted)

shown : (id : ℕ) (o : Option Record) → no_record o ≡ None → answer_wants (Show id) (show o) ≡ true
shown id None h = absurd (cc)
shown id (Some r) h = refl

-- the record is there
accepted_show : (m : State) (id : ℕ) → refusal m (Show id) ≡ None → no_record (record_of m id) ≡ None
unfolding refusal
accepted_show m id h = first_row-none (no_record (record_of m id)) _ h

pub show_wants : (m : State) (id : ℕ) → refusal m (Show id) ≡ None → may_want_memory m (Show id) ≡ true
unfolding effect
show_wants m id e = wants_as_effect m (Show id) e ∙ shown id (record_of m id) (accepted_show m id e)

-- of an accepted call, whatever the answer
pub wants_here : {A E : Type 0} (result : Result A E) (m : State) (call same : Call) → call ≡ same → refusal m call ≡ None → answer_wants same (effect (at_moment m (moment_of same)) same).1 ≡ true →
    OnErr result (may_want_memory m call ≡ true)
wants_here (Ok reply) m call same e accepted h = tt
wants_here (Err error) m call same e accepted h = rw e (wants_as_effect m same (rw e at accepted) ∙ h)
