-- The calls that always take memory may take it.
use Rattle.ckpt_core.proofs.{Some, refl, rules, subst, Ack, Savepoint, Restore, Take, Trigger, IsPlaceIn, wants_here, Names.effect, Names.restore, Names.state_of, Names.start_or_hold, Names.take_files}
use Rattle.ckpt_core.proofs.parts.Parts.answer.Goals as goal

pub ack_late-requires-clause-ended : goal.ack_late-requires-clause-ended
unfolding state_of
ack_late-requires-clause-ended c = let arm = c.in-Ack in subst (IsPlaceIn c.args.self.now (Ack arm.now arm.id arm.subtask arm.fresh arm.reused)) c.in-None.is (rw arm.is at c.requires.place)

pub returns-in-Savepoint-clause-memory : goal.returns-in-Savepoint-clause-memory
unfolding effect
returns-in-Savepoint-clause-memory c = wants_here c.savepoint.result (state_of c.args.self.now) c.args.call.now (Savepoint c.in-Savepoint.now) c.in-Savepoint.is c.requires.accepted refl

pub returns-in-Restore-default-default-Some-clause-memory : goal.returns-in-Restore-default-default-Some-clause-memory
unfolding effect restore
returns-in-Restore-default-default-Some-clause-memory c =
    let in_shape = Restore c.in-Restore-default-default-Some.now c.in-Restore-default-default-Some.target (Some c.in-Restore-default-default-Some.shape) in
    wants_here c.restore_in.result (state_of c.args.self.now) c.args.call.now in_shape (search rules) c.requires.accepted refl

pub returns-in-Take-clause-memory : goal.returns-in-Take-clause-memory
unfolding effect take_files
returns-in-Take-clause-memory c = wants_here c.take.result (state_of c.args.self.now) c.args.call.now (Take c.in-Take.most) c.in-Take.is c.requires.accepted refl

pub returns-in-Trigger-clause-memory : goal.returns-in-Trigger-clause-memory
unfolding effect start_or_hold
returns-in-Trigger-clause-memory c = wants_here c.trigger_now.result (state_of c.args.self.now) c.args.call.now (Trigger c.in-Trigger.now) c.in-Trigger.is c.requires.accepted refl
