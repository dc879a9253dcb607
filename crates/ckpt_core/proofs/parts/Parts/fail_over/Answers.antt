-- Only the mode changes after the drop.
use Rattle.ckpt_core.proofs.{ap, Failed, State, Names.state_of, Names.failed_over}
use Rattle.ckpt_core.proofs.parts.Parts.fail_over.Goals as goal

pub returns-clause-state : goal.returns-clause-state
unfolding state_of failed_over
returns-clause-state c = ap (λ (m : State). record m { mode = Failed }) c.drop_all_pending-released.ensures.state_is
