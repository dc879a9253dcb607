-- Answers the goals of `Parts::due`.
use Rattle.ckpt_core.proofs.{◌≡◌, sym, subst, NoneIsEarlyFrom, NoneTriggersBefore, next_due, none_before, none_early, Names.state_of}
use Rattle.ckpt_core.proofs.parts.Parts.due.Goals as goal

pub returns : goal.returns
unfolding state_of
returns c =
    let m = state_of c.args.self.now in
    let is : c.due.result ≡ next_due m = c.due.ensures in
    record { value = is; before = subst (NoneTriggersBefore m) (sym is) (none_before m); from = subst (NoneIsEarlyFrom m) (sym is) (none_early m) }
