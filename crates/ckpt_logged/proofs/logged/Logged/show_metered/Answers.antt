-- Answers the goals of `Logged::show_metered`.
use Rattle.ckpt_logged.proofs.Shows.{shown, still, still_is}
use Rattle.ckpt_logged.proofs.logged.Logged.show_metered.Goals as goal

pub invariant_of-self : goal.invariant_of-self
invariant_of-self c =
    still c.self.inside.machine c.pass_metered.new.self c.self.inside.begin.value c.self.inside.events c.self.invariant
    (shown c.self.inside.machine c.pass_metered.new.self c.args.id c.pass_metered.result c.pass_metered.ensures.done c.pass_metered.ensures.unchanged c.pass_metered.ensures.names)

pub returns-clause-unchanged : goal.returns-clause-unchanged
returns-clause-unchanged c =
    still_is c.self.inside.machine c.pass_metered.new.self c.self.inside.begin.value c.self.inside.events c.args.self.now c.self.view_is
    (shown c.self.inside.machine c.pass_metered.new.self c.args.id c.pass_metered.result c.pass_metered.ensures.done c.pass_metered.ensures.unchanged c.pass_metered.ensures.names)
