-- Answers the goals of `make_fitting`.
use Rattle.relkvanu.proofs.Imports.{length, ap, Chronicle}
use Rattle.relkvanu.proofs.Unmade.{unmade_leaves}
use Rattle.relkvanu.proofs.making.make_fitting.Goals as goal

pub returns-else-code-eq-DONE-clause-unchanged : goal.returns-else-code-eq-DONE-clause-unchanged
returns-else-code-eq-DONE-clause-unchanged c =
    unmade_leaves c.args.machine.now.now c.make_asked-answer.new.machine.now (length c.args.files.now) c.args.asked.now c.make_asked-answer.result
    c.make_asked-answer.ensures.handled (λ lack. ap (λ (k : Chronicle). k.now) (c.make_asked-answer.ensures.unchanged lack))
