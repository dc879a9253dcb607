-- Answers the goals of `relkvanu_make`.
use Rattle.relkvanu.proofs.Imports.{take, given}
use Rattle.relkvanu.proofs.SayingLemmas.{says_back}
use Rattle.relkvanu.proofs.making.relkvanu_make.Goals as goal

pub returns-clause-said : goal.returns-clause-said
returns-clause-said c =
    says_back (given c.args.call.now c.args.first.now c.args.second.now) (take c.make_given-answer.new.made.written c.make_given-answer.new.line)
    c.make_given-answer.result c.make_given-answer.ensures.read
