-- Answers the goals of `relkvanu_group_hold`.
use Rattle.relkvanu.proofs.Imports.{sym, ap, ◌∙◌, Answer}
use Rattle.relkvanu.proofs.GroupCalls.{full_is_told, one_look, one_made}
use Rattle.relkvanu.proofs.group.relkvanu_group_hold.Goals as goal

pub returns-in-Some-clause-looks : goal.returns-in-Some-clause-looks
returns-in-Some-clause-looks c p handle has code = absurd (full_is_told c.args.group.now (ap (λ (a : Answer). a.code) (sym c.in-Some.ensures.some.0) ∙ code))

pub returns-clause-looks : goal.returns-clause-looks
returns-clause-looks c p handle has code =
    one_look p handle c.args.group.now c.push.new.group c.args.held.now c.push.new.held c.args.answer.now has (c.refused.ensures.none c.in_default.is) c.push.ensures.group c.push.ensures.held

pub returns-in-Some-clause-asks : goal.returns-in-Some-clause-asks
returns-in-Some-clause-asks c p old handle event has left code = absurd (full_is_told c.args.group.now (ap (λ (a : Answer). a.code) (sym c.in-Some.ensures.some.0) ∙ code))

pub returns-clause-asks : goal.returns-clause-asks
returns-clause-asks c p old handle event has left code =
    one_made p old handle c.args.group.now c.push.new.group c.args.held.now c.push.new.held event c.args.answer.now has left (c.refused.ensures.none c.in_default.is) c.push.ensures.group
    c.push.ensures.held
