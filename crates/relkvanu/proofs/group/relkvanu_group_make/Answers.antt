-- Answers the goals of `relkvanu_group_make`.
use Rattle.relkvanu.proofs.Imports.{length, take, sym, ap, ◌∙◌, held_answer, making, given, Answer}
use Rattle.relkvanu.proofs.{GivenEvents.given_is_event, GroupCalls.asks, GroupCalls.full_is_told, GroupCalls.idles, GroupCalls.looks, GroupCalls.made_is, GroupCalls.stays}
use Rattle.relkvanu.proofs.group.relkvanu_group_make.Goals as goal

pub returns-in-Some-clause-asks : goal.returns-in-Some-clause-asks
returns-in-Some-clause-asks c p has code = absurd (full_is_told c.args.group.now (ap (λ (a : Answer). a.code) (sym c.in-Some.ensures.some.0) ∙ code))

pub returns-in-Some-clause-looks : goal.returns-in-Some-clause-looks
returns-in-Some-clause-looks c p has code = absurd (full_is_told c.args.group.now (ap (λ (a : Answer). a.code) (sym c.in-Some.ensures.some.0) ∙ code))

pub returns-in-Some-clause-idle : goal.returns-in-Some-clause-idle
returns-in-Some-clause-idle c p has code value names = absurd (full_is_told c.args.group.now (ap (λ (a : Answer). a.code) (sym c.in-Some.ensures.some.0) ∙ code))

pub returns-in-Some-clause-stays : goal.returns-in-Some-clause-stays
returns-in-Some-clause-stays c p has code = has

pub returns-clause-asks : goal.returns-clause-asks
returns-clause-asks c p has =
    asks p c.args.handle.now c.relkvanu_make-answer.new.handle c.args.group.now c.hold.new.group c.args.held.now c.hold.new.held
    (given c.args.call.now c.args.first.now c.args.second.now) (making c.args.call.now c.args.first.now c.args.second.now c.args.line.now) (length c.args.files.now)
    (take c.relkvanu_make-answer.new.made.written c.relkvanu_make-answer.new.line) c.relkvanu_make-answer.result c.hold.result has
    (record {
      room = c.refused.ensures.none c.in_default.is;
      handled = c.relkvanu_make-answer.ensures.handled;
      unchanged = c.relkvanu_make-answer.ensures.unchanged;
      said = c.relkvanu_make-answer.ensures.said;
      group = c.hold.ensures.group;
      held = c.hold.ensures.held;
      told = c.hold.ensures.told;
      well = given_is_event c.args.call.now c.args.first.now c.args.second.now;
      is = made_is (given c.args.call.now c.args.first.now c.args.second.now) (length c.args.line.now);
    })

pub returns-clause-looks : goal.returns-clause-looks
returns-clause-looks c p has =
    looks p c.args.handle.now c.relkvanu_make-answer.new.handle c.args.group.now c.hold.new.group c.args.held.now c.hold.new.held
    (given c.args.call.now c.args.first.now c.args.second.now) (making c.args.call.now c.args.first.now c.args.second.now c.args.line.now) (length c.args.files.now)
    (take c.relkvanu_make-answer.new.made.written c.relkvanu_make-answer.new.line) c.relkvanu_make-answer.result c.hold.result has
    (record {
      room = c.refused.ensures.none c.in_default.is;
      handled = c.relkvanu_make-answer.ensures.handled;
      unchanged = c.relkvanu_make-answer.ensures.unchanged;
      said = c.relkvanu_make-answer.ensures.said;
      group = c.hold.ensures.group;
      held = c.hold.ensures.held;
      told = c.hold.ensures.told;
      well = given_is_event c.args.call.now c.args.first.now c.args.second.now;
      is = made_is (given c.args.call.now c.args.first.now c.args.second.now) (length c.args.line.now);
    })

pub returns-clause-idle : goal.returns-clause-idle
returns-clause-idle c p has code value names =
    idles p c.args.handle.now c.relkvanu_make-answer.new.handle c.args.group.now c.hold.new.group c.args.held.now c.hold.new.held c.relkvanu_make-answer.result
    (held_answer c.args.group.now c.hold.new.held c.hold.result) c.hold.result has (c.refused.ensures.none c.in_default.is) value names c.hold.ensures.group c.hold.ensures.held
    c.hold.ensures.told c.hold.ensures.answer code

pub returns-clause-stays : goal.returns-clause-stays
returns-clause-stays c p has =
    stays p c.args.handle.now c.relkvanu_make-answer.new.handle c.args.group.now c.hold.new.group c.args.held.now c.hold.new.held
    (given c.args.call.now c.args.first.now c.args.second.now) (making c.args.call.now c.args.first.now c.args.second.now c.args.line.now) (length c.args.files.now)
    (take c.relkvanu_make-answer.new.made.written c.relkvanu_make-answer.new.line) c.relkvanu_make-answer.result c.hold.result has
    (record {
      room = c.refused.ensures.none c.in_default.is;
      handled = c.relkvanu_make-answer.ensures.handled;
      unchanged = c.relkvanu_make-answer.ensures.unchanged;
      said = c.relkvanu_make-answer.ensures.said;
      group = c.hold.ensures.group;
      held = c.hold.ensures.held;
      told = c.hold.ensures.told;
      well = given_is_event c.args.call.now c.args.first.now c.args.second.now;
      is = made_is (given c.args.call.now c.args.first.now c.args.second.now) (length c.args.line.now);
    })
