-- Answers the goals of `Book::apply_metered`.
use Rattle.ckpt_locked.proofs.{Call, Err, Some, answer_is, answer_to, ap, count_answer, history_entered, kept_entered, refusal, sym, ◌∙◌, ◌≡◌}
use Rattle.ckpt_ids.specs.declared.reply.Answer.TheVariants.{Refused}
use Rattle.ckpt_ids.specs.declared.reply.Refusal.{Refusal}
use Rattle.ckpt_model.proofs.Answering.StepCases.{step_refused}
use Rattle.ckpt_model.specs.State.{State}
use Rattle.ckpt_model.specs.Steps.{step}
use Rattle.ckpt_locked.proofs.book.Book.apply_metered.Goals as goal

-- a refused call leaves the coordinator as it was
refused_step : (core after : State) (call : Call) (why : Refusal) → refusal core call ≡ Some why → after ≡ core → step core call ≡ (after, Refused why)
refused_step core after call why refused stays = step_refused core call why refused ∙ ap (λ (s : State). (s, Refused why)) (sym stays)

refused : (c : goal.After-push_reserved-in-Err-Refused) → step c.self.inside.core c.args.call ≡ (c.apply_metered.new.self, Refused c.in-Err-Refused.why)
refused c =
    refused_step _ _ c.args.call c.in-Err-Refused.why ((c.apply_metered.ensures.refused c.in-Err-Refused.why).0 (c.in-Err-Refused.is ∙ ap Err c.in-Err-Refused.field-0-is)) c.in-Err-Refused.ensures.unchanged

pub invariant_of-self-in-Ok : goal.invariant_of-self-in-Ok
invariant_of-self-in-Ok c =
    let e = c.push_reserved.ensures in
    kept_entered _ _ _ _ _ _ _ _ c.args.seat c.args.call _ _ c.self.view_is c.in-Ok.ensures.done c.make_room.ensures.items e.items (e.keep ∙ c.make_room.ensures.keep) c.self.invariant
    c.apply_metered.ensures.shape

pub invariant_of-self-in-Err-Refused : goal.invariant_of-self-in-Err-Refused
invariant_of-self-in-Err-Refused c =
    let e = c.push_reserved-in-Err-Refused.ensures in
    kept_entered _ _ _ _ _ _ _ _ c.args.seat c.args.call _ _ c.self.view_is (refused c) c.make_room.ensures.items e.items (e.keep ∙ c.make_room.ensures.keep) c.self.invariant c.apply_metered.ensures.shape

pub returns-in-Ok-clause-entered : goal.returns-in-Ok-clause-entered
returns-in-Ok-clause-entered c =
    let e = c.push_reserved.ensures in
    history_entered _ _ _ _ _ _ _ _ c.args.seat c.args.call _ _ c.self.view_is c.in-Ok.ensures.done c.make_room.ensures.items e.items (e.keep ∙ c.make_room.ensures.keep)

pub returns-in-Err-Refused-clause-entered : goal.returns-in-Err-Refused-clause-entered
returns-in-Err-Refused-clause-entered c =
    let e = c.push_reserved-in-Err-Refused.ensures in
    history_entered _ _ _ _ _ _ _ _ c.args.seat c.args.call _ _ c.self.view_is (refused c) c.make_room.ensures.items e.items (e.keep ∙ c.make_room.ensures.keep)

pub returns-in-Ok-clause-answer : goal.returns-in-Ok-clause-answer
returns-in-Ok-clause-answer c =
    let e = c.push_reserved.ensures in
    answer_is _ _ _ _ _ _ _ _ c.args.seat c.args.call _ _ c.self.view_is c.in-Ok.ensures.done c.make_room.ensures.items e.items (e.keep ∙ c.make_room.ensures.keep) c.self.invariant

pub returns-in-Err-Refused-clause-answer : goal.returns-in-Err-Refused-clause-answer
returns-in-Err-Refused-clause-answer c =
    let e = c.push_reserved-in-Err-Refused.ensures in
    answer_is _ _ _ _ _ _ _ _ c.args.seat c.args.call _ _ c.self.view_is (refused c) c.make_room.ensures.items e.items (e.keep ∙ c.make_room.ensures.keep) c.self.invariant

pub returns-in-Ok-clause-count : goal.returns-in-Ok-clause-count
returns-in-Ok-clause-count c file e = returns-in-Ok-clause-answer c ∙ ap (answer_to c.args.self.now) e ∙ count_answer c.args.self.now file

pub returns-in-Err-Refused-clause-count : goal.returns-in-Err-Refused-clause-count
returns-in-Err-Refused-clause-count c file e = returns-in-Err-Refused-clause-answer c ∙ ap (answer_to c.args.self.now) e ∙ count_answer c.args.self.now file
