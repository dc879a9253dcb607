-- A late decline changes only the moment; a decline of a pending record is a step of the state, whether the job fails over or not.
use Rattle.ckpt_core.proofs.{IsPlaceOf, is_checkpoint, failures_with, fails_the_job, accepted_decline, IsIn-from_find, has_number, groups_of, late_declined, pending_there, few_failed, failed_answers}
use Rattle.ckpt_core.proofs.{aborted_answers, declined_as, kind_test, are_too_many, Names.state_of}
use Rattle.ckpt_core.proofs.{◌≡◌, ◌+◌, Bool, true, false, ◌&&◌, cond, ltb, Some, refl, ap, sym, subst, ◌∙◌, arith, find, eqb-true, sameb, the_type, LiesAt, Record, id_of, find-place, Parts, with_pins}
use Rattle.ckpt_ids.specs.declared.numbers.Kind.TheVariants as kind
use Rattle.ckpt_ids.specs.declared.call.Call.TheVariants as call
use Rattle.ckpt_ids.specs.declared.reply.Reply.TheVariants as reply
use Rattle.ckpt_core.proofs.parts.Parts.decline.Goals as goal

pub see-requires : goal.see-requires
see-requires c = accepted_decline (state_of c.args.self.now) c.args.now c.args.id c.args.subtask c.requires.accepted

pub returns-in_default : goal.returns-in_default
returns-in_default c =
    let p = c.args.self.now in
    rw c.see.ensures (late_declined p c.args.now c.args.id c.args.subtask c.requires.sound c.requires.accepted (subst (IsPlaceOf p c.args.id) c.in_default.is c.requires.place))

pub add-failed-requires : goal.add-failed-requires
add-failed-requires c =
    let p = c.args.self.now in
    let lies : LiesAt id_of c.args.id p.pending c.in-Some.place = subst (IsPlaceOf p c.args.id) c.in-Some.is c.requires.place in
    let there : find (has_number c.args.id) p.pending ≡ Some c.at.result.now = sym (find-place c.args.id p.pending c.in-Some.place c.recall.ensures.in_order lies) ∙ c.at.ensures in
    omega (arith, few_failed p c.args.id c.at.result.now c.requires.sound (groups_of p c.recall_groups.ensures.pending c.recall_groups.ensures.stored) there)

pub see-requires-2 : goal.see-requires-2
see-requires-2 c = accepted_decline (state_of c.args.self.now) c.args.now c.args.id c.args.subtask c.requires.accepted

-- the number of failures after it, and whether the job fails over, by whether it is a checkpoint
number_is : (p : Parts) (r : Record) (b : Bool) → is_checkpoint r ≡ b → failures_with (state_of p) r ≡ cond b (p.failures.number + 1) p.failures.number
unfolding state_of
number_is p r b e = ap (λ t. cond t (p.failures.number + 1) p.failures.number) e

test_is : (p : Parts) (r : Record) (b : Bool) → is_checkpoint r ≡ b → fails_the_job (state_of p) r ≡ (b && ltb p.opened.config.tolerable (cond b (p.failures.number + 1) p.failures.number))
unfolding state_of
test_is p r b e = ap (λ t. t && ltb p.opened.config.tolerable (cond t (p.failures.number + 1) p.failures.number)) e

pub returns : goal.returns
returns c =
    let id = c.args.id in
    let r = with_pins c.args.self.now.registry c.at.result.now in
    let lies : LiesAt id_of id c.args.self.now.pending c.in-Some.place = subst (IsPlaceOf c.args.self.now id) c.in-Some.is c.requires.place in
    let found : find (has_number id) c.args.self.now.pending ≡ Some c.at.result.now = sym (find-place id c.args.self.now.pending c.in-Some.place c.recall.ensures.in_order lies) ∙ c.at.ensures in
    let there = pending_there c.args.self.now id c.at.result.now c.requires.sound.sound (groups_of c.args.self.now c.recall_groups.ensures.pending c.recall_groups.ensures.stored) found in
    let tests : is_checkpoint r ≡ c.eq-is_checkpoint.result = sym (c.eq-is_checkpoint.ensures ∙ ap (λ k. sameb the_type k kind.Checkpoint) c.kind.ensures ∙ kind_test r.kind) in
    let counted : c.if-is_checkpoint.failures ≡ record c.args.self.now.failures { number = failures_with (state_of c.args.self.now) r } = elim c.if-is_checkpoint.branch [
      | goal.then-is_checkpoint v ↦ v.failures-is ∙ v.add-failed.ensures.number ∙ ap (λ n. record c.args.self.now.failures { number = n })
          (sym (number_is c.args.self.now r true (tests ∙ v.if-is_checkpoint.true)))
      | goal.else-is_checkpoint v ↦ v.failures-is ∙ ap (λ n. record c.args.self.now.failures { number = n }) (sym (number_is c.args.self.now r false (tests ∙ v.if-is_checkpoint.false)))
    ] in
    let fails : c.if-is_checkpoint.failed ≡ fails_the_job (state_of c.args.self.now) r = elim c.if-is_checkpoint.branch [
      | goal.then-is_checkpoint v ↦
          let many = are_too_many v.add-failed.result v.add-failed.new.self.tolerable v.add-failed.new.self.number v.add-failed.ensures.intolerable in
          v.failed-is ∙ many ∙ ap (λ f. ltb f.tolerable f.number) v.add-failed.ensures.number ∙ ap (λ t. ltb t (c.args.self.now.failures.number + 1)) c.requires.sound.tied.tolerable
          ∙ sym (test_is c.args.self.now r true (tests ∙ v.if-is_checkpoint.true))
      | goal.else-is_checkpoint v ↦ v.failed-is ∙ v.if-is_checkpoint.false ∙ sym (test_is c.args.self.now r false (tests ∙ v.if-is_checkpoint.false))
    ] in
    elim c.if-failed.branch [
      | goal.then-failed w ↦ declined_as c.args.self.now c.if-failed.self w.fail_over.new.self c.args.now c.see-2.new.self c.if-is_checkpoint.failures c.if-is_checkpoint.failures
          (call.Decline c.args.now id c.args.subtask) c.if-failed.reply (reply.DeclineFailed w.fail_over.result)
          w.self-is c.see-2.ensures refl w.reply-is
          (failed_answers c.args.self.now w.fail_over.new.self c.args.now id c.args.subtask r c.if-is_checkpoint.failures w.fail_over.result c.requires.sound.tied c.requires.accepted
          there counted (sym fails ∙ w.if-failed.true)
          w.fail_over.ensures.state w.fail_over.ensures.count w.fail_over.ensures.tied w.fail_over.ensures.cleared)
      | goal.else-failed w ↦ declined_as c.args.self.now c.if-failed.self w.drop_pending.new.self c.args.now c.see-2.new.self c.if-is_checkpoint.failures c.if-is_checkpoint.failures
          (call.Decline c.args.now id c.args.subtask) c.if-failed.reply (reply.DeclineAborted w.drop_pending.result)
          w.self-is c.see-2.ensures refl w.reply-is
          (aborted_answers c.args.self.now w.drop_pending.new.self c.args.now id c.args.subtask r c.if-is_checkpoint.failures w.drop_pending.result c.requires.sound.tied c.requires.accepted
          there (eqb-true r.id id (IsIn-from_find (has_number id) c.at.result.now c.args.self.now.pending found).1) counted (sym fails ∙ w.if-failed.false) w.drop_pending.ensures)
    ]
