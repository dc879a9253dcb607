-- The parts are sound again after a call, and a call that was not tested first names a refusal exactly if it is refused.
use Rattle.ckpt_core.proofs.{◌≡◌, sym, ap, subst, ◌∙◌, Some, Result, Ok, Err, IfOk, IfErr, MatchResult, IsErrAnd, err_from_is_err_and, Call, Deleted, Dispose, Undeleted, Reply, Refusal, CoreFault}
use Rattle.ckpt_core.proofs.{Refused, Parts, Answers, state_of, refusal, State, sound_after, NamesRefusal, accepted_done, names_it, names_none}
use Rattle.ckpt_model.specs.declared.faults.CoreFault.TheVariants.{Memory}
use Rattle.ckpt_core.proofs.coordinator.Core.apply_metered.Goals as goal

report_names : (made : Result Reply Refusal) (result : Result Reply CoreFault) (p q : Parts) (call same : Call) → call ≡ same → MatchResult made (λ reply. result ≡ Ok reply)
    (λ why. IsErrAnd result (λ fault. fault ≡ Refused why)) → IfOk made (Answers p q same) → IfErr made (λ why. refusal (state_of p) same ≡ Some why) → NamesRefusal result (state_of p) call
report_names (Ok reply) result p q call same e is ok err =
    let Named : Result Reply CoreFault → Type 0 = λ r. NamesRefusal r (state_of p) same in
    subst (NamesRefusal result (state_of p)) (sym e) (subst Named (sym is) (names_none (state_of p) same (Ok reply) tt (accepted_done (state_of p) (state_of q) same reply ok.step_is)))
report_names (Err refused) result p q call same e is ok err =
    let told = err_from_is_err_and result is in
    subst (NamesRefusal result (state_of p)) (sym e) (rw (told.1 ∙ ap Err told.2) (names_it (state_of p) same refused err))

pub returns-in-Deleted-clause-refused : goal.returns-in-Deleted-clause-refused
returns-in-Deleted-clause-refused c =
    subst (λ (before : State). NamesRefusal c.map_err.result before c.args.call.now) c.self.view_is (report_names c.deleted.result c.map_err.result c.self.inside.parts c.deleted.new.self
    c.args.call.now (Deleted c.in-Deleted.file) c.in-Deleted.is c.map_err.ensures.cases c.deleted.ensures.ok c.deleted.ensures.refused)

pub returns-in-Undeleted-clause-refused : goal.returns-in-Undeleted-clause-refused
returns-in-Undeleted-clause-refused c =
    subst (λ (before : State). NamesRefusal c.map_err-in-Undeleted.result before c.args.call.now) c.self.view_is (report_names c.undeleted.result c.map_err-in-Undeleted.result c.self.inside.parts
    c.undeleted.new.self c.args.call.now (Undeleted c.in-Undeleted.file) c.in-Undeleted.is c.map_err-in-Undeleted.ensures.cases c.undeleted.ensures.ok c.undeleted.ensures.refused)

pub returns-in-Dispose-clause-refused : goal.returns-in-Dispose-clause-refused
returns-in-Dispose-clause-refused c =
    let result : Result Reply CoreFault = c.dispose.result in
    subst (λ (before : State). NamesRefusal result before c.args.call.now) c.self.view_is (subst (NamesRefusal result (state_of c.self.inside.parts)) (sym c.in-Dispose.is) c.dispose.ensures.refused)

pub returns-in-Show-clause-refused : goal.returns-in-Show-clause-refused
returns-in-Show-clause-refused c =
    let result : Result Reply CoreFault = c.show.result in
    subst (λ (before : State). NamesRefusal result before c.args.call.now) c.self.view_is (subst (NamesRefusal result (state_of c.self.inside.parts)) (sym c.in-Show.is) c.show.ensures.refused)

pub invariant_of-self : goal.invariant_of-self
invariant_of-self c = sound_after c.self.inside.parts c.dispose.new.self (Dispose c.in-Dispose.id) c.dispose.result tt c.self.invariant c.dispose.ensures.ok c.dispose.ensures.err

pub invariant_of-self-in-Deleted : goal.invariant_of-self-in-Deleted
invariant_of-self-in-Deleted c = sound_after c.self.inside.parts c.deleted.new.self (Deleted c.in-Deleted.file) c.deleted.result tt c.self.invariant c.deleted.ensures.ok c.deleted.ensures.err

pub invariant_of-self-in-Undeleted : goal.invariant_of-self-in-Undeleted
invariant_of-self-in-Undeleted c =
    sound_after c.self.inside.parts c.undeleted.new.self (Undeleted c.in-Undeleted.file) c.undeleted.result tt c.self.invariant c.undeleted.ensures.ok c.undeleted.ensures.err

pub invariant_of-self-in_default : goal.invariant_of-self-in_default
invariant_of-self-in_default c = sound_after c.self.inside.parts c.answer.new.self c.args.call.now c.answer.result c.recall_call.ensures c.self.invariant c.answer.ensures.ok c.answer.ensures.err

-- what is not tested first, and what was tested, is never refused
pub returns-in_default-clause-kept : goal.returns-in_default-clause-kept
returns-in_default-clause-kept c = λ why e. let impossible : Refused why ≡ Memory = rw e at c.answer.ensures.fault in absurd (cc)
