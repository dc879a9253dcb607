-- The outbox itself finds whether the file was fetched.
use Rattle.ckpt_core.proofs.{true, false, refl, is_taken, undeleted_answers, refusal_undeleted, taken_if, Names.state_of}
use Rattle.ckpt_core.proofs.parts.Parts.undeleted.Goals as goal

pub returns-in-Ok-clause-ok : goal.returns-in-Ok-clause-ok
unfolding state_of
returns-in-Ok-clause-ok c =
    let p = c.args.self.now in
    let file = c.args.file in
    undeleted_answers p file c.undeleted.new.self c.requires (refusal_undeleted (state_of p) file true (taken_if (is_taken p.outbox file) _ (λ e. cc) c.in-Ok.ensures.refused.1)) c.in-Ok.ensures.ok

pub returns-in-Err-clause-refused : goal.returns-in-Err-clause-refused
unfolding state_of
returns-in-Err-clause-refused c = refusal_undeleted (state_of c.args.self.now) c.args.file false (c.in-Err.ensures.refused.0 refl)
