-- Answers the goals of `Session::tell_outcome`.
use Rattle.ckpt_session.proofs.{◌≡◌, true, sym, ap, ◌∙◌, is_said, Done, obeyed, kept, on_err-then}
use Rattle.ckpt_session.proofs.session.Session.tell_outcome.Goals as goal

pub returns-in-Ok-clause-told : goal.returns-in-Ok-clause-told
returns-in-Ok-clause-told g c =
    let scene = c.args.self.now.scene in let left = c.act-outcome.new.self.scene in
    let done : ◌≡◌ {A = Done} (left, c.in-Ok.outcome) (obeyed scene c.args.line) = rw c.in-Ok.is at c.act-outcome.ensures.done in
    on_err-then c.write_outcome.result (is_said c.in-Ok.outcome ≡ true) _
    (λ said. let same = kept scene c.args.line (ap (λ (d : Done). is_said d.1) (sym done) ∙ said) in
    (ap (λ (d : Done). d.0.config) done ∙ same.0, ap (λ (d : Done). d.0.shape) done ∙ same.1)) c.write_outcome.ensures.said
