-- Answers the goals of `Pending::finish`.
use Rattle.ckpt_pending.proofs.{◌≡◌, ◌∙◌, sym, ap, arith, missing}
use Rattle.ckpt_pending.proofs.pending.Pending.finish.Goals as goal

pub returns-then-self-eq0-clause-missing : goal.returns-then-self-eq0-clause-missing
returns-then-self-eq0-clause-missing c =
    let none : missing c.args.self ≡ 0 = rw (← c.self.view_is) (sym c.self.invariant.counted ∙ c.if-self-eq0.true) in
    (λ e. cc, λ h. absurd (omega arith))

pub returns-else-self-eq0-clause-complete : goal.returns-else-self-eq0-clause-complete
returns-else-self-eq0-clause-complete c =
    (λ e. cc, λ e. absurd (c.if-self-eq0.false (c.self.invariant.counted ∙ ap missing c.self.view_is ∙ e)))
