-- Answers the goals of `Ahead::fill`.
use Rattle.ckpt_script.proofs.{◌≡◌, false, subst, sym, arith, rules, IsCaused, caused_writing, fails_reading, fails_writing, if_err_both, if_err_is}
use Rattle.ckpt_script.proofs.ahead.Ahead.fill.Goals as goal

pub returns-in_err-flush-clause-fault : goal.returns-in_err-flush-clause-fault
returns-in_err-flush-clause-fault g c =
    let failed = c.in_err-flush.ensures in
    if_err_is c.from_residual.result c.in_err-flush.field-0.0 _ c.from_residual.ensures.1
    (fails_writing c.args.self.now _ _ _ _ _ failed.err.0 failed.err.1)

pub returns-in_err-flush-clause-cause : goal.returns-in_err-flush-clause-cause
returns-in_err-flush-clause-cause g c =
    let failed = c.in_err-flush.ensures in
    if_err_is c.from_residual.result c.in_err-flush.field-0.0 _ c.from_residual.ensures.1
    (caused_writing _ _ _ failed.err.0 failed.failed (omega (arith, c.requires.followed.counted.times)))

pub returns-clause-fault : goal.returns-clause-fault
returns-clause-fault g c =
    let going_on : c.args.self.now.is_ended ≡ false = search rules in let flushed = c.in_ok-flush.ensures in
    if_err_both c.ask.result
    (λ why read cause. fails_reading c.args.self.now _ _ c.args.printed.now.bytes c.flush.new.self.bytes why going_on flushed.ok.1 flushed.ok.0 read)
    c.ask.ensures.fault c.ask.ensures.cause

pub returns-clause-cause : goal.returns-clause-cause
returns-clause-cause g c =
    if_err_both c.ask.result
    (λ why read cause. subst (λ n. IsCaused (g.S.Source.asked c.ask.new.source) n why) (sym c.in_ok-flush.ensures.going_on) cause)
    c.ask.ensures.fault c.ask.ensures.cause
