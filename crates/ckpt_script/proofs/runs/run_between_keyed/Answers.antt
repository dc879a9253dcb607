-- Answers the goals of `run_between_keyed`.
use Rattle.ckpt_script.proofs.{ap, Memory, Ran, Unread, from_err, so_far_first, cut_none, ran_all, ran_short}
use Rattle.ckpt_script.proofs.runs.run_between_keyed.Goals as goal

pub returns-in_err-runner-clause-ran : goal.returns-in_err-runner-clause-ran
returns-in_err-runner-clause-ran g c =
    from_err c.from_residual.result Memory (Ran _ _ _ _) c.from_residual.ensures.1 (cut_none (g.S.Source.remaining c.args.source.now) (g.K.Sink.contents c.args.sink.now))

pub returns-in_err-flush-in-Ok-clause-ran : goal.returns-in_err-flush-in-Ok-clause-ran
returns-in_err-flush-in-Ok-clause-ran g c =
    let made = c.in_ok-runner.ensures in
    let so_far = c.in-Ok.ensures.so_far (g.S.Source.remaining c.args.source.now) (g.K.Sink.contents c.args.sink.now)
    (so_far_first _ _ _ _ _ _ _ (ap (λ (u : Unread). u.bytes) made.ahead) (ap (λ (u : Unread). u.is_ended) made.ahead) made.summary made.scene made.printed) in
    from_err c.from_residual-in_err-flush-in-Ok.result c.in_err-flush-in-Ok.field-0.0 (Ran _ _ _ _) c.from_residual-in_err-flush-in-Ok.ensures.1
    (rw c.in_err-flush-in-Ok.ensures.err.0
    (ran_short (g.S.Source.remaining c.args.source.now) _ _ _ _ _ _ _ _ _ so_far c.in-Ok.ensures.end.0 c.in-Ok.ensures.end.1 c.in_err-flush-in-Ok.ensures.err.1))

pub returns-in-Ok-clause-ran : goal.returns-in-Ok-clause-ran
returns-in-Ok-clause-ran g c =
    let made = c.in_ok-runner.ensures in
    let so_far = c.in-Ok.ensures.so_far (g.S.Source.remaining c.args.source.now) (g.K.Sink.contents c.args.sink.now)
    (so_far_first _ _ _ _ _ _ _ (ap (λ (u : Unread). u.bytes) made.ahead) (ap (λ (u : Unread). u.is_ended) made.ahead) made.summary made.scene made.printed) in
    ran_all (g.S.Source.remaining c.args.source.now) _ _ _ _ _ _ _ _ _ so_far c.in-Ok.ensures.end.0 c.in-Ok.ensures.end.1 c.in_ok-flush-in-Ok.ensures.ok.1

pub returns-clause-ran : goal.returns-clause-ran
returns-clause-ran g c =
    let made = c.in_ok-runner.ensures in
    let stopped = c.in-Err.ensures.stopped (g.S.Source.remaining c.args.source.now) (g.K.Sink.contents c.args.sink.now)
    (so_far_first _ _ _ _ _ _ _ (ap (λ (u : Unread). u.bytes) made.ahead) (ap (λ (u : Unread). u.is_ended) made.ahead) made.summary made.scene made.printed) in
    c.stop.ensures.ran (g.S.Source.remaining c.args.source.now) (g.S.Source.remaining c.obey_all.new.source) (g.K.Sink.contents c.args.sink.now) stopped

pub returns-clause-cause : goal.returns-clause-cause
returns-clause-cause g c = c.stop.ensures.cause (g.S.Source.asked c.obey_all.new.source) c.in-Err.ensures.cause
