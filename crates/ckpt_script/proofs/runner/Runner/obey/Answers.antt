-- Answers the goals of `Runner::obey`.
use Rattle.ckpt_script.proofs.{◌≡◌, ℕ, [], ◌++◌, arith, Memory, text_next, fails_to_print_by_write, fails_to_print_for_memory, passes_said, if_err_is}
use Rattle.std.proofs.lemmas.Grind.{common_steps}
use Rattle.ckpt_script.proofs.runner.Runner.obey.Goals as goal

pub returns-in_err-is_faulty-clause-fault : goal.returns-in_err-is_faulty-clause-fault
returns-in_err-is_faulty-clause-fault g c =
    if_err_is c.from_residual.result Memory _ c.from_residual.ensures.1
    (fails_to_print_for_memory (g.K.Sink.contents c.args.sink.now) c.args.self.now.printed.bytes _)

-- what the line prints waited as well
pub returns-in_err-settle-clause-fault : goal.returns-in_err-settle-clause-fault
returns-in_err-settle-clause-fault g c =
    let failed = c.in_err-settle.ensures in let cut = failed.err in
    let waits : c.match-newline.self.printed.bytes ≡ c.args.self.now.printed.bytes ++ text_next c.args.self.now c.args.newline = grind (arith, common_steps) in
    if_err_is c.from_residual-in_err-settle.result c.in_err-settle.field-0.0 _ c.from_residual-in_err-settle.ensures.1
    (let passes = rw waits at cut.1 in fails_to_print_by_write _ _ _ _ _ failed.fault (cut.0, passes_said _ _ _ _ _ passes))
