-- Answers the goals of `Printed::settle`.
use Rattle.ckpt_script.proofs.{[], passes_part, on_err_map}
use Rattle.ckpt_script.proofs.printed.Printed.settle.Goals as goal

-- a prefix of what waited was written
pub returns-clause-err : goal.returns-clause-err
returns-clause-err g c = on_err_map c.write_out.result (λ why p. (_, passes_part _ _ c.args.self.now.bytes [] p.1)) c.write_out.ensures.err
