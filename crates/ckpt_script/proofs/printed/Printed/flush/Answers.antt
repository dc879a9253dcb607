-- Answers the goals of `Printed::flush`.
use Rattle.ckpt_script.proofs.{[], refl, append-nil, Appends-kept}
use Rattle.ckpt_script.proofs.printed.Printed.flush.Goals as goal

pub returns-in-Err-clause-err : goal.returns-in-Err-clause-err
returns-in-Err-clause-err g c =
    (refl, (_, [], Appends-kept _ _ _ c.args.self.now.bytes c.in_ok-write_out.ensures.ok.1 c.in-Err.ensures.bytes, append-nil c.args.self.now.bytes))
