-- Answers the goals of `spread`.
use Rattle.ckpt_workers.proofs.{IsWorked, each_report, length}
use Rattle.ckpt_workers.proofs.shares.spread.Goals as goal

pub returns-clause-each : goal.returns-clause-each
returns-clause-each g c =
    each_report (λ v. v.items) IsWorked c.args.shares.items (length c.args.shares.items) c.in_ok-outcomes.outcomes.items c.all_of.result c.all_of.ensures c.in_ok-outcomes.ensures.each
