-- The least moment at which a pending record started, and the timeout.
use Rattle.ckpt_core.proofs.{rules, ◌+◌, ◌<◌, ◌^◌, Some, None, arith, Reading.Expiry.next_expiry, Reading.Expiry.started_bound}
use Rattle.ckpt_core.proofs.parts.Parts.oldest_expiry.Goals as goal

pub returns-in_err-started : goal.returns-in_err-started
returns-in_err-started c = let p = c.args.self.now in rw c.from_residual.ensures (next_expiry p None c.recall_groups.ensures.pending c.recall_groups.ensures.stored c.in_err-started.ensures)

pub overflow_add-result : goal.overflow_add-result
overflow_add-result c =
    let started : c.in_ok-started.started < 2 ^ 62 = started_bound c.args.self.now c.in_ok-started.started c.requires.sound c.in_ok-started.ensures in
    let small : c.in_ok-started.started + c.timeout-timeout.result < 2 ^ 64 = omega arith in
    search rules

pub returns : goal.returns
returns c = rw c.timeout-timeout.ensures.value (next_expiry c.args.self.now (Some c.in_ok-started.started) c.recall_groups.ensures.pending c.recall_groups.ensures.stored c.in_ok-started.ensures)
