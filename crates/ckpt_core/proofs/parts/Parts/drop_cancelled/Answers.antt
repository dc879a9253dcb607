-- What a cancelled job drops, by its configuration, is counted in the groups.
use Rattle.ckpt_core.proofs.{◌+◌, ◌||◌, length, ap, sym, ◌∙◌, arith, state_of, is_pending, is_done_checkpoint, cancelled, groups_of, drops_same}
use Rattle.ckpt_core.proofs.Ending.Counts.{few_pending, few_done, kept_tests, all_tests, pending_counted, all_counted}
use Rattle.ckpt_core.proofs.parts.Parts.drop_cancelled.Goals as goal

pub overflow_cast-pending : goal.overflow_cast-pending
overflow_cast-pending c = let p = c.args.self.now in omega (arith, few_pending p c.requires (groups_of p c.recall_groups.ensures.pending c.recall_groups.ensures.stored))

pub overflow_add-result : goal.overflow_add-result
overflow_add-result c =
    let p = c.args.self.now in
    omega (arith, few_pending p c.requires (groups_of p c.recall_groups.ensures.pending c.recall_groups.ensures.stored), few_done p c.requires c.recall_groups.ensures.stored)

pub returns-then-keep_on_cancel-clause-drops : goal.returns-then-keep_on_cancel-clause-drops
returns-then-keep_on_cancel-clause-drops c =
    drops_same c.args.self.now c.drop_all_pending.new.self is_pending (cancelled (state_of c.args.self.now)) c.drop_all_pending.result
    (λ r h. kept_tests c.args.self.now (sym c.keep_on_cancel.ensures ∙ c.if-keep_on_cancel.true) r) c.drop_all_pending.ensures

pub returns-then-keep_on_cancel-clause-dropped : goal.returns-then-keep_on_cancel-clause-dropped
returns-then-keep_on_cancel-clause-dropped c =
    let p = c.args.self.now in
    rw (c.len-pending.ensures, pending_counted p (groups_of p c.recall_groups.ensures.pending c.recall_groups.ensures.stored) (sym c.keep_on_cancel.ensures ∙ c.if-keep_on_cancel.true))

pub returns-else-keep_on_cancel-clause-drops : goal.returns-else-keep_on_cancel-clause-drops
returns-else-keep_on_cancel-clause-drops c =
    drops_same c.args.self.now c.drop_all_but_savepoints.new.self (λ r. is_pending r || is_done_checkpoint r) (cancelled (state_of c.args.self.now)) c.drop_all_but_savepoints.result
    (λ r h. all_tests c.args.self.now (sym c.keep_on_cancel.ensures ∙ c.if-keep_on_cancel.false) r) c.drop_all_but_savepoints.ensures

pub returns-else-keep_on_cancel-clause-dropped : goal.returns-else-keep_on_cancel-clause-dropped
returns-else-keep_on_cancel-clause-dropped c =
    ap (λ n. n + c.checkpoints-done.result) c.len-pending.ensures ∙ ap (λ n. length c.args.self.now.pending + n) c.checkpoints-done.ensures.value
    ∙ all_counted c.args.self.now (groups_of c.args.self.now c.recall_groups.ensures.pending c.recall_groups.ensures.stored) (sym c.keep_on_cancel.ensures ∙ c.if-keep_on_cancel.false)
