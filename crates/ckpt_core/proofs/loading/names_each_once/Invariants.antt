-- The loop invariants of `names_each_once`.
use Rattle.ckpt_core.proofs.{take, Acked, IsAscendingSet, IsIn}
use Rattle.ckpt_core.proofs.loading.names_each_once.Given as goal

abbrev pub invariant-loop-acked : goal.invariant-loop-acked
invariant-loop-acked l = (a : Acked) → IsIn a (take l.acked-index l.acked-items) → IsAscendingSet a.files
