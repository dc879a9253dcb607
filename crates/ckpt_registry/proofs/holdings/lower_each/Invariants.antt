-- The loop invariants of `lower_each`.
use Rattle.ckpt_registry.proofs.{take, times, AreLowered}
use Rattle.ckpt_registry.proofs.holdings.lower_each.Given as goal

abbrev pub invariant-loop-file : goal.invariant-loop-file
invariant-loop-file l = AreLowered (λ f. times f (take l.file-index l.files)) l.fn.counts l.fn.released l.counts l.released
