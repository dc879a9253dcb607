-- The loop of `write_each`.
use Rattle.ckpt_task.proofs.Names.{◌≡◌, drop, map, Writes, after_entries, on_output}
use Rattle.ckpt_task.proofs.sink_task.write_each.Given as goal

abbrev pub invariant-loop-one : goal.invariant-loop-one
invariant-loop-one l = after_entries l.ledger (map Writes (on_output l.output (drop l.one-index l.ones))) ≡ after_entries l.fn.ledger (map Writes (on_output l.output l.ones))
