-- The loop invariants of `write_whole`.
use Rattle.ckpt_script.proofs.{◌≡◌, length, ◌-◌, take, ◌≤◌, Appends}
use Rattle.ckpt_script.proofs.printed.write_whole.Given as goal

-- what was taken so far was appended
abbrev pub invariant-loop-done : goal.invariant-loop-done
invariant-loop-done g l = record {
  going_on : g.K.Sink.failures l.sink ≡ 0;
  same_sink : g.K.Sink.device l.sink ≡ g.K.Sink.device l.fn.sink;
  within : l.done ≤ length l.bytes;
  appended : Appends (g.K.Sink.contents l.fn.sink) (g.K.Sink.contents l.sink) (take l.done l.bytes);
}

abbrev pub decreases-loop-done : goal.decreases-loop-done
decreases-loop-done g l = length l.bytes - l.done
