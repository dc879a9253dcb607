-- The loop invariants of `Runner::obey_all`.
use Rattle.ckpt_script.proofs.{◌≡◌, ◌-◌, MOST_LINES, IsTied, GoesOn, IsReady}
use Rattle.ckpt_script.proofs.runner.Runner.obey_all.Given as goal

abbrev pub invariant-loop : goal.invariant-loop
invariant-loop g l = record {
  ready : IsReady l.self (g.S.Source.remaining l.source) (g.S.Source.asked l.source) (g.K.Sink.failures l.sink);
  same_source : g.S.Source.device l.source ≡ g.S.Source.device l.fn.source;
  same_sink : g.K.Sink.device l.sink ≡ g.K.Sink.device l.fn.sink;
  tied : IsTied l.fn.self.printed (g.K.Sink.unflushed l.fn.sink) (g.K.Sink.failures l.fn.sink) → IsTied l.self.printed (g.K.Sink.unflushed l.sink) (g.K.Sink.failures l.sink);
  so_far : GoesOn l.fn.self (g.S.Source.remaining l.fn.source) (g.K.Sink.contents l.fn.sink) l.self (g.S.Source.remaining l.source) (g.K.Sink.contents l.sink);
}

abbrev pub decreases-loop : goal.decreases-loop
decreases-loop g l = MOST_LINES - l.self.summary.lines
