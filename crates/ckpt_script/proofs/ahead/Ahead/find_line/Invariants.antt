-- The loop invariants of `Ahead::find_line`.
use Rattle.ckpt_script.proofs.{◌≡◌, ◌≢◌, ◌<◌, ◌≤◌, [], true, false, length, used, IsTied, Prints, held, IsFollowed, ReadsPart, all_left}
use Rattle.ckpt_script.proofs.ahead.Ahead.find_line.Given as goal

-- a part of the line was read, and its prefix is held
abbrev pub invariant-loop-self : goal.invariant-loop-self
invariant-loop-self g l = record {
  part : ReadsPart l.fn.self (g.S.Source.remaining l.fn.source) (all_left l.self (g.S.Source.remaining l.source)) l.line.items;
  few : length l.line.items ≤ held;
  followed : IsFollowed (g.S.Source.remaining l.source) (g.S.Source.asked l.source) l.self;
  stays : l.self.is_ended ≡ false → l.fn.self.is_ended ≡ false;
  filled : l.self.bytes ≡ [] → l.self.is_ended ≡ true;
  bytes_used : used (g.S.Source.asked l.fn.source) l.fn.self ≤ used (g.S.Source.asked l.source) l.self;
  further : l.fn.self.bytes ≢ [] → used (g.S.Source.asked l.fn.source) l.fn.self < (g.S.Source.asked l.source).bytes;
  shown : Prints (g.K.Sink.contents l.fn.sink) (g.K.Sink.contents l.sink) l.fn.printed.bytes [] l.printed.bytes (g.K.Sink.failures l.sink);
  tied : IsTied l.fn.printed (g.K.Sink.unflushed l.fn.sink) (g.K.Sink.failures l.fn.sink) → IsTied l.printed (g.K.Sink.unflushed l.sink) (g.K.Sink.failures l.sink);
  same_source : g.S.Source.device l.source ≡ g.S.Source.device l.fn.source;
  same_sink : g.K.Sink.device l.sink ≡ g.K.Sink.device l.fn.sink;
}

abbrev pub decreases-loop-self : goal.decreases-loop-self
decreases-loop-self g l = l.self.reads_left
