-- Answers the goals of `one_sequence`.
use Rattle.ckpt_workers.proofs.SequenceLemmas.{one_sequence}
use Rattle.ckpt_workers.proofs.laws.one_sequence.Goals as goal

pub returns : goal.returns
returns c = one_sequence
