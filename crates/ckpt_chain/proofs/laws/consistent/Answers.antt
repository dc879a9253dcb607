-- Answers the goals of `consistent`.
use Rattle.ckpt_chain.proofs.Cutting as since
use Rattle.ckpt_chain.proofs.Named as named
use Rattle.ckpt_chain.proofs.laws.consistent.Goals as goal

pub returns-clause-named : goal.returns-clause-named
returns-clause-named c = named.consistent

pub returns-clause-since : goal.returns-clause-since
returns-clause-since c = since.consistent
