-- Answers the goals of `restarts_invisible`.
use Rattle.ckpt_chain.proofs.Seamless as since
use Rattle.ckpt_chain.proofs.Named as named
use Rattle.ckpt_chain.proofs.laws.restarts_invisible.Goals as goal

pub returns-clause-named : goal.returns-clause-named
returns-clause-named c = named.restarts_invisible

pub returns-clause-since : goal.returns-clause-since
returns-clause-since c = since.restarts_invisible
