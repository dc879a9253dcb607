-- Answers the goals of `exactly_once`.
use Rattle.ckpt_chain.proofs.Seamless as since
use Rattle.ckpt_chain.proofs.Named as named
use Rattle.ckpt_chain.proofs.laws.exactly_once.Goals as goal

pub returns-clause-named : goal.returns-clause-named
returns-clause-named c = named.exactly_once

pub returns-clause-since : goal.returns-clause-since
returns-clause-since c = since.exactly_once
