-- Answers the goals of `fenced_always`.
use Rattle.ckpt_terms.proofs.{Fences.always, Fences.opening_fenced, Fences.replay_fenced, MachineLemmas.named_fenced}
use Rattle.ckpt_terms.proofs.laws.fenced_always.Goals as goal

pub returns-clause-opening : goal.returns-clause-opening
returns-clause-opening c = opening_fenced

pub returns-clause-named : goal.returns-clause-named
returns-clause-named c = named_fenced

pub returns-clause-after : goal.returns-clause-after
returns-clause-after c = λ m calls i a. replay_fenced m calls a i

pub returns-clause-opened : goal.returns-clause-opened
returns-clause-opened c = always
