-- Answers the goals of `gives_names_once`.
use Rattle.ckpt_durable.proofs.NamesOnce.{gives_names_once}
use Rattle.ckpt_durable.proofs.laws.gives_names_once.Goals as goal

pub returns : goal.returns
returns c = gives_names_once
