-- Answers the goals of `begins_terms_once`.
use Rattle.ckpt_durable.proofs.TermsOnce.{begins_terms_once}
use Rattle.ckpt_durable.proofs.laws.begins_terms_once.Goals as goal

pub returns : goal.returns
returns c = begins_terms_once
