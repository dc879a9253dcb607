-- Answers the goals of `issued_once`.
use Rattle.ckpt_terms.proofs.OnceIssued.{issues_once, issued_once}
use Rattle.ckpt_terms.proofs.laws.issued_once.Goals as goal

pub returns-clause-sound : goal.returns-clause-sound
returns-clause-sound c = issues_once

pub returns-clause-opened : goal.returns-clause-opened
returns-clause-opened c = issued_once
