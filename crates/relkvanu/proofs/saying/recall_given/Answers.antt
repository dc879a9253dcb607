-- Answers the goals of `recall_given`.
use Rattle.relkvanu.proofs.SayingLemmas.{given_back}
use Rattle.relkvanu.proofs.saying.recall_given.Goals as goal

pub returns : goal.returns
returns c = given_back c.args.asked.now c.recall_lists.ensures
