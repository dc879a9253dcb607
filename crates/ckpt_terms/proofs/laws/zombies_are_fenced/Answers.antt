-- Answers the goals of `zombies_are_fenced`.
use Rattle.ckpt_terms.proofs.Zombies.{zombies_are_fenced}
use Rattle.ckpt_terms.proofs.laws.zombies_are_fenced.Goals as goal

pub returns : goal.returns
returns c = zombies_are_fenced
