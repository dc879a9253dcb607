-- Answers the goals of `sweep_is_exact`.
use Rattle.ckpt_terms.proofs.Zombies.{sweep_is_exact}
use Rattle.ckpt_terms.proofs.laws.sweep_is_exact.Goals as goal

pub returns : goal.returns
returns c = sweep_is_exact
