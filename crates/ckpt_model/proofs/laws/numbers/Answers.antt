-- Answers the goals of `numbers`.
use Rattle.ckpt_model.proofs.Histories.Numbers.{numbers}
use Rattle.ckpt_model.proofs.laws.numbers.Goals as goal

pub returns : goal.returns
returns c = numbers
