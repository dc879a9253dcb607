-- Answers the goals of `any_order`.
use Rattle.ckpt_model.proofs.Reordering.Interleavings.{any_order}
use Rattle.ckpt_model.proofs.laws.any_order.Goals as goal

pub returns : goal.returns
returns c = any_order
