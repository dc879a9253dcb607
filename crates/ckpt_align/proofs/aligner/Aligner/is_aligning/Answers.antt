-- Answers the goals of `Aligner::is_aligning`.
use Rattle.std.proofs.Common.{◌∙◌, sym, ap}
use Rattle.std.specs.Prelude.{nat_lt}
use Rattle.ckpt_align.specs.Alignment.{is_aligning, is_held}
use Rattle.ckpt_align.proofs.CountLemmas.{any-counted}
use Rattle.ckpt_align.proofs.aligner.Aligner.is_aligning.Goals as goal

pub returns : goal.returns
returns c = ap (nat_lt 0) c.self.invariant.held ∙ sym (any-counted is_held c.self.inside.inputs.items) ∙ ap is_aligning c.self.view_is
