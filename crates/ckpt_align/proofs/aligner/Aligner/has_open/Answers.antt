-- Answers the goals of `Aligner::has_open`.
use Rattle.std.proofs.Common.{◌∙◌, sym, ap}
use Rattle.std.specs.List.{list_any}
use Rattle.std.specs.Prelude.{nat_lt}
use Rattle.ckpt_align.specs.Alignment.{Alignment, is_open}
use Rattle.ckpt_align.proofs.CountLemmas.{any-counted}
use Rattle.ckpt_align.proofs.aligner.Aligner.has_open.Goals as goal

pub returns : goal.returns
returns c =
    ap (nat_lt 0) c.self.invariant.opened ∙ sym (any-counted is_open c.self.inside.inputs.items)
    ∙ ap (λ (a : Alignment). list_any is_open a.inputs) c.self.view_is
