-- Answers the goals of `Aligner::release`.
use Rattle.std.proofs.Common.{◌∙◌, ap, map}
use Rattle.ckpt_align.specs.Alignment.{released}
use Rattle.ckpt_align.proofs.CountLemmas.{released_counted}
use Rattle.ckpt_align.proofs.aligner.Aligner.release.Goals as goal

pub invariant_of-self : goal.invariant_of-self
invariant_of-self c =
    let a = c.self.inside in
    released_counted a.inputs.items c.release_each.new.inputs a.inputs.len a.open_count a.held_count c.self.invariant
    (c.release_each.ensures ∙ ap (map released) c.deref_mut.ensures.value) a.inputs.ok.0
