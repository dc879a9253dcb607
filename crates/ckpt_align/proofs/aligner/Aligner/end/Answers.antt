-- Answers the goals of `Aligner::end`.
use Rattle.std.proofs.Common.{◌≡◌, ◌∙◌, List, Some, ap, arith}
use Rattle.std.proofs.lemmas.List.{length-set}
use Rattle.std.specs.Prelude.{slice_get}
use Rattle.ckpt_align.specs.declared.input.Input.{Input}
use Rattle.ckpt_align.specs.declared.input.Input.TheVariants.{Ended, Open}
use Rattle.ckpt_align.specs.Alignment.{Alignment, is_held, is_open}
use Rattle.ckpt_align.proofs.CountLemmas.{count_by-set}
use Rattle.ckpt_align.proofs.aligner.Aligner.end.Goals as goal

pub overflow_sub-self : goal.overflow_sub-self
overflow_sub-self c =
    let xs : List Input = c.self.inside.inputs.items in
    let at : slice_get xs c.args.input ≡ Some Open = ap (λ (a : Alignment). slice_get a.inputs c.args.input) c.self.view_is ∙ c.requires in
    omega (arith, count_by-set is_open xs c.args.input Open Ended at, c.self.invariant.opened)

pub invariant_of-self : goal.invariant_of-self
invariant_of-self c =
    let xs : List Input = c.self.inside.inputs.items in
    let at : slice_get xs c.args.input ≡ Some Open = ap (λ (a : Alignment). slice_get a.inputs c.args.input) c.self.view_is ∙ c.requires in
    record {
      few = rw (length-set xs c.args.input Ended) c.self.invariant.few;
      opened = omega (arith, count_by-set is_open xs c.args.input Open Ended at, c.self.invariant.opened);
      held = omega (arith, count_by-set is_held xs c.args.input Open Ended at, c.self.invariant.held);
    }
