-- Answers the goals of `write_shape`.
use Rattle.ckpt_lines.proofs.{sym, ◌∙◌, append_assoc, arith, spaced, flat_map-take-next, none_within-absurd, fit-next}
use Rattle.ckpt_lines.proofs.pieces.write_shape.Goals as goal
use Rattle.ckpt_lines.proofs.pieces.write_shape.Goals.{in-Some+in_ok-write_number, in_default}

pub loop-vertex-preserved : goal.loop-vertex-preserved
loop-vertex-preserved c =
    elim c.match-parallelism.branch [
      | in-Some+in_ok-write_number w ↦
          let found = sym c.parallelism.ensures ∙ w.in-Some.is in
          let next = flat_map-take-next spaced c.args.shape.now c.loop-vertex.vertex _ found in
          (grind (arith, append_assoc, next), fit-next c.args.shape.now c.loop-vertex.vertex _ found c.loop-vertex.invariant.1 (omega (arith, w.from.ensures, w.write_number.ensures.fits)))
      | in_default w ↦ absurd (none_within-absurd c.args.shape.now c.loop-vertex.vertex (sym c.parallelism.ensures ∙ w.in_default.is) (omega arith))
    ]
