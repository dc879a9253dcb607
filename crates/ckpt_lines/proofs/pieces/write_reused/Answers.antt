-- Answers the goals of `write_reused`.
use Rattle.ckpt_lines.proofs.{sym, ◌∙◌, append_assoc, arith, flat_map-take-next, none_within-absurd, reused_text, fit-next}
use Rattle.ckpt_lines.proofs.pieces.write_reused.Goals as goal
use Rattle.ckpt_lines.proofs.pieces.write_reused.Goals.{in-Some+in_ok-write_number, in_default}

pub loop-place-preserved : goal.loop-place-preserved
loop-place-preserved c =
    elim c.match-get.branch [
      | in-Some+in_ok-write_number w ↦
          let found = sym c.get.ensures ∙ w.in-Some.is in
          let next = flat_map-take-next reused_text c.args.files.now c.loop-place.place _ found in
          (grind (arith, append_assoc, next), fit-next c.args.files.now c.loop-place.place _ found c.loop-place.invariant.1 (omega (arith, w.file.view_is, w.write_number.ensures.fits)))
      | in_default w ↦ absurd (none_within-absurd c.args.files.now c.loop-place.place (sym c.get.ensures ∙ w.in_default.is) (omega arith))
    ]
