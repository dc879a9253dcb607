-- Answers the goals of `write_names`.
use Rattle.ckpt_term_lines.proofs.Names.{sym, ◌∙◌, append_assoc, arith, spaced, flat_map-take-next, none_within-absurd, fit-next}
use Rattle.ckpt_term_lines.proofs.writing.write_names.Goals.{in-Some+in_ok-write_number, in_default}
use Rattle.ckpt_term_lines.proofs.writing.write_names.Goals as goal

pub loop-place-preserved : goal.loop-place-preserved
loop-place-preserved c =
    elim c.match-get.branch [
      | in-Some+in_ok-write_number w ↦
          let found = sym c.get.ensures ∙ w.in-Some.is in
          let next = flat_map-take-next spaced c.args.names.now c.loop-place.place _ found in
          (grind (arith, append_assoc, next), fit-next c.args.names.now c.loop-place.place _ found c.loop-place.invariant.1 (omega (arith, w.name.view_is, w.write_number.ensures.fits)))
      | in_default w ↦
          absurd (none_within-absurd c.args.names.now c.loop-place.place (sym c.get.ensures ∙ w.in_default.is) (omega arith))
    ]
