-- Answers the goals of `write_files`.
use Rattle.ckpt_answers.proofs.{sym, ◌∙◌, append_assoc, arith, spaced, flat_map-take-next, none_within-absurd}
use Rattle.ckpt_answers.proofs.replies.write_files.Goals as goal
use Rattle.ckpt_answers.proofs.replies.write_files.Goals.{in-Some+in_ok-write_number, in_default}

pub loop-place-preserved : goal.loop-place-preserved
loop-place-preserved c =
    elim c.match-get.branch [
      | in-Some+in_ok-write_number w ↦
          let next = flat_map-take-next spaced c.args.files.now c.loop-place.place _ (sym c.get.ensures ∙ w.in-Some.is) in
          grind (arith, append_assoc, next)
      | in_default w ↦ absurd (none_within-absurd c.args.files.now c.loop-place.place (sym c.get.ensures ∙ w.in_default.is) (omega arith))
    ]
