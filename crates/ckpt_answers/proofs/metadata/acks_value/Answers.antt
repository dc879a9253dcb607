-- Answers the goals of `acks_value`.
use Rattle.ckpt_answers.proofs.{◌≡◌, sym, ◌∙◌, ap, arith, Some, slice_get, option_copied, ack_data, none_within-absurd, views-next, views-whole}
use Rattle.ckpt_answers.proofs.metadata.acks_value.Goals as goal
use Rattle.ckpt_answers.proofs.metadata.acks_value.Goals.{in-Some+in_ok-ack_value+in_ok-push, in_default}

pub loop-place-preserved : goal.loop-place-preserved
loop-place-preserved c =
    elim c.match-get.branch [
      | in-Some+in_ok-ack_value+in_ok-push w ↦
          let found : slice_get c.args.acks.now c.loop-place.place ≡ Some w.in-Some.acked.now = sym c.get.ensures ∙ ap option_copied w.in-Some.is in
          views-next ack_data c.args.acks.now c.loop-place.place w.in-Some.acked.now _ _ _ found c.loop-place.invariant
          (ap (λ v. v.items) w.items-is ∙ w.in_ok-push.ensures.items) w.in_ok-ack_value.ensures
      | in_default w ↦ absurd (none_within-absurd c.args.acks.now c.loop-place.place (sym c.get.ensures ∙ ap option_copied w.in_default.is) (omega arith))
    ]

pub returns : goal.returns
returns c = c.from.ensures ∙ views-whole ack_data c.args.acks.now c.loop-place.place c.loop-place.items.items c.loop-place.invariant (omega arith)
