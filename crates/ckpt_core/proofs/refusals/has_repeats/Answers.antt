-- Answers the goals of `has_repeats`.
use Rattle.ckpt_core.proofs.{◌≡◌, ◌||◌, ◌∙◌, ◌++◌, sym, has_repeats, repeats_within, repeats_across, or_first, or_second}
use Rattle.ckpt_core.proofs.refusals.has_repeats.Goals as goal

pub returns-then-repeats-2 : goal.returns-then-repeats-2
returns-then-repeats-2 c =
    let within : c.if-repeats.value ≡ (has_repeats c.as_slice-fresh.result.now || has_repeats c.as_slice-reused.result.now) =
    elim c.if-repeats.branch [
      | goal.then-repeats w ↦ or_first _ _ _ (sym c.repeats.ensures ∙ w.if-repeats.true) (w.value-is ∙ w.if-repeats.true)
      | goal.else-repeats w ↦ or_second _ _ _ (sym c.repeats.ensures ∙ w.if-repeats.false) (w.value-is ∙ w.repeats-else-repeats.ensures)
    ] in
    let all : has_repeats (c.as_slice-fresh.result.now ++ c.as_slice-reused.result.now) ≡ has_repeats (c.args.fresh.now ++ c.args.reused.now) = cc in
    repeats_within c.as_slice-fresh.result.now c.as_slice-reused.result.now c.if-repeats.value within c.if-repeats-2.true ∙ all

pub returns-else-repeats-2 : goal.returns-else-repeats-2
returns-else-repeats-2 c =
    let within : c.if-repeats.value ≡ (has_repeats c.as_slice-fresh.result.now || has_repeats c.as_slice-reused.result.now) =
    elim c.if-repeats.branch [
      | goal.then-repeats w ↦ or_first _ _ _ (sym c.repeats.ensures ∙ w.if-repeats.true) (w.value-is ∙ w.if-repeats.true)
      | goal.else-repeats w ↦ or_second _ _ _ (sym c.repeats.ensures ∙ w.if-repeats.false) (w.value-is ∙ w.repeats-else-repeats.ensures)
    ] in
    let all : has_repeats (c.as_slice-fresh.result.now ++ c.as_slice-reused.result.now) ≡ has_repeats (c.args.fresh.now ++ c.args.reused.now) = cc in
    repeats_across c.as_slice-fresh.result.now c.as_slice-reused.result.now c.if-repeats.value c.share.result within c.if-repeats-2.false c.share.ensures ∙ all
