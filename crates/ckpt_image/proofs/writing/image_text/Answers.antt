-- Answers the goals of `image_text`.
use Rattle.ckpt_image.proofs.{◌∙◌, ap, sym, subst, ◌≤◌, Some, option_and_then, state_in, Data, depth, max_depth, compact_text, has_float, image_of, image_read, image_bytes, image_has_no_float}
use Rattle.ckpt_image.proofs.{image_is_shallow, image_reads_back}
use Rattle.std.proofs.lemmas.Result.{IfOk-weaker}
use Rattle.ckpt_image.proofs.writing.image_text.Goals as goal

pub returns-clause-text : goal.returns-clause-text
unfolding image_bytes
returns-clause-text c =
    let made = c.in_ok-image_value.ensures.value in let no_float = image_has_no_float (state_in c.args.image.now) in
    IfOk-weaker c.to_string.result _ _ (λ text written. written (ap has_float made ∙ no_float) ∙ ap compact_text made) c.to_string.ensures.text

pub returns-clause-reads_back : goal.returns-clause-reads_back
unfolding image_read
returns-clause-reads_back c =
    let made = c.in_ok-image_value.ensures.value in
    let shallow = subst (λ (d : Data). depth d ≤ max_depth) (sym made) (image_is_shallow (state_in c.args.image.now)) in
    let back = image_reads_back (state_in c.args.image.now) c.in_ok-image_value.ensures.fits in
    IfOk-weaker c.to_string.result _ _ (λ text again. ap (option_and_then image_of) (again shallow ∙ ap (λ d. Some d) made) ∙ back) c.to_string.ensures.reads_back
