-- Answers the goals of `names_image_text`.
use Rattle.ckpt_names_image.proofs.Names.{◌∙◌, ap, sym, subst, ◌≤◌, Some, option_and_then, IfOk-weaker, named_bytes, named_in, saved_of, saved_read, Data, depth, max_depth, compact_text}
use Rattle.ckpt_names_image.proofs.Names.{has_float}
use Rattle.ckpt_names_image.proofs.RoundTrips.{named_has_no_float, named_is_shallow, saved_back}
use Rattle.ckpt_names_image.proofs.writing.names_image_text.Goals as goal

pub returns-clause-text : goal.returns-clause-text
unfolding named_bytes
returns-clause-text c =
    let made = c.in_ok-image_value.ensures.value in
    let no_float = named_has_no_float (named_in c.args.image.now) in
    IfOk-weaker c.to_string.result _ _ (λ text written. written (ap has_float made ∙ no_float) ∙ ap compact_text made) c.to_string.ensures.text

pub returns-clause-reads_back : goal.returns-clause-reads_back
unfolding saved_read
returns-clause-reads_back c =
    let made = c.in_ok-image_value.ensures.value in
    let shallow = subst (λ (d : Data). depth d ≤ max_depth) (sym made) (named_is_shallow (named_in c.args.image.now)) in
    let back = saved_back (named_in c.args.image.now) c.in_ok-image_value.ensures.fits in
    IfOk-weaker c.to_string.result _ _ (λ text again. ap (option_and_then saved_of) (again shallow ∙ ap (λ d. Some d) made) ∙ back) c.to_string.ensures.reads_back
