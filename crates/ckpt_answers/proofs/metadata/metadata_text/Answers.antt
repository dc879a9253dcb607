-- Answers the goals of `metadata_text`.
use Rattle.ckpt_answers.proofs.{◌∙◌, ap, has_float, compact_text, metadata_bytes, metadata_has_no_float}
use Rattle.std.proofs.lemmas.Result.{IfOk-weaker}
use Rattle.ckpt_answers.proofs.metadata.metadata_text.Goals as goal

pub returns : goal.returns
unfolding metadata_bytes
returns c =
    let made = c.in_ok-metadata_value.ensures in let no_float = metadata_has_no_float c.args.metadata.now in
    IfOk-weaker c.to_string.result _ _ (λ text written. written (ap has_float made ∙ no_float) ∙ ap compact_text made) c.to_string.ensures.text
