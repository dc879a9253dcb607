-- Answers the goals of `image_value`.
use Rattle.ckpt_image.proofs.{ap, ◌∙◌, object, image_data}
use Rattle.serde_json.proofs.Views.{view-Object}
use Rattle.ckpt_image.proofs.writing.image_value.Goals as goal

pub returns-clause-value : goal.returns-clause-value
unfolding image_data
returns-clause-value c = view-Object _ ∙ ap object c.in_ok-image_object.ensures.value
