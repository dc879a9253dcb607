-- Answers the goals of `image_value`.
use Rattle.ckpt_names_image.proofs.Names.{ap, codes, ◌∙◌, named_data, named_in, names_data, object, put, members_view, view-Object}
use Rattle.ckpt_names_image.proofs.writing.image_value.Goals as goal

pub returns-clause-value : goal.returns-clause-value
unfolding named_data
returns-clause-value c =
    view-Object _ ∙ ap object
    (c.in_ok-put.ensures.ok ∙ ap (λ d. put (codes "names") d (members_view c.in_ok-object.object.entries)) c.in_ok-names_value.ensures
    ∙ ap (put (codes "names") (names_data (named_in c.args.image.now))) c.in_ok-object.ensures.value)
