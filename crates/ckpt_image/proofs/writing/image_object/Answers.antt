-- Answers the goals of `image_object`.
use Rattle.ckpt_image.proofs.writing.image_object.Goals as goal

pub returns-clause-fits : goal.returns-clause-fits
returns-clause-fits c =
    let later = c.in_ok-put_later.ensures in
    record { config = later.config; first_shape = later.shapes.0; shape = later.shapes.1; failures = c.in_ok-put_others.ensures.failures; records = later.records; taken = later.taken }
