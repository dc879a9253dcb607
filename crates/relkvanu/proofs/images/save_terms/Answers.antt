-- Answers the goals of `save_terms`.
use Rattle.relkvanu.proofs.Saves.{named_opens}
use Rattle.relkvanu.proofs.images.save_terms.Goals as goal

pub returns-in-Ok-clause-opens : goal.returns-in-Ok-clause-opens
returns-in-Ok-clause-opens c =
    named_opens c.in-Ok.saved c.args.terms.now c.save_image.new.image c.save_image.result c.in-Ok.ensures.value c.in-Ok.ensures.fewest
    (λ done. c.save_image.ensures.tells done c.in-Ok.ensures.good)
