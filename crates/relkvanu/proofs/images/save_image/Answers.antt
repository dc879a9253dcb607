-- Answers the goals of `save_image`.
use Rattle.relkvanu.proofs.Imports.{◌∙◌, ap, Fenced, named_in, saved_read}
use Rattle.relkvanu.proofs.Saves.{named_tells}
use Rattle.relkvanu.proofs.images.save_image.Goals as goal

pub returns-in-Ok-clause-tells : goal.returns-in-Ok-clause-tells
returns-in-Ok-clause-tells c = λ done can.
    c.write_text.ensures.tells (Fenced (named_in c.args.saved.now)) done
    (named_tells c.deref.result.now c.args.saved.now c.deref.utf8 (ap saved_read c.deref.ensures ∙ c.in-Ok.ensures.reads_back) can)
