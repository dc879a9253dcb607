-- Answers the goals of `text_of`.
use Rattle.relkvanu.proofs.Imports.{IfOk-weaker, IsUtf8-string_bytes, string_bytes, settled, state_in}
use Rattle.relkvanu.proofs.Saves.{plain_tells}
use Rattle.relkvanu.proofs.images.text_of.Goals as goal

pub returns-clause-tells : goal.returns-clause-tells
returns-clause-tells c =
    IfOk-weaker c.image_text.result _ _
    (λ text back. plain_tells (string_bytes text) (settled c.args.core.now) (state_in c.in_ok-image.image) (IsUtf8-string_bytes text) back c.in_ok-image.ensures.value c.in_ok-image.ensures.good)
    c.image_text.ensures.reads_back
