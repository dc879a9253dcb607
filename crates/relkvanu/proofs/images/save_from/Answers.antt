-- Answers the goals of `save_from`.
use Rattle.relkvanu.proofs.Imports.{ℕ, List, sym, subst, settled, Tells}
use Rattle.relkvanu.proofs.Saves.{plain_opens}
use Rattle.ckpt_names_image.specs.Named.{Plain}
use Rattle.relkvanu.proofs.images.save_from.Goals as goal

pub returns-in-Ok-clause-opens : goal.returns-in-Ok-clause-opens
returns-in-Ok-clause-opens c =
    plain_opens c.args.core.now c.write_text.new.image c.write_text.result
    (λ done. c.write_text.ensures.tells (Plain (settled c.args.core.now)) done
    (subst (λ (bytes : List ℕ). Tells bytes (Plain (settled c.args.core.now))) (sym c.deref.ensures) c.in-Ok.ensures.tells))
