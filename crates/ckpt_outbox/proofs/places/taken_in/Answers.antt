-- Answers the goals of `taken_in`.

use Rattle.ckpt_outbox.proofs.places.taken_in.Goals as goal

pub returns-clause-has : goal.returns-clause-has
returns-clause-has c = λ f. rw (← c.keys-file-items.ensures.rest) (c.keys-file-items.ensures.has f)
