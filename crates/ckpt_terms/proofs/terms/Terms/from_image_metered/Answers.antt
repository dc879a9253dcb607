-- Answers the goals of `Terms::from_image_metered`.
use Rattle.ckpt_terms.proofs.terms.Terms.from_image_metered.Goals as goal

pub returns-clause-sound : goal.returns-clause-sound
returns-clause-sound c = record {
  ranges = c.in-Some.ensures.ranges;
  state = record { core = c.in_ok-core.ensures.sound; fenced = c.in-Some.ensures.fenced c.in_ok-core.ensures.sound.sound };
}
