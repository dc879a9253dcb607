-- Answers the goals of `Parts::image`.
use Rattle.ckpt_core.proofs.{ℕ, List, refl, sym, ap, subst, ◌∙◌, CanHold, settled_can_hold, state_same, Names.state_of}
use Rattle.ckpt_core.proofs.parts.Parts.image.Goals as goal

pub returns-clause-value : goal.returns-clause-value
unfolding state_of
returns-clause-value c =
    state_same _ _ (ap (λ (s : List ℕ). record { config = c.args.self.now.opened.config; shape = s; start = c.args.self.now.opened.start; first = c.args.self.now.opened.first })
    c.in_ok-first_shape.ensures.value) (c.in_ok-shape.ensures.value ∙ c.shape.ensures) refl c.latest.ensures.value c.interval_ends.ensures c.last_completion.ensures c.number.ensures refl c.base.ensures.value
    c.in_ok-records.ensures.saved c.in_ok-waiting.ensures.files c.in_ok-taken.ensures.files

pub returns-clause-good : goal.returns-clause-good
unfolding state_of
returns-clause-good c =
    let p = c.args.self.now in
    let s = c.requires.sound in
    let can : CanHold (state_of p) = record {
      can_open = record { config = s.config; shape = c.recall.ensures; start = p.opened.start_to; first_from = s.first; first_to = p.opened.first_to };
      sound = s;
      clock = c.latest.ensures.moments;
    } in
    subst CanHold (sym (returns-clause-value c)) (settled_can_hold (state_of p) can)
