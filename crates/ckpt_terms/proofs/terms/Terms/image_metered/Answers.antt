-- Answers the goals of `Terms::image_metered`.
use Rattle.ckpt_terms.proofs.Imports.{◌≡◌, ap, ◌∙◌, settled, state_in, Fenced, names_of}
use Rattle.ckpt_terms.proofs.{Imaged.saved_is, Imaged.saved_can_hold, TermLemmas.layer}
use Rattle.ckpt_terms.proofs.terms.Terms.image_metered.Goals as goal

pub returns-clause-good : goal.returns-clause-good
returns-clause-good c =
    let m : Fenced = c.args.self.now in
    let core : state_in c.in_ok-core.core ≡ settled m.core = c.in_ok-core.ensures.value ∙ ap settled c.core.ensures in
    let saved : Fenced = layer (state_in c.in_ok-core.core) c.term-term.result c.next_name.result (names_of c.in_ok-unspent.unspent.items) in
    let is = saved_is m (state_in c.in_ok-core.core) c.term-term.result c.next_name.result (names_of c.in_ok-unspent.unspent.items) core c.term-term.ensures.value c.next_name.ensures
    (c.in_ok-unspent.ensures.names ∙ c.names.ensures) in
    record {
      ranges = c.in_ok-unspent.ensures.ranges;
      state = saved_can_hold m saved is c.in_ok-core.ensures.good c.term-term.ensures.always;
    }
