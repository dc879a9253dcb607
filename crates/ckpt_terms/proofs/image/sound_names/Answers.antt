-- Answers the goals of `sound_names`.
use Rattle.ckpt_terms.proofs.Imports.{◌≡◌, ◌<◌, ℕ, List, length, sym, ap, subst, ◌∙◌, arith, both_ways, IsIn, Span, Fenced, AreRanges, AreRangesBelow, names_of, fenced_in}
use Rattle.ckpt_terms.proofs.{Counted.no_names, Imaged.fenced_tested, Imaged.same_files, Imaged.tested_fenced}
use Rattle.ckpt_terms.proofs.image.sound_names.Goals as goal

pub returns-in_err-held-clause-none : goal.returns-in_err-held-clause-none
returns-in_err-held-clause-none c = λ _ can.
    let Are : List Span → Type 0 = λ xs. AreRanges xs in
    let Below : List Span → Type 0 = λ xs. (f : ℕ) → IsIn f (names_of xs) → f < c.args.image.now.next_name in
    c.count_names.ensures.none c.in_err-held.was (subst Are (sym c.deref.ensures.value) can.ranges) (subst Below (sym c.deref.ensures.value) can.state.fenced.reserved)

pub returns-then-not-may_hold-clause-none : goal.returns-then-not-may_hold-clause-none
returns-then-not-may_hold-clause-none c = λ _ can.
    let Are : List Span → Type 0 = λ xs. length (names_of xs) ≡ c.in_ok-held.held in
    let its : length (names_of c.args.image.now.unspent.items) ≡ c.in_ok-held.held = subst Are c.deref.ensures.value c.in_ok-held.ensures.some.names in
    both_ways c.may_hold.result c.if-not-may_hold.true (c.may_hold.ensures.1 (λ e. sym its ∙ ap length (can.state.fenced.ended e)))

pub returns-then-files_are_spent-clause-fenced : goal.returns-then-files_are_spent-clause-fenced
returns-then-files_are_spent-clause-fenced c = λ sound.
    let m : Fenced = fenced_in c.args.image.now in
    let Is : List Span → Type 0 = λ xs. AreRangesBelow xs c.args.image.now.next_name c.in_ok-held.held in
    let its : AreRangesBelow c.args.image.now.unspent.items c.args.image.now.next_name c.in_ok-held.held = subst Is c.deref.ensures.value c.in_ok-held.ensures.some in
    tested_fenced m (record {
      term_from = omega arith;
      term_to = omega arith;
      names_from = omega arith;
      names_to = omega arith;
      ended = λ e. no_names m.unspent c.in_ok-held.held its.names (c.may_hold.ensures.0 c.if-not-may_hold.false e);
      ascending = its.ranges.ascending;
      reserved = its.below;
      files = sym (same_files c.args.image.now) ∙ sym c.files_are_spent.ensures ∙ c.if-files_are_spent.true;
    }) sound

pub returns-else-files_are_spent-clause-none : goal.returns-else-files_are_spent-clause-none
returns-else-files_are_spent-clause-none c =
    λ _ can. both_ways c.files_are_spent.result c.if-files_are_spent.false (c.files_are_spent.ensures ∙ same_files c.args.image.now ∙ fenced_tested (fenced_in c.args.image.now) can.state.fenced)
