-- Answers the goals of `Terms::keyed`.
use Rattle.ckpt_terms.proofs.Imports.{ℕ, List, sym, subst, arith, CanOpen, State, Opening, opened, CanFence, IsFenced, InBounds, in_bounds}
use Rattle.ckpt_terms.proofs.{Fences.opening_fenced, TermLemmas.layer}
use Rattle.ckpt_terms.proofs.terms.Terms.keyed.Goals as goal

pub invariant_of-result : goal.invariant_of-result
invariant_of-result c =
    let o : Opening = record { config = c.args.config; shape = c.args.shape; start = c.args.now; first = c.args.first } in
    let bounds : InBounds c.args.now c.args.first = in_bounds c.args.now c.args.first (sym c.in_ok-core.ensures.fault) in
    let can_open : CanOpen o = record { config = c.interval.ensures.limits; shape = c.size.ensures.limits; start = bounds.start; first_from = bounds.first_from; first_to = bounds.first_to } in
    let can : CanFence o c.args.first_name = record { core = can_open; first_from = omega arith; first_to = omega arith } in
    let Of_core : State → Type 0 = λ m. IsFenced (layer m 1 c.args.first_name c.new.result) in
    let Of_names : List ℕ → Type 0 = λ xs. IsFenced (layer (opened o) 1 c.args.first_name xs) in
    subst Of_core (sym c.in_ok-core.ensures.value) (subst Of_names (sym c.new.ensures) (opening_fenced o c.args.first_name can))
