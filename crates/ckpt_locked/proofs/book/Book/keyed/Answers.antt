-- Answers the goals of `Book::keyed`.
use Rattle.ckpt_locked.proofs.{CanOpen, Entry, IsKept, List, Opening, kept_opened, opened, subst, sym}
use Rattle.ckpt_model.proofs.Soundness.Opening.{InBounds, in_bounds}
use Rattle.ckpt_model.specs.State.{State}
use Rattle.ckpt_locked.proofs.book.Book.keyed.Goals as goal

pub invariant_of-result : goal.invariant_of-result
invariant_of-result c =
    let opening : Opening = record { config = c.args.config; shape = c.args.shape; start = c.args.now; first = c.args.first } in
    let bounds : InBounds c.args.now c.args.first = in_bounds c.args.now c.args.first (sym c.in_ok-core.ensures.fault) in
    let can_open : CanOpen opening = record { config = c.interval.ensures.limits; shape = c.size.ensures.limits; start = bounds.start; first_from = bounds.first_from; first_to = bounds.first_to } in
    let Of_core : State → Type 0 = λ m. IsKept c.args.config m c.new-entries.result.items c.new-entries.result.keep in
    let Of_entries : List Entry → Type 0 = λ entries. IsKept c.args.config (opened opening) entries c.new-entries.result.keep in
    subst Of_core (sym c.in_ok-core.ensures.value) (subst Of_entries (sym c.new-entries.ensures.items) (kept_opened opening c.new-entries.result.keep can_open))
