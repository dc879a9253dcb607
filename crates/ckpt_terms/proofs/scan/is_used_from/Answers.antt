-- Answers the goals of `is_used_from`.
use Rattle.ckpt_terms.proofs.Imports.{◌≡◌, Bool, true, ◌||◌, leb, sym, ap, ◌∙◌, arith, list_any, record_in}
use Rattle.ckpt_terms.proofs.KnownFiles.{any_used}
use Rattle.ckpt_terms.proofs.scan.is_used_from.Goals as goal

pub returns-then-any_acked_from : goal.returns-then-any_acked_from
returns-then-any_acked_from c =
    let first = c.args.first in let r = record_in c.args.saved.now in
    let yes : list_any (λ a. list_any (leb first) a.files) r.acks ≡ true = grind (arith, c.if-any_acked_from.true, c.any_acked_from.ensures, c.as_slice.ensures.acks) in
    c.if-any_acked_from.true ∙ sym (any_used first r ∙ ap (λ (b : Bool). b || list_any (leb first) r.pins) yes)

pub returns-else-any_acked_from : goal.returns-else-any_acked_from
returns-else-any_acked_from c =
    let first = c.args.first in let r = record_in c.args.saved.now in
    grind (arith, any_used first r, c.if-any_acked_from.false, c.any_acked_from.ensures, c.as_slice.ensures.acks, c.as_slice-else-any_acked_from.ensures.files, c.any_from.ensures)
