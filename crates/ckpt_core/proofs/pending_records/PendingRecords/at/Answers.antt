-- Answers the goals of `PendingRecords::at`.
use Rattle.ckpt_core.proofs.{◌∙◌, ◌<◌, List, Some, ap, length, subst, sym, slice_get, slice_get-get_or, Record}
use Rattle.ckpt_core.proofs.pending_records.PendingRecords.at.Goals as goal

pub returns : goal.returns
returns c = let rs : List Record = c.self.inside.records.items in let within : c.args.place < length rs = subst (λ (xs : List Record). c.args.place < length xs) (sym c.self.view_is) c.requires in
    ap (λ (xs : List Record). slice_get xs c.args.place) (sym c.self.view_is) ∙ slice_get-get_or rs c.args.place c.index.result.now within ∙ ap (λ r. Some r) (sym c.index.ensures)
