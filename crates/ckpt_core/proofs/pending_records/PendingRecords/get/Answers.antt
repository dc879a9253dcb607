-- Answers the goals of `PendingRecords::get`.
use Rattle.ckpt_core.proofs.{◌≡◌, ◌∙◌, ap, sym, List, find, slice_get, option_copied, Record, has_id, find-none, copied_from_get, find-place, none_place}
use Rattle.ckpt_core.proofs.pending_records.PendingRecords.get.Goals as goal

pub returns-in-Ok-clause-value : goal.returns-in-Ok-clause-value
returns-in-Ok-clause-value c = let row : List Record = c.self.inside.records.items in
    let got : option_copied c.get.result ≡ slice_get row c.in-Ok.place = copied_from_get c.get.result row c.in-Ok.place c.get.ensures.item.0 c.get.ensures.lookup in
    got ∙ find-place c.args.id row c.in-Ok.place c.self.invariant.in_order c.in-Ok.ensures.found ∙ ap (find (has_id c.args.id)) c.self.view_is

pub returns-in-Ok-clause-pending : goal.returns-in-Ok-clause-pending
returns-in-Ok-clause-pending c = rw (← c.self.view_is) c.self.invariant.pending

pub returns-in-Err-clause-value : goal.returns-in-Err-clause-value
returns-in-Err-clause-value c = let row : List Record = c.self.inside.records.items in
    sym (find-none (has_id c.args.id) row (none_place c.args.id row c.in-Err.field-0 c.in-Err.ensures.absent)) ∙ ap (find (has_id c.args.id)) c.self.view_is

pub returns-in-Err-clause-pending : goal.returns-in-Err-clause-pending
returns-in-Err-clause-pending c = rw (← c.self.view_is) c.self.invariant.pending
