-- Answers the goals of `PendingRecords::place`.
use Rattle.ckpt_core.proofs.{◌∙◌, List, ap, subst, sym, list_any, LiesAt, Record, has_id, id_of, none_place}
use Rattle.ckpt_core.proofs.pending_records.PendingRecords.place.Goals as goal

pub returns-in-Ok-clause-found : goal.returns-in-Ok-clause-found
returns-in-Ok-clause-found c = subst (λ (rs : List Record). LiesAt id_of c.args.id rs c.in-Ok.place) c.self.view_is c.in-Ok.ensures.found

pub returns-in-Ok-clause-pending : goal.returns-in-Ok-clause-pending
returns-in-Ok-clause-pending c = rw (← c.self.view_is) c.self.invariant.pending

pub returns-in-Err-clause-absent : goal.returns-in-Err-clause-absent
returns-in-Err-clause-absent c = ap (list_any (has_id c.args.id)) (sym c.self.view_is) ∙ none_place c.args.id c.self.inside.records.items c.in-Err.field-0 c.in-Err.ensures.absent

pub returns-in-Err-clause-pending : goal.returns-in-Err-clause-pending
returns-in-Err-clause-pending c = rw (← c.self.view_is) c.self.invariant.pending
