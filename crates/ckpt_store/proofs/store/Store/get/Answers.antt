-- Answers the goals of `Store::get`.
use Rattle.ckpt_store.proofs.{◌≡◌, ◌∙◌, sym, ap, false, slice_get, list_any, option_copied, Stored, has_id, record_of, find-none, copied_from_get, find-place, none_place, record_of_place}
use Rattle.ckpt_store.proofs.{record_of_later}
use Rattle.ckpt_store.proofs.store.Store.get.Goals as goal

pub returns-in-Ok-clause-value : goal.returns-in-Ok-clause-value
returns-in-Ok-clause-value c =
    let s : Stored = record { retained = c.self.inside.retained; checkpoints = c.self.inside.checkpoints.items; savepoints = c.self.inside.savepoints.items; base = c.self.inside.base; spare = 0 } in
    let same : record_of s c.args.id ≡ record_of c.args.self.now c.args.id = ap (λ q. record_of q c.args.id) c.self.view_is in
    let got : option_copied c.get.result ≡ slice_get c.self.inside.checkpoints.items c.in-Ok.place =
    copied_from_get c.get.result c.self.inside.checkpoints.items c.in-Ok.place c.get.ensures.item.0 c.get.ensures.lookup in
    got ∙ record_of_place s c.args.id c.in-Ok.place c.self.invariant.checkpoints_rise c.in-Ok.ensures.found ∙ same

pub returns-in-Ok-place_of-clause-value : goal.returns-in-Ok-place_of-clause-value
returns-in-Ok-place_of-clause-value c =
    let s : Stored = record { retained = c.self.inside.retained; checkpoints = c.self.inside.checkpoints.items; savepoints = c.self.inside.savepoints.items; base = c.self.inside.base; spare = 0 } in
    let same : record_of s c.args.id ≡ record_of c.args.self.now c.args.id = ap (λ q. record_of q c.args.id) c.self.view_is in
    let got : option_copied c.get-in-Ok-place_of.result ≡ slice_get c.self.inside.savepoints.items c.in-Ok-place_of.place =
    copied_from_get c.get-in-Ok-place_of.result c.self.inside.savepoints.items c.in-Ok-place_of.place c.get-in-Ok-place_of.ensures.item.0 c.get-in-Ok-place_of.ensures.lookup in
    got ∙ find-place c.args.id c.self.inside.savepoints.items c.in-Ok-place_of.place c.self.invariant.savepoints_rise c.in-Ok-place_of.ensures.found ∙ record_of_later s c.args.id
    (none_place c.args.id c.self.inside.checkpoints.items c.in_default.field-0 c.in_default.ensures.absent) ∙ same

pub returns-in-Err-clause-value : goal.returns-in-Err-clause-value
returns-in-Err-clause-value c =
    let s : Stored = record { retained = c.self.inside.retained; checkpoints = c.self.inside.checkpoints.items; savepoints = c.self.inside.savepoints.items; base = c.self.inside.base; spare = 0 } in
    let same : record_of s c.args.id ≡ record_of c.args.self.now c.args.id = ap (λ q. record_of q c.args.id) c.self.view_is in
    let absent : list_any (has_id c.args.id) c.self.inside.savepoints.items ≡ false = none_place c.args.id c.self.inside.savepoints.items c.in-Err.field-0 c.in-Err.ensures.absent in
    sym (find-none (has_id c.args.id) c.self.inside.savepoints.items absent) ∙ record_of_later s c.args.id
    (none_place c.args.id c.self.inside.checkpoints.items c.in_default.field-0 c.in_default.ensures.absent) ∙ same
