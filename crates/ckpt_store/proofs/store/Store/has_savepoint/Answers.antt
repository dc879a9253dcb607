-- Answers the goals of `Store::has_savepoint`.
use Rattle.ckpt_store.proofs.{◌≡◌, ◌∙◌, ℕ, List, Result, Ok, Err, IfOk, IfErr, ltb, sym, ap, is_ok, list_any, BelongsAt, LiesAt, Record, has_id, has_savepoint, id_of, has_place, none_place}
use Rattle.ckpt_store.proofs.store.Store.has_savepoint.Goals as goal

found_or_absent : (id : ℕ) (row : List Record) (r : Result ℕ ℕ) → IfOk r (LiesAt id_of id row) → IfErr r (BelongsAt ltb id_of id row) → is_ok r ≡ list_any (has_id id) row
found_or_absent id row (Ok place) h k = sym (has_place id row place h)
found_or_absent id row (Err place) h k = sym (none_place id row place k)

pub returns : goal.returns
returns c =
    c.is_ok.ensures.value ∙ found_or_absent c.args.id c.self.inside.savepoints.items c.place_of.result c.place_of.ensures.found c.place_of.ensures.absent ∙ ap
    (λ s. has_savepoint s c.args.id) c.self.view_is
