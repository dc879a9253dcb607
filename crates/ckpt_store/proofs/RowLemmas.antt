-- Rows of records that rise by number: what is found there, and what an insertion and a removal leave.
use Rattle.ckpt_store.proofs.Names.{◌≡◌, ℕ, zero, suc, true, false, not, ltb, leb, List, [], ◌∷◌, get_or, length, sym, ap, ◌∙◌, arith, Bor, Option, Some, None, IfSome, filter, slice_get, list_any}
use Rattle.ckpt_store.proofs.Names.{find, remove, IsPartitionedBy, IsPartitionPoint, is_some, option_copied, slice_get-get_or, slice_get_past, eq-eqb, le-leb, lt-leb, ltb-true, ltb-false, ne_eqb}
use Rattle.ckpt_store.proofs.Names.{BelongsAt, LiesAt, Record, numbers_in_order, any_lies, find_lies, none_belongs, remove_lies, AreRising, has_id, id_of}
use Rattle.ckpt_ids.proofs.PlaceLemmas as rows

module _ (id : ℕ) (records : List Record) where
  yes : (r : Record) → r.id ≡ id → has_id id r ≡ true
  yes r e = eq-eqb r.id id e

  no : (r : Record) → (r.id ≡ id → ⊥) → has_id id r ≡ false
  no r ne = ne_eqb r.id id ne

  -- what a search returns

  pub partitioned : AreRising records → IsPartitionedBy (λ r. ltb r.id id) records
  partitioned a = rows.partitioned id_of numbers_in_order id records a

  -- at a place

  pub none_place : (place : ℕ) → BelongsAt ltb id_of id records place → list_any (has_id id) records ≡ false
  none_place place h = none_belongs id_of numbers_in_order id (has_id id) yes no records place h

  pub has_place : (place : ℕ) → LiesAt id_of id records place → list_any (has_id id) records ≡ true
  has_place place h = any_lies id_of numbers_in_order id (has_id id) yes no records place h

  pub find-place : (place : ℕ) → AreRising records → LiesAt id_of id records place → slice_get records place ≡ find (has_id id) records
  find-place place a h = find_lies id_of numbers_in_order id (has_id id) yes no records place a h

  pub remove-place : (place : ℕ) → AreRising records → LiesAt id_of id records place → remove records place ≡ filter (λ r. not (has_id id r)) records
  remove-place place a h = remove_lies id_of numbers_in_order id (has_id id) yes no records place a h

-- what `get` returns
pub copied_from_get : (r : Option (Bor Record)) (records : List Record) (place : ℕ) → is_some r ≡ ltb place (length records) → IfSome r (λ x. x.now ≡ get_or records place x.now)
    → option_copied r ≡ slice_get records place
copied_from_get None records place e h = sym (slice_get_past records place (ltb-false place (length records) (sym e)))
copied_from_get (Some x) records place e h = ap (λ q. Some q) h ∙ sym (slice_get-get_or records place x.now (ltb-true place (length records) (sym e)))

-- the first from a number on
pub find-partition : (id : ℕ) (records : List Record) (place : ℕ) → IsPartitionPoint (λ r. ltb r.id id ≡ true) (λ r. ltb r.id id ≡ false) records place
    → slice_get records place ≡ find (λ r. leb id r.id) records
find-partition id [] place h = slice_get_past [] place (omega arith)
find-partition id (r ∷ records) zero h = rw (le-leb id r.id (ltb-false r.id id (h.1 0 r (omega arith) (omega arith))))
find-partition id (r ∷ records) (suc place) h =
    let rest = find-partition id records place (λ k d l m. h.0 (suc k) d (omega arith) (omega arith), λ k d l m. h.1 (suc k) d (omega arith) (omega arith)) in
    rw (lt-leb id r.id (ltb-true r.id id (h.0 0 r (omega arith) (omega arith)))) rest
