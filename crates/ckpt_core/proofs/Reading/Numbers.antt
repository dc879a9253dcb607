-- What the look-ups of a number among the pending records and in the store find.
use Rattle.ckpt_core.proofs.Names.{IsInOrder, Record, IsPending, pins_by, IsStored, Stored, Parts, Standing, with_pins, records_in, state_of, pins_in, standing, standing_of, standing_without}
use Rattle.ckpt_core.proofs.Names.{pending_of, id_before, State, is_pending, record_of, IsIn-from_find, common_steps, arith}
use Rattle.ckpt_core.proofs.Names.{◌≡◌, ℕ, Bool, true, false, ◌&&◌, cond, eqb, refl, sym, ap, ◌∙◌, Option, Some, None, Bor, find, is_some, IsSome, option_copied, option_map, and_parts, eqb-true, IsIn}
use Rattle.ckpt_core.proofs.{Answering.Reads.pending_live, Answering.Reads.stored_record, Records.Lookups.has_number}
use Rattle.ckpt_store.specs.Storing as storing
use Rattle.ckpt_model.specs.declared.reads.Standing.TheVariants as stands

-- the standing, by what is found
abbrev found_standing : State → ℕ → Option Record → Standing
found_standing m id o = elim o as (λ _. Standing) [ Some r ↦ standing_of r | None ↦ standing_without m id ]

-- what the store finds is done
stored_done : (s : Stored) (id : ℕ) (r : Record) → IsStored s → storing.record_of s id ≡ Some r → r.done ≡ true
stored_done s id r stored e =
    let Goal : Option Record → Type 0 = λ o. find (has_number id) s.checkpoints ≡ o → elim o as (λ _. Option Record) [ Some x ↦ Some x | None ↦ find (has_number id) s.savepoints ] ≡ Some r →
    r.done ≡ true in
    let first : (x : Record) → Goal (Some x) = λ x f g. let same : x ≡ r = cc in ap (λ (y : Record). y.done) (sym same)
    ∙ (stored.checkpoints_done x (IsIn-from_find (has_number id) x s.checkpoints f).0).0.is_done in
    let second : Goal None = λ f g. (stored.savepoints_done r (IsIn-from_find (has_number id) r s.savepoints g).0).0.is_done in
    elim (find (has_number id) s.checkpoints) as Goal [ Some x ↦ first x | None ↦ second ] refl e

pub none_copied : (o : Option (Bor Record)) → is_some o ≡ false → option_copied o ≡ None
none_copied (Some b) h = absurd (cc)
none_copied None h = refl

pub standing_pending : (p : Parts) (id : ℕ) (o : Option (Bor Record)) → IsInOrder id_before (records_in p) → ((r : Record) → IsIn r p.pending → IsPending r) →
    option_copied o ≡ find (has_number id) p.pending → is_some o ≡ true → stands.Pending ≡ standing (state_of p) id
standing_pending p id (Some b) order pending e h =
    let not_done : b.now.done ≡ false = (pending b.now (IsIn-from_find (has_number id) b.now p.pending (sym e)).0).not_done in
    sym (ap (found_standing (state_of p) id) (pending_live p id b.now order (sym e)) ∙ ap (λ (d : Bool). cond d stands.Done stands.Pending) not_done)
standing_pending p id None order pending e h = absurd (cc)

pub standing_done : (p : Parts) (id : ℕ) (o : Option (Bor Record)) → IsInOrder id_before (records_in p) → IsStored p.store → find (has_number id) p.pending ≡ None →
    option_copied o ≡ storing.record_of p.store id → is_some o ≡ true → stands.Done ≡ standing (state_of p) id
standing_done p id (Some b) order stored none e h = grind (arith, common_steps, stored_done, stored_record)
standing_done p id None order stored none e h = absurd (cc)

pub standing_of_none : (p : Parts) (id : ℕ) → record_of (state_of p) id ≡ None → standing_without (state_of p) id ≡ standing (state_of p) id
standing_of_none p id none = sym (ap (found_standing (state_of p) id) none)

-- the pins of a pending record are what the registry has for its number
pub pins_found : (p : Parts) (id : ℕ) (o : Option (Bor Record)) → pending_of (records_in p) id ≡ option_map (with_pins p.registry) (option_copied o) → is_some o ≡ true →
    pins_by id p.registry ≡ pins_in (pending_of (records_in p) id)
pins_found p id (Some b) e h =
    let k = IsIn-from_find (λ (q : Record). is_pending q && eqb q.id id) (with_pins p.registry b.now) (records_in p) e in
    let same : b.now.id ≡ id = eqb-true b.now.id id (and_parts (is_pending b.now) (eqb b.now.id id) k.1).1 in
    sym (ap pins_in e ∙ ap (λ (n : ℕ). pins_by n p.registry) same)
pins_found p id None e h = absurd (cc)

pub is_pending_there : (p : Parts) (id : ℕ) (o : Option (Bor Record)) → pending_of (records_in p) id ≡ option_map (with_pins p.registry) (option_copied o) → is_some o ≡ true →
    IsSome (pending_of (records_in p) id)
is_pending_there p id (Some b) e h = ap is_some e
is_pending_there p id None e h = absurd (cc)
