-- What is saved of a live record is that record.
use Rattle.ckpt_core.proofs.Names.{rules, ◌≡◌, ℕ, zero, suc, ◌+◌, ◌≤◌, true, false, eqb, List, [], ◌∷◌, ◌++◌, map, take, add-one, arith, sym, ap, ◌∙◌, ⊎_elim, Option, Some, None, count_by, find}
use Rattle.ckpt_core.proofs.Names.{slice_get, IsSome, option_map, both_ways, eq-eqb, leb-true, take_all, Metadata, IsIn, IsInOrder, Record, metadata_of, IsIn-append_cases, IsIn-from_in_order}
use Rattle.ckpt_core.proofs.Names.{IsIn-from_map, IsPending, pins_by, IsStored, Parts, Live, grouped, with_pins, AreSound, records_in, state_of, live_of, id_before, record_of, IsIn-from_find}
use Rattle.ckpt_core.proofs.Names.{common_steps}
use Rattle.ckpt_core.proofs.Ending.Drops.{groups_of}
use Rattle.ckpt_core.proofs.Reading.Live.{found_by_count, is_below, is_from, none_of, one_more, past, some_of}
use Rattle.ckpt_core.proofs.Records.Pending.{find-from_IsIn}
use Rattle.ckpt_core.proofs.Records.Lookups.{done_in}

-- the pins of a pending record are what the registry has for it
pub pending_pins : (p : Parts) (r : Record) → ((q : Record) → IsIn q p.pending → IsPending q) → IsStored p.store → IsIn r (records_in p) → r.done ≡ false → pins_by r.id p.registry ≡ r.pins
pending_pins p r pending stored h not_done = let us = p.registry in let rest : List Record = p.store.checkpoints ++ p.store.savepoints in ⊎_elim (λ (k : IsIn r (map (with_pins us) p.pending)).
    let q = IsIn-from_map (with_pins us) r p.pending k in
    ap (λ (x : Record). pins_by x.id us) q.2 ∙ ap (λ (x : Record). x.pins) (sym q.2)) (λ (k : IsIn r rest). absurd (both_ways r.done not_done (done_in (groups_of p pending stored) r k)))
    (IsIn-append_cases r (map (with_pins us) p.pending) rest (IsIn-from_in_order id_before r (grouped us p.pending p.store.checkpoints p.store.savepoints) h))

-- the record that was looked up
pub looked_up : (p : Parts) (r : Record) (id : ℕ) → record_of (state_of p) id ≡ Some r → IsIn r (records_in p) × (r.id ≡ id)
unfolding state_of
looked_up p r id e = let k = IsIn-from_find (λ (q : Record). eqb q.id id) r (records_in p) e in (k.0, eqb_same r.id id k.1)
  where
    eqb_same : (a b : ℕ) → eqb a b ≡ true → a ≡ b
    eqb_same a b h = grind arith

-- done records pin nothing
pub done_pins_none : (p : Parts) (r : Record) → AreSound p → IsIn r (records_in p) → r.done ≡ true → r.pins ≡ []
unfolding state_of
done_pins_none p r sound h is_done = (sound.sound.records.each r h).unpinned is_done

-- what is saved so is the record
pub saved_record : (r : Record) (m : Metadata) (o : Option Record) (pins : List ℕ) → o ≡ Some r → option_map metadata_of o ≡ Some m → pins ≡ r.pins →
    record { id = m.id; kind = m.kind; done = m.done; shape = m.shape; started = m.started; acks = m.acks; pins = pins } ≡ r
saved_record r m o pins e f same = grind (arith, common_steps)

-- the walk over the live records

take_found : (xs : List Record) (k : ℕ) (r : Record) → slice_get xs k ≡ Some r → take (suc k) xs ≡ take k xs ++ r ∷ []
take_found [] k r e = absurd (cc)
take_found (x ∷ xs) zero r e = let same : x ≡ r = cc in ap (λ y. y ∷ []) same
take_found (x ∷ xs) (suc k) r e = ap (λ ys. x ∷ ys) (take_found xs k r e)

-- the record that is found next
pub found_next : (p : Parts) (n : ℕ) (live : Live) → AreSound p → Some live ≡ option_map live_of (find (is_from n) (records_in p)) →
    (r : Record) × (record_of (state_of p) live.id ≡ Some r) × (live.done ≡ r.done) × (find (is_from n) (records_in p) ≡ Some r) × (live.id ≡ r.id)
unfolding state_of
found_next p n live sound is =
    let rs : List Record = records_in p in let q = some_of live (find (is_from n) rs) is in let r : Record = q.0 in let its : live.id ≡ r.id = ap (λ (l : Live). l.id) q.2 in
    (r, find-from_IsIn live.id r rs sound.sound.records.in_order (IsIn-from_find (is_from n) r rs q.1).0 (eq-eqb r.id live.id (sym its)), ap (λ (l : Live). l.done) q.2, q.1, its)

-- with it, one more is saved
pub saved_next : (rs : List Record) (n : ℕ) (r : Record) → IsInOrder id_before rs → find (is_from n) rs ≡ Some r → take (count_by (is_below (r.id + 1)) rs) rs
    ≡ take (count_by (is_below n) rs) rs ++ r ∷ []
saved_next rs n r order e =
    let k : ℕ = count_by (is_below n) rs in ap (λ (j : ℕ). take j rs) (one_more n r rs order e) ∙ ap (λ (j : ℕ). take j rs) (add-one k) ∙ take_found rs k r (sym (found_by_count n rs order) ∙ e)

-- if none is found, all are saved
pub saved_all : (rs : List Record) (n : ℕ) → IsInOrder id_before rs → None ≡ option_map live_of (find (is_from n) rs) → take (count_by (is_below n) rs) rs ≡ rs
saved_all rs n order e =
    let k : ℕ = count_by (is_below n) rs in let none : slice_get rs k ≡ None = sym (found_by_count n rs order) ∙ none_of (find (is_from n) rs) e in take_all k rs (past rs k none k (omega arith))

pub some_there : (o : Option Record) (r : Record) → o ≡ Some r → IsSome o
some_there None r e = absurd (cc)
some_there (Some q) r e = search rules

-- a record that is found from a number on has a number not below it
pub found_from : (rs : List Record) (n : ℕ) (r : Record) → find (is_from n) rs ≡ Some r → n ≤ r.id
found_from rs n r e = leb-true n r.id (IsIn-from_find (is_from n) r rs e).1
