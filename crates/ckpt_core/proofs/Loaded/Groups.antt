-- A record that comes with acknowledgements and pins, and is newer than all others.
use Rattle.ckpt_core.proofs.Names.{◌≡◌, ℕ, ◌+◌, ◌<◌, ◌≤◌, ◌^◌, ◌-◌, false, ◌||◌, eqb, List, [], ◌∷◌, ◌++◌, length, map, refl, sym, ap, ◌∙◌, inl, inr, arith, list_any, append-nil, append_assoc}
use Rattle.ckpt_core.proofs.Names.{length-append, ne_eqb, Acked, IsIn, in_order, put, Record, Use, count, uses, uses_of, ascending, IsIn-append_right, IsIn-in_order, IsIn-from_flat_map, vec_capacity}
use Rattle.ckpt_core.proofs.Names.{FailureCount, Stored, completing, retained_of, IsAbove, Opened, Parts, AreTied, records_in, present_in, id_before, with_pins, with_room, grouped, records_of}
use Rattle.ckpt_core.proofs.Names.{uses_held, common_steps}
use Rattle.ckpt_core.proofs.Records.Grouped.{in_order-newest, put_last}
use Rattle.ckpt_core.proofs.Records.GroupMoves.{others_keep, pending_groups, uses-more}
use Rattle.ckpt_core.proofs.Using.Order.{use_of_record}

-- what is newer than all records is newer than those of the groups
pub above_groups : (p : Parts) (id : ℕ) → IsAbove (records_in p) id → IsAbove (grouped p.registry p.pending p.store.checkpoints p.store.savepoints) id
above_groups p id newest r h = newest r (IsIn-in_order id_before r (grouped p.registry p.pending p.store.checkpoints p.store.savepoints) h)

-- a use is of a record
older_uses : (us : List Use) (rs : List Record) (id : ℕ) → us ≡ uses rs → IsAbove rs id → (u : Use) → IsIn u us → u.id < id
older_uses us rs id e newest u h = let q = IsIn-from_flat_map uses_of u rs (rw e at h) in omega (arith, use_of_record q.0 u q.2, newest q.0 q.1)

-- once room is made for the number of such a record, its uses may be registered: they are newer than those that are there
pub older_registered : (p made : Parts) (id its_id : ℕ) → made ≡ record p { ended = made.ended } → AreTied p → IsAbove (records_in p) id → its_id ≡ id → (u : Use) → IsIn u made.registry →
    u.id < its_id
older_registered p made id its_id room tied newest same u h = omega (arith, same, older_uses p.registry (records_in p) id tied.uses_are newest u (rw room at h))

-- what is registered is what the record holds
held_is : (us : List Use) (x : Record) (id : ℕ) (acks : List Acked) (files : List ℕ) → id ≡ x.id → acks ≡ x.acks → files ≡ x.pins → us ++ uses_held id acks files ≡ us ++ uses_of x
held_is us x id acks files its_id its_acks its_pins = grind (arith, common_steps)

-- a done record pins nothing
pub none_pinned : (x : Record) (files none : List ℕ) → files ≡ ascending none → none ≡ [] → x.pins ≡ [] → files ≡ x.pins
none_pinned x files none given empty no_pins = given ∙ ap ascending empty ∙ sym no_pins

-- and no file has too many uses with them
pub few_registered : (p made : Parts) (x : Record) (id : ℕ) (acks : List Acked) (files : List ℕ) → made ≡ record p { ended = made.ended } → AreTied p → id ≡ x.id → acks ≡ x.acks → files ≡ x.pins →
    ((f : ℕ) → count (uses (records_in p ++ x ∷ [])) f < 2 ^ 32 - 1) → (f : ℕ) → count (made.registry ++ uses_held id acks files) f < 2 ^ 32 - 1
few_registered p made x id acks files room tied its_id its_acks its_pins below f =
    let same : made.registry ≡ uses (records_in p) = ap (λ (q : Parts). q.registry) room ∙ tied.uses_are in
    rw (held_is made.registry x id acks files its_id its_acks its_pins ∙ ap (λ (us : List Use). us ++ uses_of x) same ∙ sym (uses-more (records_in p) x)) (below f)

-- the parts with such a record more
pub record HasLoaded (p q : Parts) (x : Record) : Type 0 where
  pub registry : q.registry ≡ p.registry ++ uses_of x
  pub records : records_in q ≡ records_in p ++ x ∷ []
  pub retained : q.store.retained ≡ p.store.retained
  pub opened : q.opened ≡ p.opened
  pub failures : q.failures ≡ p.failures
  pub spare : present_in q.registry ≤ q.outbox.spare
  pub room : length (records_in p) + 1 ≤ vec_capacity q.ended

-- room was made, the uses and the record were added, and room was made for the files
pub has_loaded : (p made q : Parts) (x : Record) (pending : List Record) (store : Stored) (us : List Use) (id : ℕ) (acks : List Acked) (files : List ℕ) → made ≡ record p { ended = made.ended } →
    length (records_in p) + 1 ≤ vec_capacity made.ended → id ≡ x.id → acks ≡ x.acks → files ≡ x.pins → us ≡ made.registry ++ uses_held id acks files → store.retained ≡ p.store.retained →
    records_of (p.registry ++ uses_of x) pending store.checkpoints store.savepoints ≡ records_in p ++ x ∷ [] → q ≡ with_room (record made { pending = pending; store = store; registry = us }) 0 →
    HasLoaded p q x
has_loaded p made q x pending store us id acks files parts room its_id its_acks its_pins added retained records ok =
    let same : us ≡ p.registry ++ uses_of x = added ∙ ap (λ (r : Parts). r.registry ++ uses_held id acks files) parts ∙ held_is p.registry x id acks files its_id its_acks its_pins in rw ok (record {
      registry = same;
      records = ap (λ vs. records_of vs pending store.checkpoints store.savepoints) same ∙ records;
      retained = retained;
      opened = ap (λ (r : Parts). r.opened) parts;
      failures = ap (λ (r : Parts). r.failures) parts;
      spare = omega arith;
      room = room;
    })

pub tied-loaded : {p q : Parts} {x : Record} → AreTied p → HasLoaded p q x → AreTied q
tied-loaded {p} {q} {x} tied m = let longer : length (records_in q) ≡ length (records_in p) + 1 = ap (λ (rs : List Record). length rs) m.records ∙ length-append (records_in p) (x ∷ []) in record {
  uses_are = m.registry ∙ ap (λ us. us ++ uses_of x) tied.uses_are ∙ sym (uses-more (records_in p) x) ∙ ap uses (sym m.records);
  retained = m.retained ∙ tied.retained ∙ ap (λ (o : Opened). o.config.retained) (sym m.opened);
  tolerable = ap (λ (f : FailureCount). f.tolerable) m.failures ∙ tied.tolerable ∙ ap (λ (o : Opened). o.config.tolerable) (sym m.opened);
  spare = m.spare;
  room = omega (arith, longer, m.room);
}

-- a pending record
pub pending_loaded : (p made : Parts) (x : Record) (pending : List Record) (files : List ℕ) → made ≡ record p { ended = made.ended } → AreTied p → IsAbove (records_in p) x.id →
    pending ≡ made.pending ++ x ∷ [] → records_of (p.registry ++ uses_held x.id x.acks files) pending made.store.checkpoints made.store.savepoints ≡ records_in p ++ record x { pins = files } ∷ []
pending_loaded p made x pending files parts tied newest added = let us : List Use = p.registry ++ uses_held x.id x.acks files in
    rw (added, parts) (pending_groups p.registry p.pending p.store.checkpoints p.store.savepoints x files (older_uses p.registry (records_in p) x.id tied.uses_are newest)
    (above_groups p x.id newest))

-- a completed one, which comes last wherever it stands
done_groups : (us : List Use) (pending xs ys : List Record) (x : Record) → IsAbove (map (with_pins us) pending ++ (xs ++ ys)) x.id →
    in_order id_before (map (with_pins (us ++ uses_of x)) pending ++ (xs ++ x ∷ ys)) ≡ in_order id_before (map (with_pins us) pending ++ (xs ++ ys)) ++ x ∷ []
done_groups us pending xs ys x newest = let front : List Record = map (with_pins us) pending in
    ap (λ rs. in_order id_before (rs ++ (xs ++ x ∷ ys))) (others_keep us pending (xs ++ ys) x newest) ∙ (simp append_assoc at (in_order-newest x (front ++ xs) ys (simp append_assoc newest)))

-- none is dropped if there is room for one more
none_surplus : (n : ℕ) (rs : List Record) (x : Record) → length rs < n → retained_of n (rs ++ x ∷ []) ≡ rs ++ x ∷ []
none_surplus n rs x fewer = grind (arith, common_steps)

pub checkpoint_loaded : (p made : Parts) (s t : Stored) (x : Record) → made ≡ record p { ended = made.ended } → s ≡ record made.store { spare = s.spare } → t ≡ completing s x t.spare →
    length p.store.checkpoints < p.store.retained → IsAbove (records_in p) x.id → records_of (p.registry ++ uses_of x) made.pending t.checkpoints t.savepoints ≡ records_in p ++ x ∷ []
checkpoint_loaded p made s t x parts reserved completed fewer newest =
    rw (completed, reserved, parts, none_surplus p.store.retained p.store.checkpoints x fewer, append_assoc p.store.checkpoints (x ∷ []) p.store.savepoints)
    (done_groups p.registry p.pending p.store.checkpoints p.store.savepoints x (above_groups p x.id newest))

pub savepoint_loaded : (p made : Parts) (s t : Stored) (x : Record) → made ≡ record p { ended = made.ended } → s ≡ record made.store { spare = s.spare } →
    t ≡ record s { savepoints = put id_before x s.savepoints; spare = t.spare } → IsAbove (records_in p) x.id → records_of (p.registry ++ uses_of x) made.pending t.checkpoints t.savepoints
    ≡ records_in p ++ x ∷ []
savepoint_loaded p made s t x parts reserved completed newest =
    let above : IsAbove (grouped p.registry p.pending p.store.checkpoints p.store.savepoints) x.id = above_groups p x.id newest in let front : List Record = map (with_pins p.registry) p.pending in
    let older : IsAbove p.store.savepoints x.id = λ r h. above r (IsIn-append_right r front (p.store.checkpoints ++ p.store.savepoints)
    (IsIn-append_right r p.store.checkpoints p.store.savepoints h)) in
    rw (completed, reserved, parts, put_last x p.store.savepoints older, ← append_assoc p.store.checkpoints p.store.savepoints (x ∷ []))
    (simp append-nil at (done_groups p.registry p.pending (p.store.checkpoints ++ p.store.savepoints) [] x (simp append-nil above)))

-- no record has a greater number's
pub absent_newest : (id : ℕ) (rs : List Record) → IsAbove rs id → list_any (λ r. eqb r.id id) rs ≡ false
absent_newest id [] older = refl
absent_newest id (y ∷ rs) older = ap (λ b. b || list_any (λ r. eqb r.id id) rs) (ne_eqb y.id id (λ e. omega (arith, older y (inl refl)))) ∙ absent_newest id rs (λ z h. older z (inr h))
