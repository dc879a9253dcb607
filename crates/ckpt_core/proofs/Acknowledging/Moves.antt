-- What an acknowledgement and a completion do to the records in rising number, and to their uses.
use Rattle.ckpt_core.proofs.Names.{IsIn-from_flat_map, IsIn-filter, IsIn-from_filter, IsInOrder-filter, IsInOrder-in_order_once, IsIn-in_order_once, IsIn-from_in_order_once, IsIn-put, IsIn-put_itself}
use Rattle.ckpt_core.proofs.Names.{IsIn-put_cases, same_from_members, uses_in_order, id_before, replaced, is_pin, pins, pins_of, with_pins, grouped, records_of, map_same, map_itself, map-map}
use Rattle.ckpt_core.proofs.Names.{Subtask, Pin, use_before, uses, uses_of, acknowledged, IsIn-append_cases, IsIn-append_left, IsIn-append_right, IsIn-map, IsIn-from_map, IsIn-flat_map}
use Rattle.ckpt_core.proofs.Names.{eqb-true, eqb-false, eq-eqb, ne_eqb, and_parts, Acked, SubtaskId, put_ack, acknowledges_before, IsIn, IsInOrder, in_order, in_order_once, Record, Use, Holder}
use Rattle.ckpt_core.proofs.Names.{triples, ◌≡◌, ℕ, true, false, cond, eqb, List, ◌++◌, map, refl, sym, ap, subst, ◌∙◌, ◌⊎◌, inl, inr, ⊎_elim, filter, flat_map, map-append, cases_Bool, both_ways}
use Rattle.ckpt_core.proofs.{Names.common_steps, Names.arith, Records.Grouped.in_order-map, Using.Order.from_holds}

-- uses of a subtask more leave the pins
pub pins-more : (us added : List Use) (id : ℕ) → IsInOrder use_before us → ((u : Use) → IsIn u added → is_pin u.holder ≡ false) → pins_of (in_order_once use_before (us ++ added)) id ≡ pins_of us id
pins-more us added id order no_pin =
    let us' : List Use = in_order_once use_before (us ++ added) in
    let forth : (u : Use) → IsIn u (filter (pins id) us') → IsIn u (filter (pins id) us) = λ u h.
    let k = IsIn-from_filter (pins id) u us' h in
    ⊎_elim (λ a. IsIn-filter (pins id) u us a k.1) (λ b. absurd (both_ways (is_pin u.holder) (no_pin u b) (and_parts (eqb u.id id) (is_pin u.holder) k.1).1))
    (IsIn-append_cases u us added (IsIn-from_in_order_once use_before u (us ++ added) k.0)) in
    let back : (u : Use) → IsIn u (filter (pins id) us) → IsIn u (filter (pins id) us') = λ u h. let k = IsIn-from_filter (pins id) u us h in IsIn-filter (pins id) u us'
    (IsIn-in_order_once uses_in_order u (us ++ added) (IsIn-append_left u us added k.0)) k.1 in
    ap (λ ws. map (λ u. u.file) ws) (same_from_members uses_in_order (filter (pins id) us') (filter (pins id) us) (IsInOrder-filter use_before (pins id) us'
    (IsInOrder-in_order_once uses_in_order (us ++ added))) (IsInOrder-filter use_before (pins id) us order) forth back)

pub no_pin-holds : (id : ℕ) (s : SubtaskId) (files : List ℕ) (u : Use) → IsIn u (triples id (Subtask s) files) → is_pin u.holder ≡ false
no_pin-holds id s files u h = ap is_pin (from_holds id (Subtask s) files u h).1

abbrev pub with_instead : Record → Record → Record
with_instead r old = cond (eqb old.id r.id) r old

pub id-with_instead : (r old : Record) → (with_instead r old).id ≡ old.id
id-with_instead r old = grind (arith, common_steps)

pub with_instead-other : (r old : Record) → (old.id ≡ r.id → ⊥) → with_instead r old ≡ old
with_instead-other r old ne = ap (λ b. cond b r old) (ne_eqb old.id r.id ne)

pub with_instead-same : (r old : Record) → old.id ≡ r.id → with_instead r old ≡ r
with_instead-same r old e = ap (λ b. cond b r old) (eq-eqb old.id r.id e)

pinned_instead : (us : List Use) (r s : Record) → with_pins us (with_instead r s) ≡ with_instead (with_pins us r) (with_pins us s)
pinned_instead us r s = grind (arith, common_steps)

-- an acknowledgement of the pending record with the number of r: r is that record with it
pub ack_groups : (us added : List Use) (pending checkpoints savepoints : List Record) (r : Record) → IsInOrder use_before us → ((u : Use) → IsIn u added → is_pin u.holder ≡ false) →
    ((s : Record) → IsIn s (checkpoints ++ savepoints) → s.id ≡ r.id → ⊥) → records_of (in_order_once use_before (us ++ added)) (replaced pending r) checkpoints savepoints ≡ replaced
    (records_of us pending checkpoints savepoints) (with_pins us r)
ack_groups us added pending checkpoints savepoints r order no_pin apart =
    let us' : List Use = in_order_once use_before (us ++ added) in
    let r' : Record = with_pins us r in
    let same : (s : Record) → with_pins us' s ≡ with_pins us s = λ s. ap (λ fs. record s { pins = fs }) (pins-more us added s.id order no_pin) in
    let each : (s : Record) → IsIn s pending → with_pins us' (with_instead r s) ≡ with_instead r' (with_pins us s) = λ s h. same (with_instead r s) ∙ pinned_instead us r s in
    let first : map (with_pins us') (replaced pending r) ≡ replaced (map (with_pins us) pending) r' = map-map (with_pins us') (with_instead r) pending
    ∙ map_same (λ s. with_pins us' (with_instead r s)) (λ s. with_instead r' (with_pins us s)) pending each ∙ sym (map-map (with_instead r') (with_pins us) pending) in
    let others : checkpoints ++ savepoints ≡ replaced (checkpoints ++ savepoints) r' = sym (map_itself (with_instead r') (checkpoints ++ savepoints) (λ s h. with_instead-other r' s (apart s h))) in
    let whole : grouped us' (replaced pending r) checkpoints savepoints ≡ replaced (grouped us pending checkpoints savepoints) r' = ap (λ a. a ++ (checkpoints ++ savepoints)) first
    ∙ ap (λ b. replaced (map (with_pins us) pending) r' ++ b) others ∙ sym (map-append (with_instead r') (map (with_pins us) pending) (checkpoints ++ savepoints)) in
    ap (in_order id_before) whole ∙ in_order-map (with_instead r') (id-with_instead r') (grouped us pending checkpoints savepoints)

-- the uses after it
pub replaced_members : (rs : List Record) (r z : Record) → IsIn z (replaced rs r) → (z ≡ r) ⊎ (IsIn z rs × (z.id ≡ r.id → ⊥))
replaced_members rs r z h = grind (arith, common_steps, IsIn-from_map, cases_Bool, eqb-false)

pub in_replaced : (rs : List Record) (r old : Record) → IsIn old rs → old.id ≡ r.id → IsIn r (replaced rs r)
in_replaced rs r old h e = grind (arith, common_steps, IsIn-map, with_instead-same)

pub still_in_replaced : (rs : List Record) (r old : Record) → IsIn old rs → (old.id ≡ r.id → ⊥) → IsIn old (replaced rs r)
still_in_replaced rs r old h ne = grind (arith, common_steps, IsIn-map, with_instead-other)

-- the uses of a record with one acknowledgement more
acked_use : (r : Record) (a : Acked) (u : Use) → IsIn u (uses_of (record r { acks = put_ack a r.acks })) → IsIn u (triples r.id (Subtask a.subtask) a.files) ⊎ IsIn u (uses_of r)
acked_use r a u h =
    let of_ack : Acked → List Use = λ b. triples r.id (Subtask b.subtask) b.files in
    let Goal : Type 0 = IsIn u (of_ack a) ⊎ IsIn u (uses_of r) in
    let acked : IsIn u (flat_map of_ack (put_ack a r.acks)) → Goal = λ (k : IsIn u (flat_map of_ack (put_ack a r.acks))).
    let q = IsIn-from_flat_map of_ack u (put_ack a r.acks) k in
    ⊎_elim (λ e. inl (rw e at q.2)) (λ b. inr (IsIn-append_left u (flat_map of_ack r.acks) (triples r.id Pin r.pins) (IsIn-flat_map of_ack q.0 u r.acks b q.2)))
    (IsIn-put_cases acknowledges_before a q.0 r.acks q.1) in
    let pinned : IsIn u (triples r.id Pin r.pins) → Goal = λ (k : IsIn u (triples r.id Pin r.pins)). inr (IsIn-append_right u (flat_map of_ack r.acks) (triples r.id Pin r.pins) k) in
    ⊎_elim acked pinned (IsIn-append_cases u (flat_map of_ack (put_ack a r.acks)) (triples r.id Pin r.pins) h)

use_when_acked : (r : Record) (a : Acked) (u : Use) → IsIn u (triples r.id (Subtask a.subtask) a.files) ⊎ IsIn u (uses_of r) → IsIn u (uses_of (record r { acks = put_ack a r.acks }))
use_when_acked r a u h =
    let of_ack : Acked → List Use = λ b. triples r.id (Subtask b.subtask) b.files in
    let Goal : Type 0 = IsIn u (uses_of (record r { acks = put_ack a r.acks })) in
    let acked : (b : Acked) → IsIn b (put_ack a r.acks) → IsIn u (of_ack b) → Goal = λ b k l.
    IsIn-append_left u (flat_map of_ack (put_ack a r.acks)) (triples r.id Pin r.pins) (IsIn-flat_map of_ack b u (put_ack a r.acks) k l) in
    let new : IsIn u (of_ack a) → Goal = λ (k : IsIn u (of_ack a)). acked a (IsIn-put_itself acknowledges_before a r.acks) k in
    let old : IsIn u (uses_of r) → Goal = λ (k : IsIn u (uses_of r)).
    ⊎_elim (λ l. let q = IsIn-from_flat_map of_ack u r.acks l in acked q.0 (IsIn-put acknowledges_before a q.0 r.acks q.1) q.2)
    (λ l. IsIn-append_right u (flat_map of_ack (put_ack a r.acks)) (triples r.id Pin r.pins) l) (IsIn-append_cases u (flat_map of_ack r.acks) (triples r.id Pin r.pins) k) in
    ⊎_elim new old h

-- files that are the same numbers, in another order
same_holds : (id : ℕ) (h : Holder) (xs ys : List ℕ) (u : Use) → ((f : ℕ) → IsIn f xs → IsIn f ys) → IsIn u (triples id h xs) → IsIn u (triples id h ys)
same_holds id h xs ys u same k = grind (arith, common_steps, IsIn-from_map, IsIn-map, triples)

pub ack_uses : (rs : List Record) (r : Record) (s : SubtaskId) (named files : List ℕ) → IsIn r rs → ((q : Record) → IsIn q rs → q.id ≡ r.id → q ≡ r) → ((f : ℕ) → IsIn f named → IsIn f files) →
    ((f : ℕ) → IsIn f files → IsIn f named) → IsInOrder use_before (uses (replaced rs (acknowledged r s files))) → in_order_once use_before (uses rs ++ triples r.id (Subtask s) named) ≡ uses
    (replaced rs (acknowledged r s files))
ack_uses rs r s named files there one forth back order =
    let a : Acked = record { subtask = s; files = files } in
    let r' : Record = acknowledged r s files in
    let added : List Use = triples r.id (Subtask s) named in
    let us' : List Use = in_order_once use_before (uses rs ++ added) in
    let own : (u : Use) → IsIn u (uses_of r') → IsIn u (uses (replaced rs r')) = λ u k. IsIn-flat_map uses_of r' u (replaced rs r') (in_replaced rs r' r there refl) k in
    let to : (u : Use) → IsIn u us' → IsIn u (uses (replaced rs r')) = λ u h.
    let from_old : IsIn u (uses rs) → IsIn u (uses (replaced rs r')) = λ (k : IsIn u (uses rs)).
    let q = IsIn-from_flat_map uses_of u rs k in
    ⊎_elim
    (λ (e : eqb q.0.id r.id ≡ true).
    let P : Record → Type 0 = λ w. IsIn u (uses_of w) in
    own u (use_when_acked r a u (inr (subst P (one q.0 q.1 (eqb-true q.0.id r.id e)) q.2))))
    (λ (e : eqb q.0.id r.id ≡ false). IsIn-flat_map uses_of q.0 u (replaced rs r') (still_in_replaced rs r' q.0 q.1 (eqb-false q.0.id r.id e)) q.2)
    (cases_Bool (eqb q.0.id r.id)) in
    let from_new : IsIn u added → IsIn u (uses (replaced rs r')) = λ (k : IsIn u added). own u (use_when_acked r a u (inl (same_holds r.id (Subtask s) named files u forth k))) in
    ⊎_elim from_old from_new (IsIn-append_cases u (uses rs) added (IsIn-from_in_order_once use_before u (uses rs ++ added) h)) in
    let from : (u : Use) → IsIn u (uses (replaced rs r')) → IsIn u us' = λ u h.
    let q = IsIn-from_flat_map uses_of u (replaced rs r') h in
    let put_in : IsIn u (uses rs) ⊎ IsIn u added → IsIn u us' = λ (k : IsIn u (uses rs) ⊎ IsIn u added).
    IsIn-in_order_once uses_in_order u (uses rs ++ added) (⊎_elim (λ (l : IsIn u (uses rs)). IsIn-append_left u (uses rs) added l) (λ (l : IsIn u added). IsIn-append_right u (uses rs) added l) k) in
    let new : q.0 ≡ r' → IsIn u us' = λ (e : q.0 ≡ r').
    ⊎_elim (λ l. put_in (inr (same_holds r.id (Subtask s) files named u back l))) (λ l. put_in (inl (IsIn-flat_map uses_of r u rs there l))) (acked_use r a u (rw e at q.2)) in
    let old : IsIn q.0 rs × (q.0.id ≡ r'.id → ⊥) → IsIn u us' = λ (k : IsIn q.0 rs × (q.0.id ≡ r'.id → ⊥)). put_in (inl (IsIn-flat_map uses_of q.0 u rs k.0 q.2)) in
    ⊎_elim new old (replaced_members rs r' q.0 q.1) in
    same_from_members uses_in_order us' (uses (replaced rs r')) (IsInOrder-in_order_once uses_in_order (uses rs ++ added)) order to from
