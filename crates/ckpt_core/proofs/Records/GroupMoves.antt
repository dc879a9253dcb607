-- What a change of the parts does to the records in rising number, and to their uses.
use Rattle.ckpt_core.proofs.Names.{◌≡◌, ℕ, ◌<◌, Bool, true, false, eqb, List, [], ◌∷◌, ◌++◌, map, refl, sym, ap, ◌∙◌, arith, filter, append-nil, map-append, filter-append, flat_map-append, eqb-true}
use Rattle.ckpt_core.proofs.Names.{ne_eqb, and_parts, and_left, IsAscendingSet, IsIn, IsInOrder, in_order, in_order_once, Record, Use, Pin, use_before, uses, uses_of, IsIn-append_left, IsIn-map}
use Rattle.ckpt_core.proofs.Names.{IsIn-from_filter, IsInOrder-append, filter-none, id_before, is_pin, pins, pins_of, with_pins, grouped, records_of, map_same, common_steps, triples, Acked, and_right}
use Rattle.ckpt_core.proofs.Names.{same_holder, uses_of_acks, uses_held, IsAbove}
use Rattle.ckpt_core.proofs.Records.Grouped.{AreApart, in_order-filter, in_order-newest}
use Rattle.ckpt_core.proofs.Using.Order.{earlier_record, from_holds, holds_in_order, id_of_acks, in_order_once-itself, use_of_record}

-- lists

-- a test that implies another keeps as much of what the other kept
pub filter_implied : {X : Type 0} (p q : X → Bool) (xs : List X) → ((x : X) → IsIn x xs → p x ≡ true → q x ≡ true) → filter p (filter q xs) ≡ filter p xs
filter_implied p q [] implies = refl
filter_implied {X} p q (x ∷ xs) implies = grind (arith, common_steps, filter_implied p q xs)

pub filter-map : {X Y : Type 0} (p : Y → Bool) (f : X → Y) (xs : List X) → filter p (map f xs) ≡ map f (filter (λ x. p (f x)) xs)
filter-map p f [] = refl
filter-map {X} {Y} p f (x ∷ xs) = grind (arith, common_steps, filter-map p f xs)

-- pins

pub pins_kept : (keep : Use → Bool) (us : List Use) (id : ℕ) → ((u : Use) → IsIn u us → pins id u ≡ true → keep u ≡ true) → pins_of (filter keep us) id ≡ pins_of us id
pins_kept keep us id kept = ap (λ ws. map (λ u. u.file) ws) (filter_implied (pins id) keep us kept)

pub with_pins_kept : (keep : Use → Bool) (us : List Use) (r : Record) → ((u : Use) → IsIn u us → pins r.id u ≡ true → keep u ≡ true) → with_pins (filter keep us) r ≡ with_pins us r
with_pins_kept keep us r kept = ap (λ fs. record r { pins = fs }) (pins_kept keep us r.id kept)

-- a drop, by number

pub drop_groups : (keep : ℕ → Bool) (us : List Use) (pending checkpoints savepoints : List Record) → AreApart (grouped us pending checkpoints savepoints) →
    records_of (filter (λ u. keep u.id) us) (filter (λ r. keep r.id) pending) (filter (λ r. keep r.id) checkpoints) (filter (λ r. keep r.id) savepoints)
    ≡ filter (λ r. keep r.id) (records_of us pending checkpoints savepoints)
drop_groups keep us pending checkpoints savepoints apart = let keeps : Record → Bool = λ r. keep r.id in let us' : List Use = filter (λ u. keep u.id) us in
    let each : (r : Record) → IsIn r (filter keeps pending) → with_pins us' r ≡ with_pins us r = λ r h. with_pins_kept (λ u. keep u.id) us r
    (λ u k p. ap keep (eqb-true u.id r.id (and_parts (eqb u.id r.id) (is_pin u.holder) p).0) ∙ (IsIn-from_filter keeps r pending h).1) in
    let whole : grouped us' (filter keeps pending) (filter keeps checkpoints) (filter keeps savepoints) ≡ filter keeps (grouped us pending checkpoints savepoints) =
    ap (λ a. a ++ (filter keeps checkpoints ++ filter keeps savepoints)) (map_same (with_pins us') (with_pins us) (filter keeps pending) each ∙ sym (filter-map keeps (with_pins us) pending))
    ∙ ap (λ b. filter keeps (map (with_pins us) pending) ++ b) (sym (filter-append keeps checkpoints savepoints)) ∙ sym (filter-append keeps (map (with_pins us) pending)
    (checkpoints ++ savepoints)) in ap (in_order id_before) whole ∙ in_order-filter keeps (grouped us pending checkpoints savepoints) apart

-- the newest record, with its acknowledgements and pins

pub pins_of-append : (us vs : List Use) (id : ℕ) → pins_of (us ++ vs) id ≡ pins_of us id ++ pins_of vs id
pins_of-append us vs id = grind (arith, common_steps)

pub pins_of-none : (us : List Use) (id : ℕ) → ((u : Use) → IsIn u us → pins id u ≡ false) → pins_of us id ≡ []
pins_of-none us id fails = ap (λ ws. map (λ u. u.file) ws) (filter-none (pins id) us fails)

pub pins_of-holds : (id : ℕ) (files : List ℕ) → pins_of (triples id Pin files) id ≡ files
pins_of-holds id [] = refl
pins_of-holds id (f ∷ files) = grind (arith, common_steps, pins_of-holds id files)

pub trigger_uses : (us : List Use) (id : ℕ) (files : List ℕ) → IsInOrder use_before us → ((u : Use) → IsIn u us → u.id < id) → IsAscendingSet files →
    in_order_once use_before (us ++ triples id Pin files) ≡ us ++ triples id Pin files
trigger_uses us id files order older set = in_order_once-itself (us ++ triples id Pin files) (IsInOrder-append use_before us (triples id Pin files) order (holds_in_order id Pin files set)
    (λ u v h k. earlier_record u v (let e : v.id ≡ id = (from_holds id Pin files v k).0 in let lt : u.id < id = older u h in omega arith)))

-- an acknowledgement is no pin
no_pins : (id : ℕ) (acks : List Acked) (u : Use) → IsIn u (uses_of_acks id acks) → pins id u ≡ false
no_pins id acks u h = and_right (eqb u.id id) (is_pin u.holder) (ap (λ k. same_holder k Pin) (id_of_acks id acks u h).3)

-- what such a record pins
own_pins : (us : List Use) (id : ℕ) (acks : List Acked) (files : List ℕ) → ((u : Use) → IsIn u us → u.id < id) → pins_of (us ++ uses_held id acks files) id ≡ files
own_pins us id acks files older = grind (arith, common_steps, and_left, triples, ne_eqb, no_pins, pins_of-append, pins_of-holds, pins_of-none)

-- the others pin what they pinned
pub others_keep : (us : List Use) (pending rest : List Record) (x : Record) → IsAbove (map (with_pins us) pending ++ rest) x.id →
    map (with_pins (us ++ uses_of x)) pending ≡ map (with_pins us) pending
others_keep us pending rest x newest = map_same (with_pins (us ++ uses_of x)) (with_pins us) pending (λ r h.
    let lt : r.id < x.id = newest (with_pins us r) (IsIn-append_left (with_pins us r) (map (with_pins us) pending) rest (IsIn-map (with_pins us) r pending h)) in
    let not_r : (u : Use) → IsIn u (uses_of x) → pins r.id u ≡ false = λ u k. and_left (eqb u.id r.id) (is_pin u.holder) (ne_eqb u.id r.id (λ e. let i : u.id ≡ x.id = use_of_record x u k in
    omega arith)) in ap (λ fs. record r { pins = fs }) (pins_of-append us (uses_of x) r.id ∙ ap (λ fs. pins_of us r.id ++ fs) (pins_of-none (uses_of x) r.id not_r) ∙ append-nil (pins_of us r.id)))

pub pending_groups : (us : List Use) (pending checkpoints savepoints : List Record) (x : Record) (files : List ℕ) → ((u : Use) → IsIn u us → u.id < x.id) →
    IsAbove (grouped us pending checkpoints savepoints) x.id → records_of (us ++ uses_held x.id x.acks files) (pending ++ x ∷ []) checkpoints savepoints
    ≡ records_of us pending checkpoints savepoints ++ record x { pins = files } ∷ []
pending_groups us pending checkpoints savepoints x files older newest =
    let x' : Record = record x { pins = files } in let us' : List Use = us ++ uses_of x' in
    let first : map (with_pins us') (pending ++ x ∷ []) ≡ map (with_pins us) pending ++ x' ∷ [] =
    rw (map-append (with_pins us') pending (x ∷ []), others_keep us pending (checkpoints ++ savepoints) x' newest, own_pins us x.id x.acks files older) in
    rw (first, in_order-newest x' (map (with_pins us) pending) (checkpoints ++ savepoints) newest)

-- the uses with those of one record more
pub uses-more : (rs : List Record) (r : Record) → uses (rs ++ r ∷ []) ≡ uses rs ++ uses_of r
uses-more rs r = flat_map-append uses_of rs (r ∷ []) ∙ ap (λ us. uses rs ++ us) (append-nil (uses_of r))
