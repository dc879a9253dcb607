-- What a drop by number does to the parts, and to the state that they stand for.
use Rattle.ckpt_core.proofs.Names.{IsIn-from_list_any, filter-all, filter-same, is_known, IsPending, without, IsStored, Parts, with_pins, grouped, AreTied, AreSound, Drops, is_noted, records_in}
use Rattle.ckpt_core.proofs.Names.{IsInOrder-filter, IsInOrder-in_order_once, IsIn-in_order_once, IsIn-from_in_order_once, IsIn-from_in_order, same_from_members, list_any-from_IsIn}
use Rattle.ckpt_core.proofs.Names.{Vec, Global, eqb-true, eq-eqb, lt-ltb, ltb-true, not_from_true, not_from_false, false_from_ne_true, length-filter_both, ascending_set, IsIn, Record, Use, uses}
use Rattle.ckpt_core.proofs.Names.{count, is_present, released, numbers_in_order, IsIn-append_left, IsIn-append_right, IsIn-append_cases, IsIn-map, IsIn-from_map, IsIn-filter, IsIn-from_filter}
use Rattle.ckpt_core.proofs.Names.{state_of, present_in, IsSound, id_before, State, drop, kept, released_by, unpinned, is_pending, map_itself, counted-from_IsIn, IsIn-from_counted, common_steps}
use Rattle.ckpt_core.proofs.Names.{◌≡◌, ℕ, ◌+◌, ◌-◌, ◌≤◌, Bool, true, false, not, ltb, eqb, List, [], ◌++◌, map, length, refl, sym, ap, subst, ◌∙◌, ⊎_elim, arith, None, filter, list_any, vec_capacity}
use Rattle.ckpt_core.proofs.Records.{GroupMoves.drop_groups, Grouped.AreApart, Grouped.apart-from_in_order, Grouped.apart_between, Lookups.AreGroups, Lookups.length-records_of, Lookups.done_in}
use Rattle.ckpt_core.proofs.Using.Order.{uses-filter}

-- what is present after and what is released were both present before
pub present_after : (before after : List Use) → ((u : Use) → IsIn u after → IsIn u before) → present_in after + length (released before after) ≤ present_in before
present_after before after fewer =
    let file : Use → ℕ = λ u. u.file in
    let all : List ℕ = ascending_set (map file before) in
    let of_file : ℕ → Use → Bool = λ f u. eqb u.file f in
    let there : (f : ℕ) → IsIn f (ascending_set (map file after)) → IsIn f (filter (is_present after) all) = λ f h.
    let q = IsIn-from_map file f after (IsIn-from_in_order_once ltb f (map file after) h) in
    let P : ℕ → Type 0 = λ g. IsIn g all in
    IsIn-filter (is_present after) f all
    (subst P (sym q.2) (IsIn-in_order_once numbers_in_order q.0.file (map file before) (IsIn-map file q.0 before (fewer q.0 q.1))))
    (lt-ltb 0 (count after f) (counted-from_IsIn (of_file f) q.0 after q.1 (eq-eqb q.0.file f (sym q.2)))) in
    let back : (f : ℕ) → IsIn f (filter (is_present after) all) → IsIn f (ascending_set (map file after)) = λ f h.
    let k = IsIn-from_filter (is_present after) f all h in
    let q = IsIn-from_counted (of_file f) after (ltb-true 0 (count after f) k.1) in
    rw (eqb-true q.0.file f q.2) at (IsIn-in_order_once numbers_in_order q.0.file (map file after) (IsIn-map file q.0 after q.1)) in
    let same : ascending_set (map file after) ≡ filter (is_present after) all = same_from_members numbers_in_order (ascending_set (map file after)) (filter (is_present after) all)
    (IsInOrder-in_order_once numbers_in_order (map file after)) (IsInOrder-filter ltb (is_present after) all (IsInOrder-in_order_once numbers_in_order (map file before))) there back in
    omega (arith, ap length same, length-filter_both (is_present after) (λ f. not (is_present after f)) (λ f. refl) all)

-- a drop by number
abbrev pub stays : List ℕ → ℕ → Bool
stays ids id = not (list_any (λ i. eqb id i) ids)

abbrev pub staying : List ℕ → List Record → List Record
staying ids rs = filter (λ r. stays ids r.id) rs

-- the parts without the records of these numbers, and without the uses of these
abbrev pub left : Parts → List ℕ → ℕ → Vec ℕ Global → Parts
left p ids spare ended = record p {
  pending = staying ids p.pending;
  store = record p.store { checkpoints = staying ids p.store.checkpoints; savepoints = staying ids p.store.savepoints; spare = spare };
  registry = without ids p.registry;
  outbox = record p.outbox {
    waiting = p.outbox.waiting ++ released p.registry (without ids p.registry);
    spare = p.outbox.spare - length (released p.registry (without ids p.registry));
  };
  ended = ended;
}

pub apart_in : (p : Parts) → IsSound (state_of p) → AreApart (grouped p.registry p.pending p.store.checkpoints p.store.savepoints)
unfolding state_of
apart_in p sound = apart-from_in_order (grouped p.registry p.pending p.store.checkpoints p.store.savepoints) sound.records.in_order

left_records : (p : Parts) (ids : List ℕ) (spare : ℕ) (ended : Vec ℕ Global) → AreApart (grouped p.registry p.pending p.store.checkpoints p.store.savepoints) →
    records_in (left p ids spare ended) ≡ kept (is_noted ids) None (records_in p)
left_records p ids spare ended apart =
    drop_groups (stays ids) p.registry p.pending p.store.checkpoints p.store.savepoints apart ∙ sym (map_itself (unpinned None) (staying ids (records_in p)) (λ r h. refl))

left_uses : (p : Parts) (ids : List ℕ) → p.registry ≡ uses (records_in p) → without ids p.registry ≡ uses (kept (is_noted ids) None (records_in p))
left_uses p ids e = ap (without ids) e ∙ sym (uses-filter (stays ids) (records_in p)) ∙ ap uses (sym (map_itself (unpinned None) (staying ids (records_in p)) (λ r h. refl)))

left_released : (p : Parts) (ids : List ℕ) → p.registry ≡ uses (records_in p) → released p.registry (without ids p.registry) ≡ released (uses (records_in p))
    (uses (kept (is_noted ids) None (records_in p)))
left_released p ids e = ap (λ us. released us (without ids p.registry)) e ∙ ap (released (uses (records_in p))) (left_uses p ids e)

pub left_state : (p : Parts) (ids : List ℕ) (spare : ℕ) (ended : Vec ℕ Global) → AreTied p → AreApart (grouped p.registry p.pending p.store.checkpoints p.store.savepoints) →
    state_of (left p ids spare ended) ≡ drop (state_of p) (is_noted ids) None
unfolding state_of drop
left_state p ids spare ended tied apart = rw (left_records p ids spare ended apart, left_released p ids tied.uses_are)

pub left_tied : (p : Parts) (ids : List ℕ) (spare : ℕ) (ended : Vec ℕ Global) → AreTied p → AreApart (grouped p.registry p.pending p.store.checkpoints p.store.savepoints) →
    length (records_in p) ≤ vec_capacity ended → AreTied (left p ids spare ended)
left_tied p ids spare ended tied apart room =
    let rs : List Record = records_in p in
    let both = length-filter_both (λ (r : Record). stays ids r.id) (λ r. not (stays ids r.id)) (λ r. refl) rs in
    record {
      uses_are = left_uses p ids tied.uses_are ∙ ap uses (sym (left_records p ids spare ended apart));
      retained = tied.retained;
      tolerable = tied.tolerable;
      spare = omega (arith, present_after p.registry (without ids p.registry) (λ u h. (IsIn-from_filter (λ v. stays ids v.id) u p.registry h).0), tied.spare);
      room = omega (arith, ap length (drop_groups (stays ids) p.registry p.pending p.store.checkpoints p.store.savepoints apart), both, room);
    }

-- two tests that agree on the records drop the same
pub drop_same : (m : State) (a b : Record → Bool) → ((r : Record) → IsIn r m.records → a r ≡ b r) → drop m a None ≡ drop m b None
unfolding drop
drop_same m a b agree = grind (arith, common_steps, filter-same)

released_same : (m : State) (a b : Record → Bool) → ((r : Record) → IsIn r m.records → a r ≡ b r) → released_by m a None ≡ released_by m b None
released_same m a b agree = grind (arith, common_steps, filter-same)

pub drops_same : (old new : Parts) (a b : Record → Bool) (n : ℕ) → ((r : Record) → IsIn r (records_in old) → a r ≡ b r) → Drops old new a n → Drops old new b n
unfolding state_of
drops_same old new a b n agree d =
    record {
      state_is = d.state_is ∙ drop_same (state_of old) a b agree;
      count_is = d.count_is ∙ ap length (released_same (state_of old) a b agree);
      tied = d.tied;
      none_ended = d.none_ended;
    }

-- nothing that is in use is in the outbox
pub none_known : (p : Parts) → AreTied p → IsSound (state_of p) → (f : ℕ) → is_present p.registry f ≡ true → is_known p.outbox f ≡ false
unfolding state_of
none_known p tied sound f h = grind (arith, common_steps)

-- the parts after: by name
pub drops_from : (p q : Parts) (ids : List ℕ) (spare n : ℕ) → AreTied p → AreApart (grouped p.registry p.pending p.store.checkpoints p.store.savepoints) → q ≡ left p ids spare q.ended →
    q.ended.items ≡ [] → vec_capacity q.ended ≡ vec_capacity p.ended → n ≡ length (released p.registry (without ids p.registry)) → Drops p q (is_noted ids) n
unfolding state_of
drops_from p q ids spare n tied apart is none capacity count =
    rw count (rw is (record {
      state_is = left_state p ids spare q.ended tied apart;
      count_is = ap length (left_released p ids tied.uses_are);
      tied = left_tied p ids spare q.ended tied apart (omega (arith, tied.room, capacity));
      none_ended = none;
    }))

-- if no done record is noted, those stay as they are
pub staying_done : (p : Parts) (ids : List ℕ) → ((r : Record) → IsIn r (p.store.checkpoints ++ p.store.savepoints) → is_noted ids r ≡ false) →
    record p.store { checkpoints = staying ids p.store.checkpoints; savepoints = staying ids p.store.savepoints } ≡ p.store
staying_done p ids none =
    let a : staying ids p.store.checkpoints ≡ p.store.checkpoints = filter-all (λ r. stays ids r.id) p.store.checkpoints
    (λ r h. ap not (none r (IsIn-append_left r p.store.checkpoints p.store.savepoints h))) in
    ap (λ rs. record p.store { checkpoints = rs; savepoints = staying ids p.store.savepoints }) a
    ∙ ap (λ rs. record p.store { savepoints = rs }) (filter-all (λ r. stays ids r.id) p.store.savepoints (λ r h. ap not (none r (IsIn-append_right r p.store.checkpoints p.store.savepoints h))))

-- the numbers of some of the records
abbrev pub numbers : List Record → List ℕ
numbers rs = map (λ r. r.id) rs

pub groups_of : (p : Parts) → ((r : Record) → IsIn r p.pending → IsPending r) → IsStored p.store → AreGroups p.pending p.store.checkpoints p.store.savepoints
groups_of p pending stored = record {
  not_done = λ r h. (pending r h).not_done;
  checkpoints_done = λ r h. ((stored.checkpoints_done r h).0.is_done, (stored.checkpoints_done r h).1);
  savepoints_done = λ r h. ((stored.savepoints_done r h).0.is_done, (stored.savepoints_done r h).1);
}

pub noted-from_IsIn : (r s : Record) (rs : List Record) → IsIn s rs → r.id ≡ s.id → is_noted (numbers rs) r ≡ true
noted-from_IsIn r s rs h e = list_any-from_IsIn (λ i. eqb r.id i) s.id (numbers rs) (IsIn-map (λ (q : Record). q.id) s rs h) (eq-eqb r.id s.id e)

pub IsIn-from_noted : (r : Record) (rs : List Record) → is_noted (numbers rs) r ≡ true → (s : Record) × IsIn s rs × (r.id ≡ s.id)
IsIn-from_noted r rs h = grind (arith, common_steps, IsIn-from_list_any, IsIn-from_map, eqb-true)

-- no done record has the number of a pending one
pub done_not_noted : (p : Parts) → IsSound (state_of p) → (r : Record) → IsIn r (p.store.checkpoints ++ p.store.savepoints) → is_noted (numbers p.pending) r ≡ false
done_not_noted p sound r h =
    false_from_ne_true (is_noted (numbers p.pending) r) (λ (k : is_noted (numbers p.pending) r ≡ true). let q = IsIn-from_noted r p.pending k in apart_between (map (with_pins p.registry) p.pending)
    (p.store.checkpoints ++ p.store.savepoints) (apart_in p sound) (with_pins p.registry q.0) r (IsIn-map (with_pins p.registry) q.0 p.pending q.1) h (sym q.2))

-- the numbers of the pending records are noted: these are the records that are pending
pub noted_are_pending : (p : Parts) → IsSound (state_of p) → AreGroups p.pending p.store.checkpoints p.store.savepoints → (r : Record) → IsIn r (records_in p) →
    is_noted (numbers p.pending) r ≡ is_pending r
noted_are_pending p sound groups r h =
    let of_pending : List Record = map (with_pins p.registry) p.pending in
    let of_done : List Record = p.store.checkpoints ++ p.store.savepoints in
    ⊎_elim
    (λ (k : IsIn r of_pending).
    let s = IsIn-from_map (with_pins p.registry) r p.pending k in
    noted-from_IsIn r s.0 p.pending s.1 (ap (λ w. w.id) s.2) ∙ sym (ap is_pending s.2 ∙ not_from_false s.0.done (groups.not_done s.0 s.1)))
    (λ (k : IsIn r of_done). done_not_noted p sound r k ∙ sym (not_from_true r.done (done_in groups r k)))
    (IsIn-append_cases r of_pending of_done (IsIn-from_in_order id_before r (grouped p.registry p.pending p.store.checkpoints p.store.savepoints) h))

-- numbers that are noted in the room for them do not change the state
pub noted_tied : (p : Parts) (ended : Vec ℕ Global) → AreTied p → vec_capacity ended ≡ vec_capacity p.ended → AreTied (record p { ended = ended })
noted_tied p ended tied capacity = grind (arith, common_steps)

pub room_to_note : (p : Parts) (n : ℕ) → AreSound p → n ≤ length p.pending + (length p.store.checkpoints + length p.store.savepoints) → length p.ended.items + n ≤ vec_capacity p.ended
room_to_note p n sound few = grind (arith, common_steps, length-records_of)

-- if the numbers of all pending records were noted
pub pending_dropped : (p q : Parts) (ended : Vec ℕ Global) (n : ℕ) → IsSound (state_of p) → AreGroups p.pending p.store.checkpoints p.store.savepoints → ended.items ≡ numbers p.pending →
    Drops (record p { ended = ended }) q (is_noted ended.items) n → Drops p q is_pending n
unfolding state_of
pending_dropped p q ended n sound groups noted d =
    let dropped : Drops p q (is_noted ended.items) n = record { state_is = d.state_is; count_is = d.count_is; tied = d.tied; none_ended = d.none_ended } in
    drops_same p q (is_noted ended.items) is_pending n (λ r h. ap (λ ids. is_noted ids r) noted ∙ noted_are_pending p sound groups r h) dropped
