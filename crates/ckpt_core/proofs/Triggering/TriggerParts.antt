-- What a trigger does to the parts is what it does to the state.
use Rattle.ckpt_core.proofs.Names.{triples, ◌≡◌, ℕ, ◌+◌, ◌<◌, ◌≤◌, Bool, false, not, ◌&&◌, ltb, eqb, List, [], ◌∷◌, ◌++◌, map, length, refl, sym, ap, subst, ◌∙◌, ⊎_elim, arith, Option, Some, None}
use Rattle.ckpt_core.proofs.Names.{unwrap_or, max, count_by, filter, vec_capacity, CheckpointId, append-nil, length-append, filter-append, ne_eqb, eq-eqb, not_from_false, not_from_true, Kind, IsIn}
use Rattle.ckpt_core.proofs.Names.{IsInOrder, in_order_once, Record, Use, Pin, use_before, uses, uses_of, IsIn-append_cases, IsIn-append_left, IsIn-map, IsIn-from_map, IsIn-flat_map}
use Rattle.ckpt_core.proofs.Names.{IsIn-from_flat_map, IsIn-in_order, IsIn-in_order_once, IsIn-from_in_order_once, IsInOrder-in_order_once, same_from_members, filter-all, filter-none}
use Rattle.ckpt_core.proofs.Names.{numbers_in_order, Parts, Configuration, IsWithinLimits, limit, State, is_pending, is_checkpoint, is_done_checkpoint, pins_now, files_of, chosen, choice_of, IsSound}
use Rattle.ckpt_core.proofs.Names.{id_before, triggered, with_pins, grouped, records_of, state_of, records_in, AreTied, present_in, ascending-pins, chosen_in, only_one, common_steps}
use Rattle.std.specs.Global.{Vec}
use Rattle.ckpt_core.proofs.Using.Order.{from_holds, use_of_record}
use Rattle.ckpt_core.proofs.Records.GroupMoves.{pending_groups, trigger_uses, uses-more}

-- every use is of a record with an earlier number
pub older_uses : (p : Parts) → AreTied p → IsSound (state_of p) → (u : Use) → IsIn u p.registry → u.id < p.next
unfolding state_of
older_uses p tied sound u h = let q = IsIn-from_flat_map uses_of u (records_in p) (rw tied.uses_are at h) in omega (arith, sound.records.below_next q.0 q.1, use_of_record q.0 u q.2)

pub older_records : (p : Parts) → IsSound (state_of p) → (r : Record) → IsIn r (grouped p.registry p.pending p.store.checkpoints p.store.savepoints) → r.id < p.next
unfolding state_of
older_records p sound r h = sound.records.below_next r (IsIn-in_order id_before r (grouped p.registry p.pending p.store.checkpoints p.store.savepoints) h)

pub older_pending : (p : Parts) → IsSound (state_of p) → (r : Record) → IsIn r p.pending → r.id < p.next
older_pending p sound r h = older_records p sound (with_pins p.registry r) (IsIn-append_left (with_pins p.registry r) (map (with_pins p.registry) p.pending)
    (p.store.checkpoints ++ p.store.savepoints) (IsIn-map (with_pins p.registry) r p.pending h))

-- a file of the choice is a use of a live record
pub pin_used : (m : State) (f : ℕ) → IsIn f (pins_now m) → (u : Use) × IsIn u (uses m.records) × (u.file ≡ f)
unfolding pins_now
pin_used m f h =
    let file : Use → ℕ = λ u. u.file in let Goal : Type 0 = (u : Use) × IsIn u (uses m.records) × (u.file ≡ f) in let some : (r : Record) → chosen (choice_of m) m ≡ Some r → Goal = λ r e.
    let P : Option Record → Type 0 = λ o. IsIn f (files_of o) in let q = IsIn-from_map file f (uses (r ∷ [])) (IsIn-from_in_order_once ltb f (map file (uses (r ∷ []))) (subst P e h)) in
    let own : IsIn q.0 (uses_of r) = ⊎_elim (λ (k : IsIn q.0 (uses_of r)). k) (λ (k : IsIn q.0 []). absurd k) (IsIn-append_cases q.0 (uses_of r) [] q.1) in
    (q.0, IsIn-flat_map uses_of r q.0 m.records (chosen_in m (choice_of m) r e) own, sym q.2) in let none : chosen (choice_of m) m ≡ None → Goal = λ e. absurd (rw e at h) in
    elim (chosen (choice_of m) m) as (λ o. (chosen (choice_of m) m ≡ o → Goal)) [ None ↦ none | Some r ↦ some r ] refl

pub pins_used : (p : Parts) → AreTied p → (f : ℕ) → IsIn f (pins_now (state_of p)) → (u : Use) × IsIn u p.registry × (u.file ≡ f)
unfolding state_of
pins_used p tied f h = grind (arith, common_steps, pin_used)

-- a file more for a file that is there does not make more files
pub present_same : (us vs : List Use) → ((u : Use) → IsIn u us → IsIn u.file (map (λ v. v.file) vs)) → ((v : Use) → IsIn v vs → IsIn v.file (map (λ u. u.file) us)) → present_in us ≡ present_in vs
present_same us vs forth back = grind (arith, common_steps, IsIn-from_in_order_once, IsIn-from_map, IsIn-in_order_once, IsInOrder-in_order_once, numbers_in_order, same_from_members)

-- the parts after a trigger
abbrev pub with_record : Parts → List Use → Record → Parts
with_record p us r = record p { pending = p.pending ++ r ∷ []; registry = us; next = p.next + 1 }

abbrev pub triggered_record : Parts → Kind → Record
triggered_record p kind = record { id = p.next; kind = kind; done = false; shape = unwrap_or p.reshaped p.opened.shape; started = p.clock.latest; acks = []; pins = [] }

abbrev pub after_pin : Parts → List ℕ → List Use
after_pin p files = in_order_once use_before (p.registry ++ triples p.next Pin files)

trigger_registry : (p : Parts) → AreTied p → IsSound (state_of p) → IsInOrder use_before p.registry → after_pin p (pins_now (state_of p)) ≡ p.registry ++ triples p.next Pin (pins_now (state_of p))
trigger_registry p tied sound order = trigger_uses p.registry p.next (pins_now (state_of p)) order (older_uses p tied sound) (ascending-pins (state_of p))

trigger_records : (p : Parts) (kind : Kind) → AreTied p → IsSound (state_of p) → IsInOrder use_before p.registry → records_in
    (with_record p (after_pin p (pins_now (state_of p))) (triggered_record p kind)) ≡ records_in p ++ record (triggered_record p kind) { pins = pins_now (state_of p) } ∷ []
trigger_records p kind tied sound order = ap (λ us. records_of us (p.pending ++ triggered_record p kind ∷ []) p.store.checkpoints p.store.savepoints) (trigger_registry p tied sound order)
    ∙ pending_groups p.registry p.pending p.store.checkpoints p.store.savepoints (triggered_record p kind) (pins_now (state_of p)) (older_uses p tied sound) (older_records p sound)

pub trigger_state : (p : Parts) (kind : Kind) → AreTied p → IsSound (state_of p) → IsInOrder use_before p.registry → state_of
    (with_record p (after_pin p (pins_now (state_of p))) (triggered_record p kind)) ≡ triggered (state_of p) kind
unfolding state_of triggered
trigger_state p kind tied sound order = ap (λ rs. record (state_of p) { records = rs; next = p.next + 1 }) (trigger_records p kind tied sound order)

pub trigger_tied : (p : Parts) (kind : Kind) → AreTied p → IsSound (state_of p) → IsInOrder use_before p.registry → length (records_in p) + 1 ≤ vec_capacity p.ended →
    AreTied (with_record p (after_pin p (pins_now (state_of p))) (triggered_record p kind))
trigger_tied p kind tied sound order room = let pins : List ℕ = pins_now (state_of p) in let us' : List Use = after_pin p pins in let x : Record = record (triggered_record p kind) { pins = pins } in
    let records : records_in (with_record p us' (triggered_record p kind)) ≡ records_in p ++ x ∷ [] = trigger_records p kind tied sound order in
    let added : us' ≡ p.registry ++ triples p.next Pin pins = trigger_registry p tied sound order in
    let same : present_in (p.registry ++ triples p.next Pin pins) ≡ present_in p.registry = present_same (p.registry ++ triples p.next Pin pins) p.registry
    (λ u h. ⊎_elim (λ (k : IsIn u p.registry). IsIn-map (λ (v : Use). v.file) u p.registry k) (λ (k : IsIn u (triples p.next Pin pins)).
    let q = pins_used p tied u.file (from_holds p.next Pin pins u k).2 in
    rw q.2 at (IsIn-map (λ (v : Use). v.file) q.0 p.registry q.1)) (IsIn-append_cases u p.registry (triples p.next Pin pins) h))
    (λ u h. IsIn-map (λ (v : Use). v.file) u (p.registry ++ triples p.next Pin pins) (IsIn-append_left u p.registry (triples p.next Pin pins) h)) in record {
      uses_are = added ∙ ap (λ us. us ++ triples p.next Pin pins) tied.uses_are ∙ sym (uses-more (records_in p) x) ∙ ap uses (sym records);
      retained = tied.retained;
      tolerable = tied.tolerable;
      spare = let e : present_in us' ≡ present_in p.registry = ap present_in added ∙ same in let s : present_in p.registry ≤ p.outbox.spare = tied.spare in omega arith;
      room = let e : length (records_in (with_record p us' (triggered_record p kind))) ≡ length (records_in p) + 1 = ap length records ∙ length-append (records_in p) (x ∷ []) in omega arith;
    }

-- the record is taken back
pub trigger_undone : (p : Parts) → IsSound (state_of p) → (x : Record) → x.id ≡ p.next → filter (λ r. not (eqb r.id p.next)) (p.pending ++ x ∷ []) ≡ p.pending
trigger_undone p sound x e = let other : Record → Bool = λ r. not (eqb r.id p.next) in
    filter-append other p.pending (x ∷ []) ∙ ap (λ rs. rs ++ filter other (x ∷ [])) (filter-all other p.pending (λ r h. let lt : r.id < p.next = older_pending p sound r h in
    not_from_false (eqb r.id p.next) (ne_eqb r.id p.next (λ k. omega arith)))) ∙ ap (λ rs. p.pending ++ rs) (filter-none other (x ∷ [])
    (λ r h. not_from_true (eqb r.id p.next) (eq-eqb r.id p.next (ap (λ w. w.id) (only_one r x h) ∙ e)))) ∙ append-nil p.pending

-- how many records live

pub three_kinds : (rs : List Record) → count_by (λ r. is_pending r && is_checkpoint r) rs + (count_by is_done_checkpoint rs + count_by (λ r. not (is_checkpoint r)) rs) ≡ length rs
three_kinds [] = refl
three_kinds (r ∷ rs) = grind (arith, common_steps, three_kinds rs)

pub limit_bound : (c : Configuration) → IsWithinLimits c → limit c ≤ 64
limit_bound c within = grind (arith, common_steps)

pub few_live : (m : State) → IsSound m → length m.records ≤ 2064
few_live m sound = omega (arith, three_kinds m.records, sound.records.at_once, sound.records.retained, sound.records.savepoints_to, limit_bound m.opening.config sound.config)

-- the same, from what the calls left

pub triggered_state : (p : Parts) (kind : Kind) (pins : List ℕ) (x : Record) (pending : List Record) (us : List Use) → AreTied p → IsSound (state_of p) → IsInOrder use_before p.registry →
    pins ≡ pins_now (state_of p) → x ≡ triggered_record p kind → pending ≡ p.pending ++ x ∷ [] → us ≡ in_order_once use_before (p.registry ++ triples p.next Pin pins) →
    state_of (record p { pending = pending; registry = us; next = p.next + 1 }) ≡ triggered (state_of p) kind
triggered_state p kind pins x pending us tied sound order pinned new added uses_are = grind (arith, common_steps, trigger_state)

pub triggered_tied : (p : Parts) (kind : Kind) (pins : List ℕ) (x : Record) (pending : List Record) (us : List Use) → AreTied p → IsSound (state_of p) → IsInOrder use_before p.registry →
    pins ≡ pins_now (state_of p) → x ≡ triggered_record p kind → pending ≡ p.pending ++ x ∷ [] → us ≡ in_order_once use_before (p.registry ++ triples p.next Pin pins) →
    length (records_in p) + 1 ≤ vec_capacity p.ended → AreTied (record p { pending = pending; registry = us; next = p.next + 1 })
triggered_tied p kind pins x pending us tied sound order pinned new added uses_are room =
    rw (added ∙ ap (λ y. p.pending ++ y ∷ []) new) (rw (uses_are ∙ ap (after_pin p) pinned) (trigger_tied p kind tied sound order room))

-- the parts with other room for numbers
pub state-ended : (p : Parts) (ended : Vec CheckpointId) → state_of (record p { ended = ended }) ≡ state_of p
unfolding state_of
state-ended p ended = refl

-- a record was added and taken out again
pub undone_state : (p : Parts) (x : Record) (added pending : List Record) (us : List Use) → IsSound (state_of p) → x.id ≡ p.next → added ≡ p.pending ++ x ∷ [] →
    pending ≡ filter (λ r. not (eqb r.id p.next)) added → us ≡ p.registry → record p { pending = pending; registry = us } ≡ p
undone_state p x added pending us sound new after removed same = grind (arith, common_steps, trigger_undone)

-- the record that a trigger makes
pub made_record : (p : Parts) (kind : Kind) (shape : List ℕ) (started : ℕ) (x : Record) →
    x ≡ record { id = p.next; kind = kind; done = false; shape = shape; started = started; acks = []; pins = [] } → shape ≡ unwrap_or p.reshaped p.opened.shape → started ≡ max 0 p.clock.latest →
    x ≡ triggered_record p kind
made_record p kind shape started x e s t = grind (arith, common_steps)

pub live_records : (p : Parts) → IsSound (state_of p) → length (records_in p) ≤ 2064
unfolding state_of
live_records p sound = few_live (state_of p) sound
