-- Drops of done records: of all checkpoints beside the pending records, and of one savepoint.
use Rattle.ckpt_core.proofs.Ending.Drops.{left, staying, stays, numbers, apart_in, noted-from_IsIn, IsIn-from_noted, drops_from, drops_same, staying_done}
use Rattle.ckpt_core.proofs.Names.{Record, released, IsIn-append_left, IsIn-append_right, IsIn-append_cases, IsIn-map, IsIn-from_map, IsIn-from_in_order, IsIn-from_list_any, filter-all, filter-same}
use Rattle.ckpt_core.proofs.Names.{filter-none, without, has_savepoint, has_id, Parts, with_pins, grouped, AreTied, Drops, is_noted, records_in, state_of, IsSound, id_before, is_pending}
use Rattle.ckpt_core.proofs.Names.{is_checkpoint, is_done_checkpoint, IsIn-from_find, is_checkpoint-kind, is_savepoint-kind}
use Rattle.ckpt_core.proofs.Names.{vec_capacity, Vec, Global, cases_Bool, eqb-true, ne_eqb, or_left, or_right, and_from, and_right, not_from_true, not_from_false, false_from_ne_true, map-append, IsIn}
use Rattle.ckpt_core.proofs.Names.{◌≡◌, ℕ, ◌-◌, ◌≤◌, true, false, not, ◌||◌, eqb, List, [], ◌∷◌, ◌++◌, map, length, refl, sym, ap, ◌∙◌, ⊎_elim, arith, Option, Some, None, rules, find, IsSome, filter}
use Rattle.ckpt_core.proofs.Records.{Grouped.AreApart, Grouped.apart_between, Grouped.apart_right, Lookups.AreGroups}

-- all but the savepoints
abbrev others : Parts → List Record
others p = p.pending ++ p.store.checkpoints

noted_other : (p : Parts) (s : Record) → IsIn s (others p) → is_noted (numbers (others p)) s ≡ true
noted_other p s h = noted-from_IsIn s s (others p) h refl

savepoint_not_noted : (p : Parts) → IsSound (state_of p) → (r : Record) → IsIn r p.store.savepoints → is_noted (numbers (others p)) r ≡ false
savepoint_not_noted p sound r h =
    let apart : AreApart (grouped p.registry p.pending p.store.checkpoints p.store.savepoints) = apart_in p sound in
    let of_pending : List Record = map (with_pins p.registry) p.pending in
    let of_done : List Record = p.store.checkpoints ++ p.store.savepoints in
    false_from_ne_true (is_noted (numbers (others p)) r) (λ (k : is_noted (numbers (others p)) r ≡ true).
    let q = IsIn-from_noted r (others p) k in
    ⊎_elim
    (λ a. apart_between of_pending of_done apart (with_pins p.registry q.0) r (IsIn-map (with_pins p.registry) q.0 p.pending a) (IsIn-append_right r p.store.checkpoints p.store.savepoints h)
    (sym q.2))
    (λ b. apart_between p.store.checkpoints p.store.savepoints (apart_right of_pending of_done apart) q.0 r b h (sym q.2)) (IsIn-append_cases q.0 p.pending p.store.checkpoints q.1))

noted_are_others : (p : Parts) → IsSound (state_of p) → AreGroups p.pending p.store.checkpoints p.store.savepoints → (r : Record) → IsIn r (records_in p) →
    is_noted (numbers (others p)) r ≡ (is_pending r || is_done_checkpoint r)
noted_are_others p sound groups r h =
    let of_pending : List Record = map (with_pins p.registry) p.pending in
    let of_done : List Record = p.store.checkpoints ++ p.store.savepoints in
    let Goal : Type 0 = is_noted (numbers (others p)) r ≡ (is_pending r || is_done_checkpoint r) in
    let pending : IsIn r of_pending → Goal = λ (k : IsIn r of_pending).
    let s = IsIn-from_map (with_pins p.registry) r p.pending k in
    noted-from_IsIn r s.0 (others p) (IsIn-append_left s.0 p.pending p.store.checkpoints s.1) (ap (λ w. w.id) s.2)
    ∙ sym (or_left (is_pending r) (is_done_checkpoint r) (ap is_pending s.2 ∙ not_from_false s.0.done (groups.not_done s.0 s.1))) in
    let checkpoint : IsIn r p.store.checkpoints → Goal = λ (k : IsIn r p.store.checkpoints). let d = groups.checkpoints_done r k in noted_other p r (IsIn-append_right r p.pending p.store.checkpoints
    k) ∙ sym (or_right (is_pending r) (is_done_checkpoint r) (and_from r.done (is_checkpoint r) d.0 (is_checkpoint-kind r d.1))) in
    let savepoint : IsIn r p.store.savepoints → Goal = λ (k : IsIn r p.store.savepoints). let d = groups.savepoints_done r k in savepoint_not_noted p sound r k
    ∙ sym (ap (λ b. b || is_done_checkpoint r) (not_from_true r.done d.0) ∙ and_right r.done (is_checkpoint r) (is_savepoint-kind r d.1)) in
    ⊎_elim pending (λ (k : IsIn r of_done). ⊎_elim checkpoint savepoint (IsIn-append_cases r p.store.checkpoints p.store.savepoints k))
    (IsIn-append_cases r of_pending of_done (IsIn-from_in_order id_before r (grouped p.registry p.pending p.store.checkpoints p.store.savepoints) h))

none_stays : (ids : List ℕ) (rs : List Record) → ((r : Record) → IsIn r rs → is_noted ids r ≡ true) → staying ids rs ≡ []
none_stays ids rs noted = filter-none (λ r. stays ids r.id) rs (λ r h. ap not (noted r h))

-- what handing out makes of parts
abbrev pub handed : Parts → Vec ℕ Global → Parts
handed a ended = record a {
  registry = without a.ended.items a.registry;
  outbox = record a.outbox {
    waiting = a.outbox.waiting ++ released a.registry (without a.ended.items a.registry);
    spare = a.outbox.spare - length (released a.registry (without a.ended.items a.registry));
  };
  ended = ended;
}

-- the parts before, with all numbers noted, without the pending records and the checkpoints
abbrev pub down_to_savepoints : Parts → List ℕ → ℕ → Vec ℕ Global → Parts
down_to_savepoints p noted spare ended = record p { pending = staying noted p.pending; store = record p.store { checkpoints = []; spare = spare }; ended = ended }

pub others_dropped : (p a q : Parts) (noted : List ℕ) (n : ℕ) → AreTied p → IsSound (state_of p) → AreGroups p.pending p.store.checkpoints p.store.savepoints → noted ≡ numbers p.pending →
    a ≡ down_to_savepoints p noted a.store.spare a.ended → a.ended.items ≡ noted ++ numbers p.store.checkpoints → q ≡ handed a q.ended → q.ended.items ≡ [] →
    vec_capacity q.ended ≡ vec_capacity p.ended → n ≡ length (released a.registry (without a.ended.items a.registry)) → Drops p q (λ r. is_pending r || is_done_checkpoint r) n
others_dropped p a q noted n tied sound groups noted_is a_is items q_is none capacity count =
    let spare : ℕ = a.store.spare in
    let ids_are : a.ended.items ≡ numbers (others p) = items ∙ ap (λ xs. xs ++ numbers p.store.checkpoints) noted_is ∙ sym (map-append (λ (r : Record). r.id) p.pending p.store.checkpoints) in
    let is_other : (r : Record) → IsIn r (others p) → is_noted a.ended.items r ≡ true = λ r h. ap (λ xs. is_noted xs r) ids_are ∙ noted_other p r h in
    let first : staying noted p.pending ≡ staying a.ended.items p.pending = none_stays noted p.pending (λ r h. ap (λ xs. is_noted xs r) noted_is ∙ noted-from_IsIn r r p.pending h refl)
    ∙ sym (none_stays a.ended.items p.pending (λ r h. is_other r (IsIn-append_left r p.pending p.store.checkpoints h))) in
    let second : [] ≡ staying a.ended.items p.store.checkpoints = sym (none_stays a.ended.items p.store.checkpoints (λ r h. is_other r (IsIn-append_right r p.pending p.store.checkpoints h))) in
    let third : p.store.savepoints ≡ staying a.ended.items p.store.savepoints =
    sym (filter-all (λ r. stays a.ended.items r.id) p.store.savepoints (λ r h. ap not (ap (λ xs. is_noted xs r) ids_are ∙ savepoint_not_noted p sound r h))) in
    let same : handed (down_to_savepoints p noted spare a.ended) q.ended ≡ left p a.ended.items spare q.ended = ap (λ rs. record (handed (down_to_savepoints p noted spare a.ended) q.ended)
    { pending = rs }) first ∙ ap (λ rs. record (left p a.ended.items spare q.ended) { store = record p.store { checkpoints = rs; spare = spare } }) second ∙ ap
    (λ rs. record (left p a.ended.items spare q.ended) { store = record p.store { checkpoints = staying a.ended.items p.store.checkpoints; savepoints = rs; spare = spare } }) third in
    let is : q ≡ left p a.ended.items spare q.ended = q_is ∙ ap (λ w. handed w q.ended) a_is ∙ same in
    drops_same p q (is_noted a.ended.items) (λ r. is_pending r || is_done_checkpoint r) n (λ r h. ap (λ xs. is_noted xs r) ids_are ∙ noted_are_others p sound groups r h)
    (drops_from p q a.ended.items spare n tied (apart_in p sound) is none capacity (count ∙ ap (λ us. length (released us (without a.ended.items us))) (ap (λ w. w.registry) a_is)))

-- one savepoint
one_noted : (id : ℕ) (r : Record) → is_noted (id ∷ []) r ≡ eqb r.id id
one_noted id r = ⊎_elim (λ (e : eqb r.id id ≡ true). or_left (eqb r.id id) false e ∙ sym e) (λ (e : eqb r.id id ≡ false). ap (λ b. b || false) e ∙ sym e) (cases_Bool (eqb r.id id))

-- the store without a savepoint
abbrev pub disposed : Parts → ℕ → ℕ → Vec ℕ Global → Parts
disposed p id spare ended = record p { store = record p.store { savepoints = filter (λ r. not (eqb r.id id)) p.store.savepoints; spare = spare }; ended = ended }

pub savepoint_dropped : (p a q : Parts) (id : ℕ) (spare n : ℕ) → AreTied p → IsSound (state_of p) → has_savepoint p.store id ≡ true → a ≡ disposed p id spare a.ended → a.ended.items ≡ id ∷ [] →
    q ≡ handed a q.ended → q.ended.items ≡ [] → vec_capacity q.ended ≡ vec_capacity p.ended → n ≡ length (released a.registry (without a.ended.items a.registry)) → Drops p q (λ r. eqb r.id id) n
savepoint_dropped p a q id spare n tied sound there a_is items q_is none capacity count =
    let ids : List ℕ = id ∷ [] in
    let apart : AreApart (grouped p.registry p.pending p.store.checkpoints p.store.savepoints) = apart_in p sound in
    let of_pending : List Record = map (with_pins p.registry) p.pending in
    let of_done : List Record = p.store.checkpoints ++ p.store.savepoints in
    let s = IsIn-from_list_any (has_id id) p.store.savepoints there in
    let its : s.0.id ≡ id = eqb-true s.0.id id s.2 in
    let pending_stays : (r : Record) → IsIn r p.pending → is_noted ids r ≡ false = λ r h. one_noted id r ∙ ne_eqb r.id id (λ e. apart_between of_pending of_done apart (with_pins p.registry r) s.0
    (IsIn-map (with_pins p.registry) r p.pending h) (IsIn-append_right s.0 p.store.checkpoints p.store.savepoints s.1) (e ∙ sym its)) in
    let checkpoint_stays : (r : Record) → IsIn r p.store.checkpoints → is_noted ids r ≡ false = λ r h.
    one_noted id r ∙ ne_eqb r.id id (λ e. apart_between p.store.checkpoints p.store.savepoints (apart_right of_pending of_done apart) r s.0 h s.1 (e ∙ sym its)) in
    let first : p.pending ≡ staying ids p.pending = sym (filter-all (λ r. stays ids r.id) p.pending (λ r h. ap not (pending_stays r h))) in
    let second : p.store.checkpoints ≡ staying ids p.store.checkpoints = sym (filter-all (λ r. stays ids r.id) p.store.checkpoints (λ r h. ap not (checkpoint_stays r h))) in
    let third : filter (λ r. not (eqb r.id id)) p.store.savepoints ≡ staying ids p.store.savepoints =
    filter-same (λ r. not (eqb r.id id)) (λ r. stays ids r.id) p.store.savepoints (λ r h. ap not (sym (one_noted id r))) in
    let b : Parts = disposed p id spare a.ended in
    let same : handed b q.ended ≡ left p a.ended.items spare q.ended = ap (λ rs. record (handed b q.ended) { pending = rs }) (first ∙ ap (λ xs. staying xs p.pending) (sym items))
    ∙ ap (λ rs. record (left p a.ended.items spare q.ended) { store = record b.store { checkpoints = rs } }) (second ∙ ap (λ xs. staying xs p.store.checkpoints) (sym items))
    ∙ ap (λ rs. record (left p a.ended.items spare q.ended) { store = record b.store { checkpoints = staying a.ended.items p.store.checkpoints; savepoints = rs } })
    (third ∙ ap (λ xs. staying xs p.store.savepoints) (sym items)) in
    let is : q ≡ left p a.ended.items spare q.ended = q_is ∙ ap (λ w. handed w q.ended) a_is ∙ same in
    drops_same p q (is_noted a.ended.items) (λ r. eqb r.id id) n (λ r h. ap (λ xs. is_noted xs r) items ∙ one_noted id r)
    (drops_from p q a.ended.items spare n tied apart is none capacity (count ∙ ap (λ us. length (released us (without a.ended.items us))) (ap (λ w. w.registry) a_is)))

at_least_one : (rs : List Record) (r : Record) → IsIn r rs → 1 ≤ length rs
at_least_one [] r h = absurd h
at_least_one (s ∷ rs) r h = omega arith

pub one_there : (p : Parts) (id : ℕ) → has_savepoint p.store id ≡ true → 1 ≤ length p.store.savepoints
one_there p id there = at_least_one p.store.savepoints (IsIn-from_list_any (has_id id) p.store.savepoints there).0 (IsIn-from_list_any (has_id id) p.store.savepoints there).1

-- one pending record
pub found : (id : ℕ) (rs : List Record) → IsSome (find (λ r. eqb r.id id) rs) → (s : Record) × IsIn s rs × (s.id ≡ id)
found id rs there =
    let P : Option Record → Type 0 = λ o. find (λ r. eqb r.id id) rs ≡ o → IsSome o → (s : Record) × IsIn s rs × (s.id ≡ id) in
    let some : (s : Record) → P (Some s) = λ s e h. let k = IsIn-from_find (λ r. eqb r.id id) s rs e in (s, k.0, eqb-true s.id id k.1) in
    let none : P None = λ e h. absurd (search rules) in
    elim (find (λ r. eqb r.id id) rs) as P [ Some s ↦ some s | None ↦ none ] refl there

pub one_pending : (p : Parts) (id : ℕ) → IsSome (find (λ r. eqb r.id id) p.pending) → 1 ≤ length p.pending
one_pending p id there = at_least_one p.pending (found id p.pending there).0 (found id p.pending there).1

pub done_is_other : (p : Parts) (ids : List ℕ) (id : ℕ) → IsSound (state_of p) → ids ≡ id ∷ [] → IsSome (find (λ r. eqb r.id id) p.pending) →
    (r : Record) → IsIn r (p.store.checkpoints ++ p.store.savepoints) → is_noted ids r ≡ false
done_is_other p ids id sound are there r h =
    let s = found id p.pending there in
    ap (λ xs. is_noted xs r) are ∙ one_noted id r ∙ ne_eqb r.id id (λ e. apart_between (map (with_pins p.registry) p.pending) (p.store.checkpoints ++ p.store.savepoints) (apart_in p sound)
    (with_pins p.registry s.0) r (IsIn-map (with_pins p.registry) s.0 p.pending s.1) h (s.2 ∙ sym e))

-- the parts once a pending record is taken out
abbrev pub one_taken_out : Parts → ℕ → Vec ℕ Global → Parts
one_taken_out p id ended = record p { pending = filter (λ r. not (eqb r.id id)) p.pending; ended = ended }

pub one_dropped : (p a q : Parts) (id n : ℕ) → AreTied p → IsSound (state_of p) → IsSome (find (λ r. eqb r.id id) p.pending) → a ≡ one_taken_out p id a.ended → a.ended.items ≡ id ∷ [] →
    q ≡ handed a q.ended → q.ended.items ≡ [] → vec_capacity q.ended ≡ vec_capacity p.ended → n ≡ length (released a.registry (without a.ended.items a.registry)) → Drops p q (λ r. eqb r.id id) n
one_dropped p a q id n tied sound there a_is items q_is none capacity count =
    let b : Parts = one_taken_out p id a.ended in
    let first : filter (λ r. not (eqb r.id id)) p.pending ≡ staying a.ended.items p.pending =
    filter-same (λ r. not (eqb r.id id)) (λ r. stays a.ended.items r.id) p.pending (λ r h. ap not (sym (ap (λ xs. is_noted xs r) items ∙ one_noted id r))) in
    let same : handed b q.ended ≡ left p a.ended.items p.store.spare q.ended = ap (λ rs. record (handed b q.ended) { pending = rs }) first
    ∙ ap (λ s. record (left p a.ended.items p.store.spare q.ended) { store = s }) (sym (staying_done p a.ended.items (done_is_other p a.ended.items id sound items there))) in
    let is : q ≡ left p a.ended.items p.store.spare q.ended = q_is ∙ ap (λ w. handed w q.ended) a_is ∙ same in
    drops_same p q (is_noted a.ended.items) (λ r. eqb r.id id) n (λ r h. ap (λ xs. is_noted xs r) items ∙ one_noted id r)
    (drops_from p q a.ended.items p.store.spare n tied (apart_in p sound) is none capacity (count ∙ ap (λ us. length (released us (without a.ended.items us))) (ap (λ w. w.registry) a_is)))
