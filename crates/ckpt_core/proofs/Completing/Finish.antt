-- What a completion does to the records in rising number, and to their uses: the record goes from the pending
-- ones to the done ones, its pins end, and some others go.
use Rattle.ckpt_core.proofs.Names.{triples, ◌≡◌, ℕ, Bool, true, false, not, ◌&&◌, cond, eqb, List, [], ◌∷◌, ◌++◌, map, refl, sym, ap, ◌∙◌, ◌⊎◌, inl, inr, ⊎_elim, Some, filter, flat_map, filter-append}
use Rattle.ckpt_core.proofs.Names.{cases_Bool, cond_both, eqb-true, eqb-false, eq-eqb, ne_eqb, and_parts, and_from, and_left, and_right, not-true, not_from_false, not_from_true, Acked, IsIn, in_order}
use Rattle.ckpt_core.proofs.Names.{Record, Use, Subtask, Pin, uses, uses_of, IsIn-append_cases, IsIn-append_left, IsIn-append_right, IsIn-map, IsIn-from_map, IsIn-from_flat_map, IsIn-filter}
use Rattle.ckpt_core.proofs.Names.{IsIn-from_filter, filter-all, filter-same, filter-none, filter-filter, id_before, unpinned, replaced, is_pin, pins, with_pins, grouped, records_of, map_same}
use Rattle.ckpt_core.proofs.Names.{map-map, common_steps, arith}
use Rattle.ckpt_core.proofs.Records.Grouped.{AreApart, in_order-filter, in_order-map, in_order_same, apart-filter, apart-map, apart-append, apart_left, apart_between}
use Rattle.ckpt_core.proofs.Records.GroupMoves.{filter-map, with_pins_kept}
use Rattle.ckpt_core.proofs.Acknowledging.Moves.{with_instead, id-with_instead, with_instead-other, with_instead-same, replaced_members, in_replaced, still_in_replaced}
use Rattle.ckpt_core.proofs.Using.Order.{from_holds, use_of_record, uses-filter}

abbrev is_other : ℕ → Record → Bool
is_other id r = not (eqb r.id id)

other-from_test : (id : ℕ) (r : Record) → is_other id r ≡ true → r.id ≡ id → ⊥
other-from_test id r h = eqb-false r.id id (not-true (eqb r.id id) h)

-- what remains of the uses after the record of this number has ended
abbrev pub still_used : (ℕ → Bool) → ℕ → Use → Bool
still_used keep id u = keep u.id && not (pins id u)

-- the record d is the pending record with its number, done and without pins; it is among the done ones after
pub finish_groups : (keep : ℕ → Bool) (us : List Use) (pending checkpoints savepoints more_checkpoints more_savepoints : List Record) (r d : Record) →
    AreApart (grouped us pending checkpoints savepoints) → AreApart (more_checkpoints ++ more_savepoints) → IsIn r pending → d.id ≡ r.id →
    ((z : Record) → IsIn z (more_checkpoints ++ more_savepoints) → (z ≡ d) ⊎ IsIn z (checkpoints ++ savepoints)) → ((z : Record) → (z ≡ d) ⊎ IsIn z (checkpoints ++ savepoints) →
    IsIn z (more_checkpoints ++ more_savepoints)) → records_of (filter (still_used keep d.id) us) (filter (λ s. keep s.id) (filter (is_other d.id) pending))
    (filter (λ s. keep s.id) more_checkpoints) (filter (λ s. keep s.id) more_savepoints) ≡ filter (λ s. keep s.id) (replaced (records_of us pending checkpoints savepoints) d)
finish_groups keep us pending checkpoints savepoints more_checkpoints more_savepoints r d apart done_apart there same_id forth back =
    let keeps : Record → Bool = λ s. keep s.id in let us' : List Use = filter (still_used keep d.id) us in let others : List Record = filter (is_other d.id) pending in
    let more : List Record = more_checkpoints ++ more_savepoints in let done : List Record = checkpoints ++ savepoints in let g : List Record = grouped us pending checkpoints savepoints in
    let l : List Record = map (with_pins us) others ++ more in
    let pinned : (q : Record) → IsIn q pending → IsIn (with_pins us q) (map (with_pins us) pending) = λ q h. IsIn-map (with_pins us) q pending h in
    let each : (s : Record) → IsIn s (filter keeps others) → with_pins us' s ≡ with_pins us s = λ s h. let k = IsIn-from_filter keeps s others h in
    let o : s.id ≡ d.id → ⊥ = other-from_test d.id s (IsIn-from_filter (is_other d.id) s pending k.0).1 in with_pins_kept (still_used keep d.id) us s (λ u i p.
    let same : u.id ≡ s.id = eqb-true u.id s.id (and_parts (eqb u.id s.id) (is_pin u.holder) p).0 in
    and_from (keep u.id) (not (pins d.id u)) (ap keep same ∙ k.1) (not_from_false (pins d.id u) (and_left (eqb u.id d.id) (is_pin u.holder) (ne_eqb u.id d.id (λ e. o (sym same ∙ e)))))) in
    let whole : grouped us' (filter keeps others) (filter keeps more_checkpoints) (filter keeps more_savepoints) ≡ filter keeps l =
    ap (λ a. a ++ (filter keeps more_checkpoints ++ filter keeps more_savepoints)) (map_same (with_pins us') (with_pins us) (filter keeps others) each ∙ sym (filter-map keeps (with_pins us) others))
    ∙ ap (λ b. filter keeps (map (with_pins us) others) ++ b) (sym (filter-append keeps more_checkpoints more_savepoints)) ∙ sym (filter-append keeps (map (with_pins us) others) more) in
    let pending_apart : AreApart (map (with_pins us) others) = rw (filter-map (is_other d.id) (with_pins us) pending) at (apart-filter (is_other d.id) (map (with_pins us) pending)
    (apart_left (map (with_pins us) pending) done apart)) in let cross : (x y : Record) → IsIn x (map (with_pins us) others) → IsIn y more → x.id ≡ y.id → ⊥ = λ x y h k e.
    let q = IsIn-from_map (with_pins us) x others h in let f = IsIn-from_filter (is_other d.id) q.0 pending q.1 in let id_x : x.id ≡ q.0.id = ap (λ w. w.id) q.2 in
    ⊎_elim (λ a. other-from_test d.id q.0 f.1 (sym id_x ∙ e ∙ ap (λ w. w.id) a)) (λ b. apart_between (map (with_pins us) pending) done apart (with_pins us q.0) y (pinned q.0 f.0) b (sym id_x ∙ e))
    (forth y k) in let g' : List Record = replaced g d in let g'_apart : AreApart g' = apart-map (with_instead d) (id-with_instead d) g apart in
    let d_in : IsIn d g' = in_replaced g d (with_pins us r) (IsIn-append_left (with_pins us r) (map (with_pins us) pending) done (pinned r there)) (sym same_id) in
    let done_stays : (z : Record) → IsIn z done → IsIn z g' = λ z h. still_in_replaced g d z (IsIn-append_right z (map (with_pins us) pending) done h)
    (λ e. apart_between (map (with_pins us) pending) done apart (with_pins us r) z (pinned r there) h (sym same_id ∙ sym e)) in let to : (z : Record) → IsIn z l → IsIn z g' = λ z h.
    let from_pending : IsIn z (map (with_pins us) others) → IsIn z g' = λ (k : IsIn z (map (with_pins us) others)). let q = IsIn-from_map (with_pins us) z others k in
    let f = IsIn-from_filter (is_other d.id) q.0 pending q.1 in
    rw q.2 (still_in_replaced g d (with_pins us q.0) (IsIn-append_left (with_pins us q.0) (map (with_pins us) pending) done (pinned q.0 f.0)) (other-from_test d.id q.0 f.1)) in
    let from_done : IsIn z more → IsIn z g' = λ (k : IsIn z more). ⊎_elim (λ (a : z ≡ d). rw a d_in) (done_stays z) (forth z k) in
    ⊎_elim from_pending from_done (IsIn-append_cases z (map (with_pins us) others) more h) in let from : (z : Record) → IsIn z g' → IsIn z l = λ z h.
    let in_more : (z ≡ d) ⊎ IsIn z done → IsIn z l = λ (k : (z ≡ d) ⊎ IsIn z done). IsIn-append_right z (map (with_pins us) others) more (back z k) in
    let old : IsIn z g × (z.id ≡ d.id → ⊥) → IsIn z l = λ (k : IsIn z g × (z.id ≡ d.id → ⊥)). ⊎_elim (λ (a : IsIn z (map (with_pins us) pending)). let q = IsIn-from_map (with_pins us) z pending a in
    let o : is_other d.id q.0 ≡ true = not_from_false (eqb q.0.id d.id) (ne_eqb q.0.id d.id (λ e. k.1 (ap (λ w. w.id) q.2 ∙ e))) in
    IsIn-append_left z (map (with_pins us) others) more (rw q.2 (IsIn-map (with_pins us) q.0 others (IsIn-filter (is_other d.id) q.0 pending q.1 o)))) (λ (b : IsIn z done). in_more (inr b))
    (IsIn-append_cases z (map (with_pins us) pending) done k.0) in ⊎_elim (λ (a : z ≡ d). in_more (inl a)) old (replaced_members g d z h) in
    let middle : in_order id_before (filter keeps l) ≡ in_order id_before (filter keeps g') = in_order_same (filter keeps l) (filter keeps g')
    (apart-filter keeps l (apart-append (map (with_pins us) others) more pending_apart done_apart cross)) (apart-filter keeps g' g'_apart) (λ z h. let k = IsIn-from_filter keeps z l h in
    IsIn-filter keeps z g' (to z k.0) k.1) (λ z h. let k = IsIn-from_filter keeps z g' h in IsIn-filter keeps z l (from z k.0) k.1) in
    ap (in_order id_before) whole ∙ middle ∙ in_order-filter keeps g' g'_apart ∙ ap (filter keeps) (in_order-map (with_instead d) (id-with_instead d) g)

-- its uses

no_pins_of_others : (id : ℕ) (q : Record) → (q.id ≡ id → ⊥) → filter (λ u. not (pins id u)) (uses_of q) ≡ uses_of q
no_pins_of_others id q ne =
    filter-all (λ u. not (pins id u)) (uses_of q) (λ u h. not_from_false (pins id u) (and_left (eqb u.id id) (is_pin u.holder) (ne_eqb u.id id (λ e. ne (sym (use_of_record q u h) ∙ e)))))

unpinned_uses : (q d : Record) → q.id ≡ d.id → q.acks ≡ d.acks → d.pins ≡ [] → uses_of d ≡ filter (λ u. not (pins d.id u)) (uses_of q)
unpinned_uses q d e acks none = let of_ack : Acked → List Use = λ a. triples q.id (Subtask a.subtask) a.files in let np : Use → Bool = λ u. not (pins d.id u) in
    let held : filter np (flat_map of_ack q.acks) ≡ flat_map of_ack q.acks = filter-all np (flat_map of_ack q.acks) (λ u h. let k = IsIn-from_flat_map of_ack u q.acks h in
    not_from_false (pins d.id u) (and_right (eqb u.id d.id) (is_pin u.holder) (ap is_pin (from_holds q.id (Subtask k.0.subtask) k.0.files u k.2).1))) in
    let gone : filter np (triples q.id Pin q.pins) ≡ [] = filter-none np (triples q.id Pin q.pins) (λ u h. let k = from_holds q.id Pin q.pins u h in
    not_from_true (pins d.id u) (and_from (eqb u.id d.id) (is_pin u.holder) (eq-eqb u.id d.id (k.0 ∙ e)) (ap is_pin k.1))) in
    let left : filter np (uses_of q) ≡ flat_map of_ack q.acks ++ [] = filter-append np (flat_map of_ack q.acks) (triples q.id Pin q.pins) ∙ ap (λ a. a ++ filter np (triples q.id Pin q.pins)) held
    ∙ ap (λ b. flat_map of_ack q.acks ++ b) gone in let right : uses_of d ≡ flat_map of_ack q.acks ++ [] = rw (none, ← acks, ← e) in right ∙ sym left

unpinned_record : (d q : Record) → (q.id ≡ d.id → q.acks ≡ d.acks) → d.pins ≡ [] → uses_of (with_instead d q) ≡ filter (λ u. not (pins d.id u)) (uses_of q)
unpinned_record d q acks none = ⊎_elim (λ e. let same : q.id ≡ d.id = eqb-true q.id d.id e in ap uses_of (with_instead-same d q same) ∙ unpinned_uses q d same (acks same) none) (λ e.
    let ne : q.id ≡ d.id → ⊥ = eqb-false q.id d.id e in ap uses_of (with_instead-other d q ne) ∙ sym (no_pins_of_others d.id q ne)) (cases_Bool (eqb q.id d.id))

pub replaced_uses : (rs : List Record) (d : Record) → ((q : Record) → IsIn q rs → q.id ≡ d.id → q.acks ≡ d.acks) → d.pins ≡ [] → uses (replaced rs d) ≡ filter (λ u. not (pins d.id u)) (uses rs)
replaced_uses [] d acks none = refl
replaced_uses (q ∷ rs) d acks none = let np : Use → Bool = λ u. not (pins d.id u) in
    ap (λ us. us ++ uses (replaced rs d)) (unpinned_record d q (acks q (inl refl)) none) ∙ ap (λ us. filter np (uses_of q) ++ us) (replaced_uses rs d (λ s h. acks s (inr h)) none)
    ∙ sym (filter-append np (uses_of q) (uses rs))

and_swap : (a b : Bool) → (a && b) ≡ (b && a)
and_swap a b = grind (arith, common_steps)

pub finish_uses : (keep : ℕ → Bool) (rs : List Record) (d : Record) → ((q : Record) → IsIn q rs → q.id ≡ d.id → q.acks ≡ d.acks) → d.pins ≡ [] →
    filter (still_used keep d.id) (uses rs) ≡ uses (filter (λ s. keep s.id) (replaced rs d))
finish_uses keep rs d acks none = grind (arith, common_steps, and_swap, filter-filter, filter-same, replaced_uses, uses-filter)

-- as a step says it: first the record is done, then its pins end and the others go

pub ended_records : (keep : ℕ → Bool) (rs : List Record) (r rd : Record) → r.id ≡ rd.id → map (unpinned (Some rd.id)) (filter (λ s. keep s.id) (replaced rs rd))
    ≡ filter (λ s. keep s.id) (replaced (replaced rs r) (record rd { pins = [] }))
ended_records keep rs r rd same = let d : Record = record rd { pins = [] } in let keeps : Record → Bool = λ s. keep s.id in let end : Record → Record = unpinned (Some rd.id) in
    let end_id : (q : Record) → (end q).id ≡ q.id = λ q. cond_both (eqb q.id rd.id) (record q { pins = [] }) q (λ x. x.id ≡ q.id) (λ e. refl) (λ e. refl) in
    let each : (q : Record) → IsIn q rs → end (with_instead rd q) ≡ with_instead d (with_instead r q) = λ q h. ⊎_elim (λ (e : eqb q.id rd.id ≡ true). let i : q.id ≡ rd.id = eqb-true q.id rd.id e in
    ap end (with_instead-same rd q i) ∙ ap (λ b. cond b d rd) (eq-eqb rd.id rd.id refl) ∙ sym (ap (with_instead d) (with_instead-same r q (i ∙ sym same)) ∙ with_instead-same d r same))
    (λ (e : eqb q.id rd.id ≡ false). let ne : q.id ≡ rd.id → ⊥ = eqb-false q.id rd.id e in
    ap end (with_instead-other rd q ne) ∙ ap (λ b. cond b (record q { pins = [] }) q) e ∙ sym (ap (with_instead d) (with_instead-other r q (λ k. ne (k ∙ same))) ∙ with_instead-other d q ne))
    (cases_Bool (eqb q.id rd.id)) in
    let ended : (xs : List Record) → map end (filter keeps xs) ≡ filter keeps (map end xs) = λ xs. ap (map end) (filter-same keeps (λ s. keeps (end s)) xs (λ s h. ap keep (sym (end_id s))))
    ∙ sym (filter-map keeps end xs) in
    ended (replaced rs rd) ∙ ap (filter keeps) (map-map end (with_instead rd) rs ∙ map_same (λ q. end (with_instead rd q)) (λ q. with_instead d (with_instead r q)) rs each
    ∙ sym (map-map (with_instead d) (with_instead r) rs))
