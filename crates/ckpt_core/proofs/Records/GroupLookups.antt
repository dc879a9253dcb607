-- What is found in the records in rising number is found in the groups: done records, savepoints, the choice.
use Rattle.ckpt_core.proofs.Names.{◌≡◌, ℕ, ◌+◌, ◌-◌, Bool, true, false, not, ◌&&◌, eqb, List, [], ◌∷◌, ◌++◌, map, length, refl, sym, ap, ◌∙◌, ⊎_elim, arith, Option, Some, None, count_by, find}
use Rattle.ckpt_core.proofs.Names.{slice_get, option_map, option_or, filter, list_any, append-nil, find-append, filter-append, both_ways, eqb-true, and_parts, and_from, and_left, and_right}
use Rattle.ckpt_core.proofs.Names.{not_from_false, not_from_true, IsIn, IsInOrder, in_order, Record, Use, IsIn-append_cases, IsIn-append_right, IsIn-from_map, IsIn-in_order, IsIn-from_in_order}
use Rattle.ckpt_core.proofs.Names.{list_any-from_IsIn, IsIn-from_list_any, filter-all, filter-none, id_before, is_pending, is_checkpoint, is_done_checkpoint, last_checkpoint, with_pins, grouped}
use Rattle.ckpt_core.proofs.Names.{records_of, is_checkpoint-kind, is_savepoint-kind, count_by-none, count_by-same, count_by-all, common_steps}
use Rattle.ckpt_core.proofs.Records.Grouped.{AreApart, in_order-from_apart, apart_left, apart_right, same_records, in_order-filter}
use Rattle.ckpt_core.proofs.Records.Lookups.{AreGroups, has_number, find-records_of, find-map, count_by-records_of}
use Rattle.ckpt_ids.specs.declared.numbers.Kind.TheVariants as kind

-- the record of a number: pending, or a checkpoint, or a savepoint
pub record_of-groups : (id : ℕ) (us : List Use) (pending checkpoints savepoints : List Record) → AreApart (grouped us pending checkpoints savepoints) →
    find (has_number id) (records_of us pending checkpoints savepoints) ≡ option_or (option_map (with_pins us) (find (has_number id) pending))
    (option_or (find (has_number id) checkpoints) (find (has_number id) savepoints))
record_of-groups id us pending checkpoints savepoints apart = find-records_of (has_number id) id us pending checkpoints savepoints apart (λ r h. eqb-true r.id id h)
    ∙ find-append (has_number id) (map (with_pins us) pending) (checkpoints ++ savepoints) ∙ ap (λ o. option_or o (find (has_number id) (checkpoints ++ savepoints)))
    (find-map (has_number id) (with_pins us) pending) ∙ ap (option_or (option_map (with_pins us) (find (has_number id) pending))) (find-append (has_number id) checkpoints savepoints)

-- how many
pub pending_checkpoints-groups : (us : List Use) (pending checkpoints savepoints : List Record) → AreGroups pending checkpoints savepoints →
    count_by (λ r. is_pending r && is_checkpoint r) (records_of us pending checkpoints savepoints) ≡ count_by is_checkpoint pending
pending_checkpoints-groups us pending checkpoints savepoints groups = let p : Record → Bool = λ r. is_pending r && is_checkpoint r in
    let none_c : count_by p checkpoints ≡ 0 = count_by-none p checkpoints (λ r h. and_left (is_pending r) (is_checkpoint r) (not_from_true r.done (groups.checkpoints_done r h).0)) in
    let none_s : count_by p savepoints ≡ 0 = count_by-none p savepoints (λ r h. and_left (is_pending r) (is_checkpoint r) (not_from_true r.done (groups.savepoints_done r h).0)) in
    let own : count_by p pending ≡ count_by is_checkpoint pending = count_by-same p is_checkpoint pending (λ r h. ap (λ b. b && is_checkpoint r) (not_from_false r.done (groups.not_done r h))) in
    count_by-records_of p us pending checkpoints savepoints (λ r. refl) ∙ omega arith

pub savepoints-groups : (us : List Use) (pending checkpoints savepoints : List Record) → AreGroups pending checkpoints savepoints →
    count_by (λ r. not (is_checkpoint r)) (records_of us pending checkpoints savepoints) ≡ count_by (λ r. not (is_checkpoint r)) pending + length savepoints
savepoints-groups us pending checkpoints savepoints groups = let p : Record → Bool = λ r. not (is_checkpoint r) in
    let none_c : count_by p checkpoints ≡ 0 = count_by-none p checkpoints (λ r h. not_from_true (is_checkpoint r) (is_checkpoint-kind r (groups.checkpoints_done r h).1)) in
    let all_s : count_by p savepoints ≡ length savepoints = count_by-all p savepoints (λ r h. not_from_false (is_checkpoint r) (is_savepoint-kind r (groups.savepoints_done r h).1)) in
    count_by-records_of p us pending checkpoints savepoints (λ r. refl) ∙ omega arith

-- two tests that imply one another
pub same_tests : (a b : Bool) → (a ≡ true → b ≡ true) → (b ≡ true → a ≡ true) → a ≡ b
same_tests true b f g = sym (f refl)
same_tests false true f g = absurd (both_ways false refl (g refl))
same_tests false false f g = refl

-- a savepoint that is done
pub done_savepoint-groups : (id : ℕ) (us : List Use) (pending checkpoints savepoints : List Record) → AreGroups pending checkpoints savepoints →
    list_any (λ r. r.done && not (is_checkpoint r) && (eqb r.id id)) (records_of us pending checkpoints savepoints) ≡ list_any (has_number id) savepoints
done_savepoint-groups id us pending checkpoints savepoints groups = let p : Record → Bool = λ r. r.done && not (is_checkpoint r) && (eqb r.id id) in
    let g : List Record = grouped us pending checkpoints savepoints in same_tests (list_any p (in_order id_before g)) (list_any (has_number id) savepoints) (λ h.
    let q = IsIn-from_list_any p (in_order id_before g) h in let parts = and_parts (q.0.done && not (is_checkpoint q.0)) (eqb q.0.id id) q.2 in
    let more = and_parts q.0.done (not (is_checkpoint q.0)) parts.0 in ⊎_elim (λ (k : IsIn q.0 (map (with_pins us) pending)). let r = IsIn-from_map (with_pins us) q.0 pending k in
    absurd (both_ways q.0.done (ap (λ w. w.done) r.2 ∙ groups.not_done r.0 r.1) more.0)) (λ (k : IsIn q.0 (checkpoints ++ savepoints)). ⊎_elim (λ a.
    absurd (both_ways (not (is_checkpoint q.0)) (not_from_true (is_checkpoint q.0) (is_checkpoint-kind q.0 (groups.checkpoints_done q.0 a).1)) more.1))
    (λ b. list_any-from_IsIn (has_number id) q.0 savepoints b parts.1) (IsIn-append_cases q.0 checkpoints savepoints k)) (IsIn-append_cases q.0 (map (with_pins us) pending)
    (checkpoints ++ savepoints) (IsIn-from_in_order id_before q.0 g q.1))) (λ h. let q = IsIn-from_list_any (has_number id) savepoints h in let done = groups.savepoints_done q.0 q.1 in
    let there : IsIn q.0 g = IsIn-append_right q.0 (map (with_pins us) pending) (checkpoints ++ savepoints) (IsIn-append_right q.0 checkpoints savepoints q.1) in
    list_any-from_IsIn p q.0 (in_order id_before g) (IsIn-in_order id_before q.0 g there) (and_from (q.0.done && not (is_checkpoint q.0)) (eqb q.0.id id)
    (and_from q.0.done (not (is_checkpoint q.0)) done.0 (not_from_false (is_checkpoint q.0) (is_savepoint-kind q.0 done.1))) q.2))

-- the latest checkpoint

unfoldable pub last_id : List Record → Option ℕ
last_id [] = None
last_id (r ∷ rs) = elim (last_id rs) [ Some id ↦ Some id | None ↦ Some r.id ]

last_checkpoint-filter : (rs : List Record) → last_checkpoint rs ≡ last_id (filter is_done_checkpoint rs)
unfolding last_id
last_checkpoint-filter [] = refl
last_checkpoint-filter (r ∷ rs) = grind (arith, common_steps, last_checkpoint-filter rs)

pub last_id-greatest : (rs : List Record) → last_id rs ≡ option_map (λ r. r.id) (slice_get rs (length rs - 1))
unfolding last_id
last_id-greatest [] = refl
last_id-greatest (r ∷ []) = refl
last_id-greatest (r ∷ q ∷ rs) = grind (arith, common_steps, last_id-greatest (q ∷ rs))

pub last_checkpoint-groups : (us : List Use) (pending checkpoints savepoints : List Record) → AreApart (grouped us pending checkpoints savepoints) → AreGroups pending checkpoints savepoints →
    IsInOrder id_before checkpoints → last_checkpoint (records_of us pending checkpoints savepoints) ≡ last_id checkpoints
last_checkpoint-groups us pending checkpoints savepoints apart groups order =
    let g : List Record = grouped us pending checkpoints savepoints in let p : Record → Bool = is_done_checkpoint in
    let first : filter p (map (with_pins us) pending) ≡ [] = filter-none p (map (with_pins us) pending) (λ r h. let q = IsIn-from_map (with_pins us) r pending h in
    and_left r.done (is_checkpoint r) (ap (λ w. w.done) q.2 ∙ groups.not_done q.0 q.1)) in
    let second : filter p checkpoints ≡ checkpoints = filter-all p checkpoints (λ r h. and_from r.done (is_checkpoint r) (groups.checkpoints_done r h).0
    (is_checkpoint-kind r (groups.checkpoints_done r h).1)) in
    let whole : filter p g ≡ checkpoints = filter-append p (map (with_pins us) pending) (checkpoints ++ savepoints) ∙ ap (λ a. a ++ filter p (checkpoints ++ savepoints)) first
    ∙ filter-append p checkpoints savepoints ∙ ap (λ a. a ++ filter p savepoints) second ∙ ap (λ b. checkpoints ++ b) (filter-none p savepoints
    (λ r h. and_right r.done (is_checkpoint r) (is_savepoint-kind r (groups.savepoints_done r h).1))) ∙ append-nil checkpoints in
    let alone : AreApart checkpoints = apart_left checkpoints savepoints (apart_right (map (with_pins us) pending) (checkpoints ++ savepoints) apart) in
    let sorted : in_order id_before checkpoints ≡ checkpoints = same_records (in_order id_before checkpoints) checkpoints (in_order-from_apart checkpoints alone) order
    (λ z h. IsIn-from_in_order id_before z checkpoints h) (λ z h. IsIn-in_order id_before z checkpoints h) in
    rw (last_checkpoint-filter (in_order id_before g), ← in_order-filter p g apart, whole, sorted)
