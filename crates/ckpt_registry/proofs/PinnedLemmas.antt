-- What a record pins, computed from the uses.
use Rattle.ckpt_registry.proofs.Names.{◌≡◌, ℕ, Bool, true, ◌&&◌, eqb, ltb, List, [], ◌∷◌, ◌++◌, filter, map, refl, sym, ap, ◌∙◌, inl, inr, ⊎_elim, arith, IsPermutation, IsSorted, IsFiltered}
use Rattle.ckpt_registry.proofs.Names.{DiffersFromLast, nat_cmp, and_parts, both_ways, IsAscendingSet, ascending, ascending_set, IsIn, IsInOrder, Use, Pin, same_holder}
use Rattle.ckpt_registry.proofs.Names.{use_before, numbers_in_order, uses_in_order, ComesBefore-at, ComesBefore-from, IsIn-append_left, IsIn-append_right, IsIn-append_cases, IsIn-filter}
use Rattle.ckpt_registry.proofs.Names.{IsIn-flat_map, IsIn-from_filter, IsIn-from_flat_map, IsIn-from_map, IsIn-from_in_order_once, IsIn-in_order_once, IsIn-map, IsInOrder-filter}
use Rattle.ckpt_registry.proofs.Names.{IsInOrder-in_order_once, same_from_members, ascending-from_dedup, Pinner, Acknowledged, uses_in, each_file, named_by, own_files, parts_pinned, pinned_by}
use Rattle.ckpt_registry.proofs.Names.{pins_in, in_use, stored, pins_by, triples, files_in, common_steps}
use Rattle.ckpt_registry.proofs.PinLemmas.{uses_in-holder}

abbrev pins_it : ℕ → Use → Bool
pins_it id u = eqb u.id id && same_holder u.holder Pin

-- two pins of one record are in the order of their files
later_file : (id : ℕ) (u v : Use) → pins_it id u ≡ true → pins_it id v ≡ true → use_before u v ≡ true → ltb u.file v.file ≡ true
later_file id u v p q b = grind (arith, common_steps)

files_in_order : (id : ℕ) (us : List Use) → IsInOrder use_before us → ((u : Use) → IsIn u us → pins_it id u ≡ true) → IsAscendingSet (map (λ u. u.file) us)
files_in_order id [] order pins = tt
files_in_order id (u ∷ us) order pins = (
  ComesBefore-from ltb u.file (map (λ (v : Use). v.file) us) (λ f h. let q = IsIn-from_map (λ (v : Use). v.file) f us h in
      rw q.2 (later_file id u q.0 (pins u (inl refl)) (pins q.0 (inr q.1)) (ComesBefore-at use_before u q.0 us order.0 q.1))),
  files_in_order id us order.1 (λ v h. pins v (inr h)),
)

pins_by-ascending : (id : ℕ) (us : List Use) → IsInOrder use_before us → IsAscendingSet (pins_by id us)
pins_by-ascending id us order = files_in_order id (filter (pins_it id) us) (IsInOrder-filter use_before (pins_it id) us order) (λ u h. (IsIn-from_filter (pins_it id) u us h).1)

abbrev named_one : Acknowledged → Pinner → List ℕ
named_one m one = files_in (parts_pinned m one.pins) ++ own_files one.pins

-- what the pinners of the record name is what it pins
pub named-pins : (m : Acknowledged) (p : List Pinner) (id : ℕ) → ascending_set (named_by m id p) ≡ pins_by id (in_use m p)
named-pins m p id =
    let its : Pinner → Bool = λ one. eqb one.id id in
    let all : List ℕ = named_by m id p in
    let us : List Use = in_use m p in
    let file : Use → ℕ = λ u. u.file in
    let pinned : Pinner → List Use = λ o. triples o.id Pin (pinned_by m o.pins) in
    let forth : (z : ℕ) → IsIn z all → IsIn z (pins_by id us) = λ z h.
    let q = IsIn-from_flat_map (named_one m) z (filter its p) h in
    let k = IsIn-from_filter its q.0 p q.1 in
    let own : List ℕ = own_files q.0.pins in
    let made : Use = record { id = q.0.id; holder = Pin; file = z } in
    let held : IsIn z (pinned_by m q.0.pins) = ⊎_elim (λ i. IsIn-append_left z (each_file (parts_pinned m q.0.pins)) own (IsIn-in_order_once numbers_in_order z (files_in (parts_pinned m q.0.pins)) i))
    (λ i. IsIn-append_right z (each_file (parts_pinned m q.0.pins)) own i) (IsIn-append_cases z (files_in (parts_pinned m q.0.pins)) own q.2) in
    let among : IsIn made (pins_in m p) = IsIn-flat_map pinned q.0 made p k.0 (IsIn-map (λ f. record { id = q.0.id; holder = Pin; file = f }) z (pinned_by m q.0.pins) held) in
    let there : IsIn made us = IsIn-in_order_once uses_in_order made (stored m p) (IsIn-append_right made (uses_in m.items) (pins_in m p) among) in
    IsIn-map file made (filter (pins_it id) us) (IsIn-filter (pins_it id) made us there (ap (λ b. b && true) k.1)) in
    let back : (z : ℕ) → IsIn z (pins_by id us) → IsIn z all = λ z h.
    let q = IsIn-from_map file z (filter (pins_it id) us) h in
    let k = IsIn-from_filter (pins_it id) q.0 us q.1 in
    let both = and_parts (eqb q.0.id id) (same_holder q.0.holder Pin) k.1 in
    let among : IsIn q.0 (pins_in m p) = ⊎_elim (λ i. absurd (both_ways (same_holder q.0.holder Pin) (uses_in-holder m.items q.0 i) both.1)) (λ i. i)
    (IsIn-append_cases q.0 (uses_in m.items) (pins_in m p) (IsIn-from_in_order_once use_before q.0 (stored m p) k.0)) in
    let r = IsIn-from_flat_map pinned q.0 p among in
    let w = IsIn-from_map (λ (f : ℕ). record { id = r.0.id; holder = Pin; file = f }) q.0 (pinned_by m r.0.pins) r.2 in
    let own : List ℕ = own_files r.0.pins in
    let mine : its r.0 ≡ true = ap (λ (v : Use). eqb v.id id) (sym w.2) ∙ both.0 in
    let held : IsIn w.0 (named_one m r.0) = ⊎_elim (λ i. IsIn-append_left w.0 (files_in (parts_pinned m r.0.pins)) own (IsIn-from_in_order_once ltb w.0 (files_in (parts_pinned m r.0.pins)) i))
    (λ i. IsIn-append_right w.0 (files_in (parts_pinned m r.0.pins)) own i) (IsIn-append_cases w.0 (each_file (parts_pinned m r.0.pins)) own w.1) in
    rw (q.2 ∙ ap file w.2) (IsIn-flat_map (named_one m) r.0 w.0 (filter its p) (IsIn-filter its r.0 p r.1 mine) held) in
    same_from_members numbers_in_order (ascending_set all) (pins_by id us) (IsInOrder-in_order_once numbers_in_order all) (pins_by-ascending id us (IsInOrder-in_order_once uses_in_order (stored m p)))
    (λ z h. forth z (IsIn-from_in_order_once ltb z all h)) (λ z h. IsIn-in_order_once numbers_in_order z all (back z h))

-- what a sort and a `dedup` leave of them
pub pins-from_dedup : (m : Acknowledged) (p : List Pinner) (id : ℕ) (sorted kept : List ℕ) → IsPermutation (named_by m id p) sorted → IsSorted nat_cmp sorted
    → IsFiltered (DiffersFromLast eqb) [] sorted kept → ascending kept ≡ pins_by id (in_use m p)
pins-from_dedup m p id sorted kept moved s filtered = ascending-from_dedup (named_by m id p) sorted kept moved s filtered ∙ named-pins m p id
