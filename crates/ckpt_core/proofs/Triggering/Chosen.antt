-- The files that the registry has of the record that is chosen are those that a triggered record pins.
use Rattle.ckpt_core.proofs.Names.{◌≡◌, ℕ, ◌<◌, Bool, true, false, not, eqb, List, [], ◌∷◌, map, sym, ap, subst, ◌∙◌, ⊎_elim, arith, Some, filter, find, flat_map, cases_Bool, cond-true, cond-false}
use Rattle.ckpt_core.proofs.Names.{eqb-true, ltb-true, ne_eqb, none-some, same_Some, Acked, Choice, ascending_set, IsIn, IsInOrder, Record, Use, Pin, Subtask, same_holder, uses, uses_of}
use Rattle.ckpt_core.proofs.Names.{ComesBefore-at, IsIn-append_cases, IsIn-from_flat_map, IsIn-from_map, filter-all, filter-none, filter-filter, files_by, Parts, AreTied, state_of, files_chosen}
use Rattle.ckpt_core.proofs.Names.{id_of_choice, IsSound, id_before, State, choice_of, chosen, files_of, pins_now, record_of, chosen_is_done}
use Rattle.ckpt_core.proofs.Using.Order.{uses-filter}
use Rattle.ckpt_ids.specs.declared.reply.Choice.TheVariants as choice

-- no other record has the number
filter-found : (id : ℕ) (rs : List Record) (r : Record) → IsInOrder id_before rs → find (λ q. eqb q.id id) rs ≡ Some r → filter (λ q. eqb q.id id) rs ≡ r ∷ []
filter-found id [] r order found = absurd (none-some r found)
filter-found id (q ∷ rs) r order found = let numbered : Record → Bool = λ s. eqb s.id id in let here : numbered q ≡ true → filter numbered (q ∷ rs) ≡ r ∷ [] = λ (e : numbered q ≡ true).
    let same : q ≡ r = same_Some q r (sym (cond-true (numbered q) (Some q) (find numbered rs) e) ∙ found) in let others : filter numbered rs ≡ [] = filter-none numbered rs (λ s h.
    let below : q.id < s.id = ltb-true q.id s.id (ComesBefore-at id_before q s rs order.0 h) in let at : q.id ≡ id = eqb-true q.id id e in ne_eqb s.id id (λ k. omega (arith, below, at, k))) in
    cond-true (numbered q) (q ∷ filter numbered rs) (filter numbered rs) e ∙ ap (λ ss. q ∷ ss) others ∙ ap (λ s. s ∷ []) same in
    let there : numbered q ≡ false → filter numbered (q ∷ rs) ≡ r ∷ [] = λ (e : numbered q ≡ false). cond-false (numbered q) (q ∷ filter numbered rs) (filter numbered rs) e
    ∙ filter-found id rs r order.1 (sym (cond-false (numbered q) (Some q) (find numbered rs) e) ∙ found) in ⊎_elim here there (cases_Bool (numbered q))

-- the uses of a record without pins are its subtasks'
not_pinned : (r : Record) → r.pins ≡ [] → (u : Use) → IsIn u (uses (r ∷ [])) → not (same_holder u.holder Pin) ≡ true
not_pinned r none u h = let Goal : Type 0 = not (same_holder u.holder Pin) ≡ true in let make : Acked → ℕ → Use = λ a f. record { id = r.id; holder = Subtask a.subtask; file = f } in
    let pin : ℕ → Use = λ f. record { id = r.id; holder = Pin; file = f } in let acked : List Use = flat_map (λ (a : Acked). map (make a) a.files) r.acks in
    let own : IsIn u (uses_of r) = ⊎_elim (λ (k : IsIn u (uses_of r)). k) (λ (k : IsIn u []). absurd k) (IsIn-append_cases u (uses_of r) [] h) in ⊎_elim (λ (k : IsIn u acked).
    let a = IsIn-from_flat_map (λ (b : Acked). map (make b) b.files) u r.acks k in let f = IsIn-from_map (make a.0) u a.0.files a.2 in
    ap (λ (v : Use). not (same_holder v.holder Pin)) f.2) (λ (k : IsIn u (map pin r.pins)). let f = IsIn-from_map pin u r.pins k in let P : List ℕ → Type 0 = λ fs. IsIn f.0 fs in
    absurd (subst P none f.1)) (IsIn-append_cases u acked (map pin r.pins) own)

-- the files of a record without pins
files_by-uses : (id : ℕ) (rs : List Record) (r : Record) → IsInOrder id_before rs → find (λ q. eqb q.id id) rs ≡ Some r → r.pins ≡ [] → files_by id (uses rs) ≡ files_of (Some r)
files_by-uses id rs r order found none = let named : Use → Bool = λ u. eqb u.id id in let acked : Use → Bool = λ u. not (same_holder u.holder Pin) in
    let own : filter named (uses rs) ≡ uses (r ∷ []) = sym (uses-filter (λ k. eqb k id) rs) ∙ ap uses (filter-found id rs r order found) in
    ap (λ us. ascending_set (map (λ (u : Use). u.file) us)) (sym (filter-filter acked named (uses rs)) ∙ ap (filter acked) own ∙ filter-all acked (uses (r ∷ [])) (not_pinned r none))

-- the record that the choice names has no pins
files_by-choice : (p : Parts) → AreTied p → IsSound (state_of p) → (id : ℕ) → id_of_choice (choice_of (state_of p)) ≡ Some id → files_by id p.registry ≡ files_of (record_of (state_of p) id)
unfolding state_of
files_by-choice p tied sound id e = let m : State = state_of p in let q = chosen_is_done m id sound e in
    ap (files_by id) tied.uses_are ∙ files_by-uses id m.records q.0 sound.records.in_order q.2 ((sound.records.each q.0 q.1).unpinned q.3) ∙ ap files_of (sym q.2)

pub files_chosen-pins : (p : Parts) → AreTied p → IsSound (state_of p) → (c : Choice) → c ≡ choice_of (state_of p) → files_chosen c p.registry ≡ pins_now (state_of p)
unfolding pins_now
files_chosen-pins p tied sound (choice.Checkpoint id) e = files_by-choice p tied sound id (ap id_of_choice (sym e)) ∙ ap (λ d. files_of (chosen d (state_of p))) e
files_chosen-pins p tied sound (choice.Savepoint id) e = files_by-choice p tied sound id (ap id_of_choice (sym e)) ∙ ap (λ d. files_of (chosen d (state_of p))) e
files_chosen-pins p tied sound choice.Fresh e = ap (λ d. files_of (chosen d (state_of p))) e
