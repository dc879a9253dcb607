-- When a list of sound records stays sound with one more, and that a prefix of sound records is sound.
use Rattle.ckpt_core.proofs.Names.{◌≡◌, ℕ, ◌<◌, ◌≤◌, ◌^◌, Bool, true, not, List, [], ◌∷◌, ◌++◌, refl, sym, subst, inl, inr, ⊎_elim, arith, count_by, cases_lt, both_ways, and_parts, not-true, ltb-true}
use Rattle.ckpt_core.proofs.Names.{lt-ltb, IsIn, ComesBefore, IsInOrder, Record, count_by-append, count_by_yes, counted-from_IsIn, IsIn-from_counted, ComesBefore-at, IsIn-append_left}
use Rattle.ckpt_core.proofs.Names.{IsIn-append_right, IsIn-append_cases, IsInOrder-append, only_one, limit, Opening, is_checkpoint, is_pending, is_done_checkpoint, IsRecord, id_before}
use Rattle.ckpt_core.proofs.Names.{AreSoundRecords, is_pending_checkpoint, Joins, common_steps}

with_last : (P : Record → Type 0) (rs : List Record) (r : Record) → ((x : Record) → IsIn x rs → P x) → P r → (x : Record) → IsIn x (rs ++ r ∷ []) → P x
with_last P rs r old last x h = ⊎_elim (λ (k : IsIn x rs). old x k) (λ (k : IsIn x (r ∷ [])). subst P (sym (only_one x r k)) last) (IsIn-append_cases x rs (r ∷ []) h)

at_most : (p : Record → Bool) (rs : List Record) (r : Record) (n : ℕ) → count_by p rs ≤ n → (p r ≡ true → count_by p rs < n) → count_by p (rs ++ r ∷ []) ≤ n
at_most p rs r n le lt = grind (arith, common_steps)

-- nothing is pending and done
not_both : (r : Record) → is_pending_checkpoint r ≡ true → is_done_checkpoint r ≡ true → ⊥
not_both r p d = both_ways r.done (not-true r.done (and_parts (is_pending r) (is_checkpoint r) p).0) (and_parts r.done (is_checkpoint r) d).0

pub joined_records : {o : Opening} {next : ℕ} {rs : List Record} {r : Record} → AreSoundRecords o next rs → Joins o next rs r → AreSoundRecords o next (rs ++ r ∷ [])
joined_records {o} {next} {rs} {r} s j = record {
  in_order = IsInOrder-append id_before rs (r ∷ []) s.in_order (tt, tt) (λ x y h k. let P : Record → Type 0 = λ z. id_before x z ≡ true in
      subst P (sym (only_one y r k)) (lt-ltb x.id r.id (j.above x h)));
  from_first = with_last (λ x. o.first ≤ x.id) rs r s.from_first j.from_first;
  below_next = with_last (λ x. x.id < next) rs r s.below_next j.below_next;
  each = with_last IsRecord rs r s.each j.is_record;
  started = with_last (λ x. x.started < 2 ^ 62) rs r s.started j.started;
  retained = at_most is_done_checkpoint rs r o.config.retained s.retained j.retained;
  at_once = at_most is_pending_checkpoint rs r (limit o.config) s.at_once j.at_once;
  savepoints_to = at_most (λ x. not (is_checkpoint x)) rs r 1000 s.savepoints_to j.savepoints;
  newer = λ x y h k p d. let old_done : IsIn y rs → y.id < x.id = λ (i : IsIn y rs). ⊎_elim (λ a. s.newer x y a i p d) (λ a. rw (only_one x r a) (j.above y i)) (IsIn-append_cases x rs (r ∷ []) h) in
      let new_done : IsIn y (r ∷ []) → y.id < x.id = λ (i : IsIn y (r ∷ [])). let its : is_done_checkpoint r ≡ true = rw (only_one y r i) at d in
      ⊎_elim (λ a. absurd (omega (arith, j.newer its, counted-from_IsIn is_pending_checkpoint x rs a p))) (λ a. absurd (not_both r (rw (only_one x r a) at p) its))
      (IsIn-append_cases x rs (r ∷ []) h) in ⊎_elim old_done new_done (IsIn-append_cases y rs (r ∷ []) k);
}

before_last : (rs : List Record) (r x : Record) → IsInOrder id_before (rs ++ r ∷ []) → IsIn x rs → id_before x r ≡ true
before_last [] r x order h = absurd h
before_last (y ∷ rs) r x order (inl e) = rw e (ComesBefore-at id_before y r (rs ++ r ∷ []) order.0 (IsIn-append_right r rs (r ∷ []) (inl refl)))
before_last (y ∷ rs) r x order (inr h) = before_last rs r x order.1 h

fewer : (p : Record → Bool) (rs : List Record) (r : Record) (n : ℕ) → count_by p (rs ++ r ∷ []) ≤ n → p r ≡ true → count_by p rs < n
fewer p rs r n le e = omega (arith, le, count_by-append p rs (r ∷ []), count_by_yes p r [] e)

-- so a record that fails one of these tests makes the list unsound
pub joins_from_sound : {o : Opening} {next : ℕ} {rs : List Record} {r : Record} → AreSoundRecords o next (rs ++ r ∷ []) → Joins o next rs r
joins_from_sound {o} {next} {rs} {r} w = let there : IsIn r (rs ++ r ∷ []) = IsIn-append_right r rs (r ∷ []) (inl refl) in
    let below : (x : Record) → IsIn x rs → x.id < r.id = λ x h. ltb-true x.id r.id (before_last rs r x w.in_order h) in record {
      above = below;
      from_first = w.from_first r there;
      below_next = w.below_next r there;
      is_record = w.each r there;
      started = w.started r there;
      retained = λ e. fewer is_done_checkpoint rs r o.config.retained w.retained e;
      at_once = λ e. fewer is_pending_checkpoint rs r (limit o.config) w.at_once e;
      savepoints = λ e. fewer (λ x. not (is_checkpoint x)) rs r 1000 w.savepoints_to e;
      newer = λ e. let none : 0 < count_by is_pending_checkpoint rs → ⊥ = λ (h : 0 < count_by is_pending_checkpoint rs). let q = IsIn-from_counted is_pending_checkpoint rs h in
          let older : r.id < q.0.id = w.newer q.0 r (IsIn-append_left q.0 rs (r ∷ []) q.1) there q.2 e in let newer : q.0.id < r.id = below q.0 q.1 in omega arith in
          ⊎_elim (λ (h : 0 < count_by is_pending_checkpoint rs). absurd (none h)) (λ (h : count_by is_pending_checkpoint rs ≤ 0). omega (arith, h)) (cases_lt 0 (count_by is_pending_checkpoint rs));
    }

front_order : (xs ys : List Record) → IsInOrder id_before (xs ++ ys) → IsInOrder id_before xs
front_order [] ys order = tt
front_order (x ∷ xs) ys order = (front xs ys order.0, front_order xs ys order.1)
  where
    front : (us vs : List Record) → ComesBefore id_before x (us ++ vs) → ComesBefore id_before x us
    front [] vs c = tt
    front (u ∷ us) vs c = (c.0, front us vs c.1)

fewer_in_front : (p : Record → Bool) (xs ys : List Record) (n : ℕ) → count_by p (xs ++ ys) ≤ n → count_by p xs ≤ n
fewer_in_front p xs ys n le = omega (arith, le, count_by-append p xs ys)

-- a prefix of sound records
pub sound_front : {o : Opening} {next : ℕ} (xs ys : List Record) → AreSoundRecords o next (xs ++ ys) → AreSoundRecords o next xs
sound_front {o} {next} xs ys w = record {
  in_order = front_order xs ys w.in_order;
  from_first = λ x h. w.from_first x (IsIn-append_left x xs ys h);
  below_next = λ x h. w.below_next x (IsIn-append_left x xs ys h);
  each = λ x h. w.each x (IsIn-append_left x xs ys h);
  started = λ x h. w.started x (IsIn-append_left x xs ys h);
  retained = fewer_in_front is_done_checkpoint xs ys o.config.retained w.retained;
  at_once = fewer_in_front is_pending_checkpoint xs ys (limit o.config) w.at_once;
  savepoints_to = fewer_in_front (λ x. not (is_checkpoint x)) xs ys 1000 w.savepoints_to;
  newer = λ x y h k p d. w.newer x y (IsIn-append_left x xs ys h) (IsIn-append_left y xs ys k) p d;
}
