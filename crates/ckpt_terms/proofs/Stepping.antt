-- What one call of a fenced coordinator changes.
use Rattle.ckpt_terms.proofs.Imports.{◌≡◌, ℕ, zero, suc, ◌+◌, ◌<◌, ◌≤◌, ◌^◌, Bool, true, false, not, ◌&&◌, ◌||◌, ltb, leb, eqb, List, [], ◌++◌, refl, ap, ◌∙◌, ◌⊎◌, inl, inr, ⊎_elim, arith}
use Rattle.ckpt_terms.proofs.Imports.{Option, Some, None, cond, max, list_any, filter, find, range_with_len, cases_Bool, both_ways, and_parts, and_from, or_parts, cond_both, ltb-false, lt-ltb}
use Rattle.ckpt_terms.proofs.Imports.{leb-false, lt-leb, cond-true, cond-false, Call, IsIn, IsAscendingSet, uses, is_present, IsIn-append_cases, IsIn-from_filter, IsIn-from_test}
use Rattle.ckpt_terms.proofs.Imports.{test-from_IsIn, IsInOrder-append, IsInOrder-filter, ComesBefore-from, is_known, is_cancelled, Stepped, step, registered_by, fails-from_find, step_keeps}
use Rattle.ckpt_terms.proofs.Imports.{FencedCall, Reserve, Forfeit, Make, Advance, FencedRefusal, OldTerm, Ended, BadCount, NamesUsedUp, TermsUsedUp, Fenced, is_unspent, is_of_task, fresh_of}
use Rattle.ckpt_terms.proofs.Imports.{ends_the_term, is_accepted, not_reserved, fence, without_all, unspent_after, after_call, FencedStepped, made, raised, restart, unless_fenced, fenced_step}
use Rattle.ckpt_terms.proofs.Imports.{IsFencedCall, IsFenced}
use Rattle.ckpt_terms.proofs.{Modes.cancelled_by, Known.present_after, Known.known_after, Known.registered_fresh}
use Rattle.ckpt_terms.specs.declared.call.FencedRefusal.TheVariants.{BadName}
use Rattle.ckpt_terms.specs.declared.call.FencedAnswer.TheVariants as answer

-- what holds of a refusal by the layer and of a call that is made holds of the step
pub fenced_step_by : (m : Fenced) (call : FencedCall) (P : FencedStepped → Type 0) → ((why : FencedRefusal) → P (m, answer.Fenced why)) → (fence m call ≡ None → P (made m call))
    → P (fenced_step m call)
unfolding fenced_step
fenced_step_by m call P refused accepted = by_fence (fence m call) refl
  where
    by_fence : (o : Option FencedRefusal) → fence m call ≡ o → P (unless_fenced m call o)
    by_fence None e = accepted e
    by_fence (Some why) e = refused why

pub fenced_off : (m : Fenced) (call : FencedCall) (why : FencedRefusal) → fence m call ≡ Some why → fenced_step m call ≡ (m, answer.Fenced why)
unfolding fenced_step
fenced_off m call why e = ap (unless_fenced m call) e

pub fenced_on : (m : Fenced) (call : FencedCall) → fence m call ≡ None → fenced_step m call ≡ made m call
unfolding fenced_step
fenced_on m call e = ap (unless_fenced m call) e

-- the rows of a table
pub none_else : (b : Bool) (x : FencedRefusal) (rest : Option FencedRefusal) → cond b (Some x) rest ≡ None → (b ≡ false) × (rest ≡ None)
none_else true x rest e = absurd (cc)
none_else false x rest e = (refl, e)

-- a reservation that is made has names left
pub reserve_fits : (m : Fenced) (term count : ℕ) → fence m (Reserve term count) ≡ None → m.next_name + count ≤ 2 ^ 62
reserve_fits m term count e =
    let a = none_else (not (eqb term m.term)) OldTerm _ e in
    let z = none_else (is_cancelled m.core.mode) Ended _ a.1 in
    let b = none_else (eqb count 0 || ltb (2 ^ 16) count) BadCount _ z.1 in
    let c = none_else (ltb (2 ^ 62) (m.next_name + count)) NamesUsedUp None b.1 in
    ltb-false (2 ^ 62) (m.next_name + count) c.0

-- and the job was not cancelled
reserve_runs : (m : Fenced) (term count : ℕ) → fence m (Reserve term count) ≡ None → is_cancelled m.core.mode ≡ false
reserve_runs m term count e =
    let a = none_else (not (eqb term m.term)) OldTerm _ e in
    (none_else (is_cancelled m.core.mode) Ended _ a.1).0

-- the fresh files of an acknowledgement that is made have unspent names
none_reserved : (m : Fenced) (o : Option ℕ) → not_reserved m o ≡ None → o ≡ None
none_reserved m None e = refl
none_reserved m (Some f) e = absurd (cc)

pub fresh_unspent : (m : Fenced) (term : ℕ) (call : Call) (f : ℕ) → fence m (Make term call) ≡ None → IsIn f (fresh_of call) → IsIn f m.unspent
fresh_unspent m term call f e h =
    let a = none_else (is_of_task call && not (eqb term m.term)) OldTerm _ e in
    let b = none_else (ends_the_term call && leb (2 ^ 62) m.term) TermsUsedUp _ a.1 in
    let found : find (λ g. not (is_unspent m g)) (fresh_of call) ≡ None = none_reserved m _ b.1 in
    let yes : not (is_unspent m f) ≡ false = fails-from_find (λ g. not (is_unspent m g)) f (fresh_of call) found h in
    IsIn-from_test f m.unspent (⊎_elim (λ (k : is_unspent m f ≡ true). k) (λ (k : is_unspent m f ≡ false). absurd (both_ways (not (is_unspent m f)) yes (ap not k))) (cases_Bool (is_unspent m f)))

-- a term that ends has one after it
pub term_fits : (m : Fenced) (term : ℕ) (call : Call) → fence m (Make term call) ≡ None → ends_the_term call ≡ true → m.term < 2 ^ 62
term_fits m term call e ends =
    let a = none_else (is_of_task call && not (eqb term m.term)) OldTerm _ e in
    let b = none_else (ends_the_term call && leb (2 ^ 62) m.term) TermsUsedUp _ a.1 in
    leb-false (2 ^ 62) m.term
    (⊎_elim (λ (k : leb (2 ^ 62) m.term ≡ true). absurd (both_ways (ends_the_term call && leb (2 ^ 62) m.term) b.0 (and_from (ends_the_term call) (leb (2 ^ 62) m.term) ends k)))
    (λ (k : leb (2 ^ 62) m.term ≡ false). k) (cases_Bool (leb (2 ^ 62) m.term)))

-- what holds of no names, of all and of some holds of those that are unspent after a call
pub unspent_by : (m : Fenced) (call : Call) (s : Stepped) (P : List ℕ → Type 0) → P [] → P m.unspent → ((p : ℕ → Bool) → P (filter p m.unspent)) → P (after_call m call s).unspent
unspent_by m call s P none all some =
    cond_both (is_accepted s.1) (unspent_after m.unspent call) m.unspent P
    (λ _. cond_both (ends_the_term call) [] (filter (λ f. not (list_any (λ g. eqb f g) (fresh_of call))) m.unspent) P (λ _. none) (λ _. some (λ f. not (list_any (λ g. eqb f g) (fresh_of call)))))
    (λ _. all)

pub unspent_before : (m : Fenced) (call : Call) (s : Stepped) (f : ℕ) → IsIn f (after_call m call s).unspent → IsIn f m.unspent
unspent_before m call s f = unspent_by m call s (λ xs. IsIn f xs → IsIn f m.unspent) (λ h. absurd h) (λ h. h) (λ p h. (IsIn-from_filter p f m.unspent h).0)

-- an accepted acknowledgement spends the names of its fresh files
pub fresh_spent : (m : Fenced) (call : Call) (s : Stepped) (f : ℕ) → is_accepted s.1 ≡ true → IsIn f (fresh_of call) → IsIn f (after_call m call s).unspent → ⊥
fresh_spent m call s f accepted fresh =
    let In : List ℕ → Type 0 = λ xs. IsIn f xs → ⊥ in
    let keep : ℕ → Bool = λ g. not (list_any (λ h. eqb g h) (fresh_of call)) in
    cond_both (is_accepted s.1) (unspent_after m.unspent call) m.unspent In
    (λ _. cond_both (ends_the_term call) [] (filter keep m.unspent) In (λ _ k. absurd k)
    (λ _ k. both_ways (keep f) (ap not (test-from_IsIn f (fresh_of call) fresh)) (IsIn-from_filter keep f m.unspent k).1))
    (λ no. absurd (both_ways (is_accepted s.1) no accepted))

-- a name that a file may still get
abbrev pub IsOpen : Fenced → ℕ → Type 0
IsOpen m f = IsIn f m.unspent ⊎ (m.next_name ≤ f)

-- from a state to a later one
pub record IsLater (m n : Fenced) : Type 0 where
  pub term : m.term ≤ n.term
  pub still_open : (f : ℕ) → IsOpen n f → IsOpen m f
  pub known : (f : ℕ) → is_known n.core f ≡ true → (is_known m.core f ≡ true) ⊎ IsOpen m f
  pub present : (f : ℕ) → is_present (uses n.core.records) f ≡ true → (is_present (uses m.core.records) f ≡ true) ⊎ IsOpen m f

pub later_itself : (m : Fenced) → IsLater m m
later_itself m = record { term = omega arith; still_open = λ f h. h; known = λ f h. inl h; present = λ f h. inl h }

pub later_then : (m n k : Fenced) → IsLater m n → IsLater n k → IsLater m k
later_then m n k a b = record {
  term = let h : m.term ≤ n.term = a.term in let i : n.term ≤ k.term = b.term in omega arith;
  still_open = λ f h. a.still_open f (b.still_open f h);
  known = λ f h. ⊎_elim (λ (i : is_known n.core f ≡ true). a.known f i) (λ (i : IsOpen n f). inr (a.still_open f i)) (b.known f h);
  present = λ f h. ⊎_elim (λ (i : is_present (uses n.core.records) f ≡ true). a.present f i) (λ (i : IsOpen n f). inr (a.still_open f i)) (b.present f h);
}

-- names in a row
pub in_row : (a n f : ℕ) → IsIn f (range_with_len a n) → (a ≤ f) × (f < a + n)
in_row a zero f h = absurd h
in_row a (suc n) f h =
    ⊎_elim
    (λ (e : f ≡ a). (omega arith, omega arith))
    (λ (k : IsIn f (range_with_len (a + 1) n)). let i : (a + 1 ≤ f) × (f < (a + 1) + n) = in_row (a + 1) n f k in let l : a + 1 ≤ f = i.0 in let r : f < (a + 1) + n = i.1 in
    (omega arith, omega arith))
    h

pub row_ascends : (a n : ℕ) → IsAscendingSet (range_with_len a n)
row_ascends a zero = tt
row_ascends a (suc n) = (ComesBefore-from ltb a (range_with_len (a + 1) n) (λ y h. let l : a + 1 ≤ y = (in_row (a + 1) n y h).0 in lt-ltb a y (omega arith)), row_ascends (a + 1) n)

-- a reservation
reserve_later : (m : Fenced) (term count : ℕ) → IsLater m (made m (Reserve term count)).0
reserve_later m term count = record {
  term = omega arith;
  still_open = λ f h.
      ⊎_elim
      (λ (k : IsIn f (m.unspent ++ range_with_len m.next_name count)).
      ⊎_elim (λ (i : IsIn f m.unspent). inl i) (λ (i : IsIn f (range_with_len m.next_name count)). inr (in_row m.next_name count f i).0)
      (IsIn-append_cases f m.unspent (range_with_len m.next_name count) k))
      (λ (k : m.next_name + count ≤ f). let le : m.next_name ≤ f = omega arith in inr le)
      h;
  known = λ f h. inl h;
  present = λ f h. inl h;
}

-- names given up
forfeit_later : (m : Fenced) (term : ℕ) (names : List ℕ) → IsLater m (made m (Forfeit term names)).0
forfeit_later m term names = record {
  term = omega arith;
  still_open = λ f h. ⊎_elim (λ (k : IsIn f (without_all names m.unspent)). inl (IsIn-from_filter (λ g. not (list_any (λ x. eqb g x) names)) f m.unspent k).0) (λ (k : m.next_name ≤ f). inr k) h;
  known = λ f h. inl h;
  present = λ f h. inl h;
}

-- a call of the coordinator
make_later : (m : Fenced) (term : ℕ) (call : Call) → IsFenced m → fence m (Make term call) ≡ None → IsLater m (made m (Make term call)).0
make_later m term call i e = record {
  term = let s : Stepped = step m.core call in cond_both (is_accepted s.1 && ends_the_term call) (m.term + 1) m.term (λ t. m.term ≤ t) (λ _. omega arith) (λ _. omega arith);
  still_open = λ f h. ⊎_elim (λ (k : IsIn f (after_call m call (step m.core call)).unspent). inl (unspent_before m call (step m.core call) f k)) (λ (k : m.next_name ≤ f). inr k) h;
  known = λ f h. ⊎_elim (λ (k : is_known m.core f ≡ true). inl k) (λ (k : IsIn f (registered_by m.core call)). inr (inl (fresh_unspent m term call f e (registered_fresh m.core call f k).0)))
      (known_after m.core call f i.core h);
  present = λ f h. ⊎_elim (λ (k : is_present (uses m.core.records) f ≡ true). inl k)
      (λ (k : IsIn f (registered_by m.core call)). inr (inl (fresh_unspent m term call f e (registered_fresh m.core call f k).0))) (present_after m.core call f i.core h);
}

-- an advance restores the job with its floors raised, or the restore is refused
pub advance_by : (m : Fenced) (now term first : ℕ) (P : Fenced → Type 0)
    → (is_accepted (step m.core (restart now)).1 ≡ true → P (made (raised m term first) (Make 0 (restart now))).0)
    → (is_accepted (step m.core (restart now)).1 ≡ false → P (made m (Make 0 (restart now))).0)
    → P (made m (Advance now term first)).0
advance_by m now term first P accepted refused =
    let s : Stepped = step m.core (restart now) in
    cond_both (is_accepted s.1) (raised m term first) m (λ (k : Fenced). P (after_call k (restart now) s)) accepted refused

-- one that is made keeps within the limits of names and terms
pub record CanAdvance (m : Fenced) (term first : ℕ) : Type 0 where
  pub names : first ≤ 2 ^ 62
  pub terms : leb (2 ^ 62) (max m.term term) ≡ false

pub advance_fits : (m : Fenced) (now term first : ℕ) → fence m (Advance now term first) ≡ None → CanAdvance m term first
advance_fits m now term first e =
    let a = none_else (eqb first 0 || ltb (2 ^ 62) first) BadName _ e in
    let b = none_else (leb (2 ^ 62) (max m.term term)) TermsUsedUp None a.1 in
    record { names = ltb-false (2 ^ 62) first (or_parts (eqb first 0) (ltb (2 ^ 62) first) a.0).1; terms = b.0 }

-- a restore is let through where a term comes after the one that runs
restart_passes : (m : Fenced) (now : ℕ) → leb (2 ^ 62) m.term ≡ false → fence m (Make 0 (restart now)) ≡ None
restart_passes m now more = cond-false (leb (2 ^ 62) m.term) (Some TermsUsedUp) None more

raised_passes : (m : Fenced) (now term first : ℕ) → fence m (Advance now term first) ≡ None → fence (raised m term first) (Make 0 (restart now)) ≡ None
raised_passes m now term first e = restart_passes (raised m term first) now (advance_fits m now term first e).terms

same_passes : (m : Fenced) (now term first : ℕ) → fence m (Advance now term first) ≡ None → fence m (Make 0 (restart now)) ≡ None
same_passes m now term first e =
    let top : max m.term term < 2 ^ 62 = leb-false (2 ^ 62) (max m.term term) (advance_fits m now term first e).terms in
    restart_passes m now (lt-leb (2 ^ 62) m.term (omega arith))

raised_later : (m : Fenced) (term first : ℕ) → IsLater m (raised m term first)
raised_later m term first = record {
  term = omega arith;
  still_open = λ f h. ⊎_elim (λ (k : IsIn f m.unspent). inl k) (λ (k : max m.next_name first ≤ f). let le : m.next_name ≤ f = omega arith in inr le) h;
  known = λ f h. inl h;
  present = λ f h. inl h;
}

pub raised_fenced : (m : Fenced) (term first : ℕ) → CanAdvance m term first → IsFenced m → IsFenced (raised m term first)
raised_fenced m term first can i = record {
  core = i.core;
  term_from = let h : 1 ≤ m.term = i.term_from in omega arith;
  term_to = let h : max m.term term < 2 ^ 62 = leb-false (2 ^ 62) (max m.term term) can.terms in omega arith;
  names_from = let h : 1 ≤ m.next_name = i.names_from in omega arith;
  names_to = let h : m.next_name ≤ 2 ^ 62 = i.names_to in let k : first ≤ 2 ^ 62 = can.names in omega arith;
  known = λ f h. let b : f < m.next_name = i.known f h in omega arith;
  reserved = λ f h. let b : f < m.next_name = i.reserved f h in omega arith;
  apart = i.apart;
  ascending = i.ascending;
  ended = i.ended;
}

advance_later : (m : Fenced) (now term first : ℕ) → IsFenced m → fence m (Advance now term first) ≡ None → IsLater m (made m (Advance now term first)).0
advance_later m now term first i e =
    let k : Fenced = raised m term first in
    advance_by m now term first (λ (n : Fenced). IsLater m n)
    (λ _. later_then m k (made k (Make 0 (restart now))).0 (raised_later m term first)
    (make_later k 0 (restart now) (raised_fenced m term first (advance_fits m now term first e) i) (raised_passes m now term first e)))
    (λ _. make_later m 0 (restart now) i (same_passes m now term first e))

pub made_later : (m : Fenced) (call : FencedCall) → IsFenced m → fence m call ≡ None → IsLater m (made m call).0
made_later m (Reserve term count) i e = reserve_later m term count
made_later m (Forfeit term names) i e = forfeit_later m term names
made_later m (Make term call) i e = make_later m term call i e
made_later m (Advance now term first) i e = advance_later m now term first i e

-- and what always holds

pub reserve_keeps : (m : Fenced) (term count : ℕ) → fence m (Reserve term count) ≡ None → IsFenced m → IsFenced (made m (Reserve term count)).0
reserve_keeps m term count e i =
    let row : List ℕ = range_with_len m.next_name count in
    record {
      core = i.core;
      term_from = i.term_from;
      term_to = i.term_to;
      names_from = let h : 1 ≤ m.next_name = i.names_from in omega arith;
      names_to = reserve_fits m term count e;
      known = λ f h. let b : f < m.next_name = i.known f h in omega arith;
      reserved = λ f h. ⊎_elim (λ (k : IsIn f m.unspent). let b : f < m.next_name = i.reserved f k in omega arith) (λ (k : IsIn f row). (in_row m.next_name count f k).1)
          (IsIn-append_cases f m.unspent row h);
      apart = λ f h.
          ⊎_elim
          (λ (k : IsIn f m.unspent). i.apart f k)
          (λ (k : IsIn f row).
          ⊎_elim (λ (t : is_known m.core f ≡ true). let b : f < m.next_name = i.known f t in let l : m.next_name ≤ f = (in_row m.next_name count f k).0 in absurd (omega arith))
          (λ (t : is_known m.core f ≡ false). t) (cases_Bool (is_known m.core f)))
          (IsIn-append_cases f m.unspent row h);
      ascending = IsInOrder-append ltb m.unspent row i.ascending (row_ascends m.next_name count)
          (λ x y h k. let b : x < m.next_name = i.reserved x h in let l : m.next_name ≤ y = (in_row m.next_name count y k).0 in lt-ltb x y (omega arith));
      ended = λ t. absurd (both_ways (is_cancelled m.core.mode) (reserve_runs m term count e) t);
    }

pub forfeit_keeps : (m : Fenced) (term : ℕ) (names : List ℕ) → IsFenced m → IsFenced (made m (Forfeit term names)).0
forfeit_keeps m term names i =
    let keep : ℕ → Bool = λ g. not (list_any (λ x. eqb g x) names) in
    record {
      core = i.core;
      term_from = i.term_from;
      term_to = i.term_to;
      names_from = i.names_from;
      names_to = i.names_to;
      known = i.known;
      reserved = λ f h. i.reserved f (IsIn-from_filter keep f m.unspent h).0;
      apart = λ f h. i.apart f (IsIn-from_filter keep f m.unspent h).0;
      ascending = IsInOrder-filter ltb keep m.unspent i.ascending;
      ended = λ t. ap (filter keep) (i.ended t);
    }

pub make_keeps : (m : Fenced) (term : ℕ) (call : Call) → IsFencedCall (Make term call) → fence m (Make term call) ≡ None → IsFenced m → IsFenced (made m (Make term call)).0
make_keeps m term call c fits i =
    let s : Stepped = step m.core call in
    let n : Fenced = after_call m call s in
    let spent : (f : ℕ) → IsIn f n.unspent → IsIn f (registered_by m.core call) → ⊥ = λ f h k. let r = registered_fresh m.core call f k in fresh_spent m call s f r.1 r.0 h in
    record {
      core = step_keeps m.core call c i.core;
      term_from = let h : 1 ≤ m.term = i.term_from in cond_both (is_accepted s.1 && ends_the_term call) (m.term + 1) m.term (λ t. 1 ≤ t) (λ _. omega arith) (λ _. h);
      term_to = cond_both (is_accepted s.1 && ends_the_term call) (m.term + 1) m.term (λ t. t ≤ 2 ^ 62)
          (λ e. let h : m.term < 2 ^ 62 = term_fits m term call fits (and_parts (is_accepted s.1) (ends_the_term call) e).1 in omega arith) (λ _. i.term_to);
      names_from = i.names_from;
      names_to = i.names_to;
      known = λ f h. ⊎_elim (λ (k : is_known m.core f ≡ true). i.known f k)
          (λ (k : IsIn f (registered_by m.core call)). i.reserved f (fresh_unspent m term call f fits (registered_fresh m.core call f k).0)) (known_after m.core call f i.core h);
      reserved = λ f h. i.reserved f (unspent_before m call s f h);
      apart = λ f h.
          ⊎_elim
          (λ (t : is_known n.core f ≡ true).
          ⊎_elim (λ (k : is_known m.core f ≡ true). absurd (both_ways (is_known m.core f) (i.apart f (unspent_before m call s f h)) k))
          (λ (k : IsIn f (registered_by m.core call)). absurd (spent f h k)) (known_after m.core call f i.core t))
          (λ (t : is_known n.core f ≡ false). t)
          (cases_Bool (is_known n.core f));
      ascending = unspent_by m call s IsAscendingSet tt i.ascending (λ p. IsInOrder-filter ltb p m.unspent i.ascending);
      ended = λ t.
          ⊎_elim
          (λ (k : is_cancelled m.core.mode ≡ true). unspent_by m call s (λ xs. xs ≡ []) refl (i.ended k) (λ p. ap (filter p) (i.ended k)))
          (λ (k : (is_accepted s.1 && ends_the_term call) ≡ true). let parts = and_parts (is_accepted s.1) (ends_the_term call) k in
          cond-true (is_accepted s.1) (unspent_after m.unspent call) m.unspent parts.0 ∙ cond-true (ends_the_term call) [] (without_all (fresh_of call) m.unspent) parts.1)
          (cancelled_by m.core call t);
    }

pub advance_keeps : (m : Fenced) (now term first : ℕ) → fence m (Advance now term first) ≡ None → IsFenced m → IsFenced (made m (Advance now term first)).0
advance_keeps m now term first e i =
    advance_by m now term first (λ (n : Fenced). IsFenced n)
    (λ _. make_keeps (raised m term first) 0 (restart now) tt (raised_passes m now term first e) (raised_fenced m term first (advance_fits m now term first e) i))
    (λ _. make_keeps m 0 (restart now) tt (same_passes m now term first e) i)

pub made_keeps : (m : Fenced) (call : FencedCall) → IsFencedCall call → fence m call ≡ None → IsFenced m → IsFenced (made m call).0
made_keeps m (Reserve term count) c e i = reserve_keeps m term count e i
made_keeps m (Forfeit term names) c e i = forfeit_keeps m term names i
made_keeps m (Make term call) c e i = make_keeps m term call c e i
made_keeps m (Advance now term first) c e i = advance_keeps m now term first e i
