-- A pending record that was given its last acknowledgement completes.
use Rattle.ckpt_core.proofs.Names.{◌≡◌, ℕ, Bool, cond, List, [], ◌∷◌, ◌++◌, map, refl, sym, ap, subst, ◌∙◌, ◌⊎◌, inl, inr, ⊎_elim, cases_Bool, SubtaskId, ascending, IsIn, put, Record, uses}
use Rattle.ckpt_core.proofs.Names.{IsIn-append_cases, IsIn-append_left, IsIn-append_right, IsIn-map, IsIn-put, IsIn-put_itself, IsIn-put_cases, by_id, Parts, with_pins, grouped, records_in, state_of}
use Rattle.ckpt_core.proofs.Names.{IsIn-from_find, only_one, with_ack, taken_in, completed, common_steps, arith}
use Rattle.ckpt_core.proofs.Acknowledging.Moves.{replaced_members}
use Rattle.ckpt_core.proofs.Acknowledging.States.{IsTaking, acked_replaced, replaced_in_order, taken_records, taken_uses}
use Rattle.ckpt_core.proofs.Acknowledging.Takes.{found_acked}
use Rattle.ckpt_core.proofs.Completing.Moves.{IsCompleting, IsEnding}
use Rattle.ckpt_core.proofs.Ending.Drops.{groups_of}
use Rattle.ckpt_core.proofs.Records.Grouped.{AreApart, IsNew, apart-append, apart-from_in_order, apart_between, apart_left, apart_right}
use Rattle.ckpt_core.proofs.Records.Lookups.{AreGroups, has_number}

-- it goes to the done ones

with_last : (cs ss : List Record) (d : Record) → AreApart (cs ++ ss) → ((q : Record) → IsIn q (cs ++ ss) → d.id ≡ q.id → ⊥) → AreApart ((cs ++ d ∷ []) ++ ss)
with_last cs ss d apart new =
    let first : AreApart (cs ++ d ∷ []) = apart-append cs (d ∷ []) (apart_left cs ss apart) ((λ y h. absurd h), tt) (λ x y h k e.
    new x (IsIn-append_left x cs ss h) (sym (e ∙ ap (λ w. w.id) (only_one y d k)))) in
    apart-append (cs ++ d ∷ []) ss first (apart_right cs ss apart) (λ x y h k e. ⊎_elim (λ (c : IsIn x cs). apart_between cs ss apart x y c k e)
    (λ (c : IsIn x (d ∷ [])). new y (IsIn-append_right y cs ss k) (sym (ap (λ w. w.id) (only_one x d c)) ∙ e)) (IsIn-append_cases x cs (d ∷ []) h))

apart-put : (d : Record) (xs : List Record) → IsNew d xs → AreApart xs → AreApart (put by_id d xs)
apart-put d [] new a = ((λ y h. absurd h), tt)
apart-put d (y ∷ xs) new a = let P : Bool → Type 0 = λ b. AreApart (cond b (y ∷ put by_id d xs) (d ∷ y ∷ xs)) in
    let later : IsNew y (put by_id d xs) = λ z h e. ⊎_elim (λ (i : z ≡ d). new y (inl refl) (sym (e ∙ ap (λ w. w.id) i))) (λ (k : IsIn z xs). a.0 z k e) (IsIn-put_cases by_id d z xs h) in
    ⊎_elim (λ e. subst P (sym e) (later, apart-put d xs (λ z h. new z (inr h)) a.1)) (λ e. subst P (sym e) (new, a)) (cases_Bool (by_id y d))

module _ {p : Parts} {now id : ℕ} {s : SubtaskId} {fresh reused : List ℕ} {r : Record} (t : IsTaking p now id s fresh reused r) where
  -- the parts after it, the record with its last acknowledgement, and done
  abbrev after : Parts
  after = taken_in p now id s fresh reused

  abbrev a : Record
  a = with_ack r s fresh reused

  abbrev d : Record
  d = completed r s fresh reused

  abbrev cs : List Record
  cs = p.store.checkpoints

  abbrev ss : List Record
  ss = p.store.savepoints

  there : IsIn r p.pending
  there = (IsIn-from_find (has_number id) r p.pending t.found).0

  pub taken_there : IsIn a after.pending
  taken_there = (IsIn-from_find (has_number id) a after.pending (found_acked id s (ascending (fresh ++ reused)) r p.pending t.found)).0

  pub taken_apart : AreApart (grouped after.registry after.pending cs ss)
  unfolding state_of
  taken_apart = grind (arith, common_steps, apart-from_in_order, replaced_in_order, taken_records, with_ack)

  pub taken_groups : AreGroups after.pending cs ss
  taken_groups = let g : AreGroups p.pending cs ss = groups_of p t.pending t.stored in record {
    not_done = λ q h. ⊎_elim (λ e. ap (λ x. x.done) e ∙ g.not_done r there) (λ o. g.not_done q o.0) (replaced_members p.pending a q
        (rw (acked_replaced id s (ascending (fresh ++ reused)) r p.pending t.in_order t.found) at h));
    checkpoints_done = g.checkpoints_done;
    savepoints_done = g.savepoints_done;
  }

  -- no done record has its number
  pub not_done_number : (q : Record) → IsIn q (cs ++ ss) → r.id ≡ q.id → ⊥
  not_done_number q h = apart_between (map (with_pins after.registry) after.pending) (cs ++ ss) taken_apart (with_pins after.registry a) q
      (IsIn-map (with_pins after.registry) a after.pending taken_there) h

  done_apart : AreApart (cs ++ ss)
  done_apart = apart_right (map (with_pins after.registry) after.pending) (cs ++ ss) taken_apart

  its_no_pins : r.pins ≡ []
  its_no_pins = (t.pending r there).no_pins

  ending : (more_checkpoints more_savepoints : List Record) → AreApart (more_checkpoints ++ more_savepoints) → ((z : Record) → IsIn z (more_checkpoints ++ more_savepoints) →
      (z ≡ d) ⊎ IsIn z (cs ++ ss)) → ((z : Record) → (z ≡ d) ⊎ IsIn z (cs ++ ss) → IsIn z (more_checkpoints ++ more_savepoints)) →
      IsEnding after.registry after.pending cs ss more_checkpoints more_savepoints a d
  ending more_checkpoints more_savepoints more_apart forth back = record {
    apart = taken_apart;
    more_apart = more_apart;
    there = taken_there;
    same = refl;
    acks = refl;
    no_pins = its_no_pins;
    forth = forth;
    back = back;
    uses_are = taken_uses t ∙ ap uses (sym (taken_records t));
  }

  pub checkpoint_ending : IsEnding after.registry after.pending cs ss (cs ++ d ∷ []) ss a d
  checkpoint_ending = ending (cs ++ d ∷ []) ss (with_last cs ss d done_apart not_done_number) (λ z h. ⊎_elim (λ k. ⊎_elim (λ (c : IsIn z cs). inr (IsIn-append_left z cs ss c))
      (λ (e : IsIn z (d ∷ [])). inl (only_one z d e)) (IsIn-append_cases z cs (d ∷ []) k)) (λ k. inr (IsIn-append_right z cs ss k)) (IsIn-append_cases z (cs ++ d ∷ []) ss h))
      (λ z h. ⊎_elim (λ (e : z ≡ d). IsIn-append_left z (cs ++ d ∷ []) ss (IsIn-append_right z cs (d ∷ []) (inl e))) (λ (k : IsIn z (cs ++ ss)). ⊎_elim (λ (c : IsIn z cs).
      IsIn-append_left z (cs ++ d ∷ []) ss (IsIn-append_left z cs (d ∷ []) c)) (λ (c : IsIn z ss). IsIn-append_right z (cs ++ d ∷ []) ss c) (IsIn-append_cases z cs ss k)) h)

  pub savepoint_ending : IsEnding after.registry after.pending cs ss cs (put by_id d ss) a d
  savepoint_ending = ending cs (put by_id d ss) (apart-append cs (put by_id d ss) (apart_left cs ss done_apart) (apart-put d ss (λ y h. not_done_number y (IsIn-append_right y cs ss h))
      (apart_right cs ss done_apart)) (λ x y h k e. ⊎_elim (λ i. not_done_number x (IsIn-append_left x cs ss h) (sym (e ∙ ap (λ w. w.id) i))) (λ l. apart_between cs ss done_apart x y h l e)
      (IsIn-put_cases by_id d y ss k))) (λ z h. ⊎_elim (λ k. inr (IsIn-append_left z cs ss k)) (λ k. ⊎_elim (λ (e : z ≡ d). inl e) (λ (l : IsIn z ss). inr (IsIn-append_right z cs ss l))
      (IsIn-put_cases by_id d z ss k)) (IsIn-append_cases z cs (put by_id d ss) h)) (λ z h. ⊎_elim (λ (e : z ≡ d). rw e (IsIn-append_right d cs (put by_id d ss) (IsIn-put_itself by_id d ss)))
      (λ (k : IsIn z (cs ++ ss)). ⊎_elim (λ (c : IsIn z cs). IsIn-append_left z cs (put by_id d ss) c) (λ (c : IsIn z ss). IsIn-append_right z cs (put by_id d ss) (IsIn-put by_id d z ss c))
      (IsIn-append_cases z cs ss k)) h)

  pub ending_completes : {more_checkpoints more_savepoints : List Record} → IsEnding after.registry after.pending cs ss more_checkpoints more_savepoints a d →
      IsCompleting after.registry after.pending cs ss more_checkpoints more_savepoints (records_in p) a d (with_ack (with_pins p.registry r) s fresh reused)
      (completed (with_pins p.registry r) s fresh reused)
  ending_completes e = record { ending = e; same = refl; its = refl; unpinned = ap (λ ps. record d { pins = ps }) (sym its_no_pins); same_uses = refl; records_are = taken_records t }
