-- What a completed checkpoint supersedes, as the step has it, is what was noted.
use Rattle.ckpt_core.proofs.Names.{◌≡◌, ℕ, ◌+◌, ◌≤◌, Bool, true, false, not, ◌&&◌, ltb, leb, eqb, List, [], ◌∷◌, ◌++◌, map, length, refl, sym, ap, subst, ◌∙◌, inl, ⊎_elim, arith, count_by, filter}
use Rattle.ckpt_core.proofs.Names.{lt-ltb, and_from, and_right, not_from_false, length-append, length-map, length-filter, SubtaskId, IsIn, Record, IsIn-append_cases, IsIn-append_left}
use Rattle.ckpt_core.proofs.Names.{IsIn-append_right, IsIn-map, IsIn-from_map, IsIn-from_filter, IsIn-in_order, IsIn-from_in_order, IsInOrder-append, AreRising, IsAbove, Parts, is_before, earlier}
use Rattle.ckpt_core.proofs.Names.{surplus, with_pins, grouped, is_noted, records_in, state_of, id_before, State, is_checkpoint, is_done_checkpoint, is_pending, dropped_by, replaced, superseded}
use Rattle.ckpt_core.proofs.Names.{with_records, IsIn-from_find, is_checkpoint-kind, is_savepoint-kind, count_by-none, count_by-same, only_one, taken_in, completed, with_ack, common_steps}
use Rattle.ckpt_core.proofs.Acknowledging.Moves.{replaced_members, still_in_replaced}
use Rattle.ckpt_core.proofs.Acknowledging.States.{IsTaking, moved, taken_records}
use Rattle.ckpt_core.proofs.Completing.Lists.{IsFinishing, is_past, later_in, noted_pending, noted_row, noted_savepoint, others, past_count, past_is_surplus}
use Rattle.ckpt_core.proofs.Completing.Moves.{count_completed}
use Rattle.ckpt_core.proofs.Completing.Taken.{taken_there, taken_apart, taken_groups, checkpoint_ending, ending_completes}
use Rattle.ckpt_core.proofs.Records.Lookups.{AreGroups, has_number}
use Rattle.ckpt_ids.specs.declared.numbers.Kind.TheVariants as kind
use Rattle.ckpt_core.specs.Inside.Completing as completing

-- the tests of the step on one record

abbrev later_done : State → Record → ℕ
later_done m x = count_by (λ s. is_done_checkpoint s && ltb x.id s.id) m.records

superseded_pending : (m : State) (c x : Record) → is_checkpoint c ≡ true → x.done ≡ false → superseded m c x ≡ is_before c.id x
superseded_pending m c x e pending = grind (arith, common_steps)

superseded_checkpoint : (m : State) (c x : Record) → is_checkpoint c ≡ true → x.done ≡ true → is_checkpoint x ≡ true → superseded m c x ≡ leb m.opening.config.retained (later_done m x)
superseded_checkpoint m c x e done checkpoint = grind (arith, common_steps)

superseded_savepoint : (m : State) (c x : Record) → is_checkpoint c ≡ true → x.done ≡ true → is_checkpoint x ≡ false → superseded m c x ≡ false
superseded_savepoint m c x e done savepoint = grind (arith, common_steps)

-- all completed checkpoints, the last one last
abbrev pub row_of : Parts → Record → List Record
row_of p d = p.store.checkpoints ++ d ∷ []

-- the state that the step completes in
abbrev pub completing_in : Parts → ℕ → Record → SubtaskId → List ℕ → List ℕ → State
completing_in p now r s fresh reused = with_records (moved p now) (replaced (records_in p) (completed (with_pins p.registry r) s fresh reused))

-- the numbers that are noted
abbrev pub gone_by : Parts → ℕ → ℕ → SubtaskId → List ℕ → List ℕ → Record → List ℕ
gone_by p now id s fresh reused r = completing.superseded_ids (others r.id (taken_in p now id s fresh reused).pending) p.store (completed r s fresh reused)

module _ {p : Parts} {now id : ℕ} {s : SubtaskId} {fresh reused : List ℕ} {r : Record} (t : IsTaking p now id s fresh reused r) (checkpoint : r.kind ≡ kind.Checkpoint) where
  -- the parts after it, the state, the completed record with its pins and without, the numbers that are noted
  abbrev after : Parts
  after = taken_in p now id s fresh reused

  abbrev m : State
  m = completing_in p now r s fresh reused

  abbrev c : Record
  c = completed (with_pins p.registry r) s fresh reused

  abbrev d : Record
  d = completed r s fresh reused

  abbrev gone : List ℕ
  gone = gone_by p now id s fresh reused r

  abbrev row : List Record
  row = row_of p d

  g : AreGroups after.pending p.store.checkpoints p.store.savepoints
  g = taken_groups t

  -- all others are older
  pub its_above : IsAbove p.store.checkpoints r.id
  unfolding state_of
  its_above c h = let all : List Record = grouped p.registry p.pending p.store.checkpoints p.store.savepoints in let pinned : List Record = map (with_pins p.registry) p.pending in
      let done : List Record = p.store.checkpoints ++ p.store.savepoints in let there = (IsIn-from_find (has_number id) r p.pending t.found).0 in let k = g.checkpoints_done c h in
      t.sound.sound.records.newer (with_pins p.registry r) c (IsIn-in_order id_before (with_pins p.registry r) all (IsIn-append_left (with_pins p.registry r) pinned done
      (IsIn-map (with_pins p.registry) r p.pending there))) (IsIn-in_order id_before c all (IsIn-append_right c pinned done (IsIn-append_left c p.store.checkpoints p.store.savepoints h)))
      (and_from (is_pending r) (is_checkpoint r) (not_from_false r.done ((t.pending r there).not_done)) (is_checkpoint-kind r checkpoint))
      (and_from c.done (is_checkpoint c) k.0 (is_checkpoint-kind c k.1))

  pub finishing : IsFinishing after.registry after.pending p.store (with_ack r s fresh reused) d
  finishing = record { apart = taken_apart t; there = taken_there t; same = refl; above = its_above; rising = t.stored.checkpoints_rise; few = t.stored.few; some = t.stored.retained_from }

  pub row_rises : AreRising row
  row_rises = IsInOrder-append id_before p.store.checkpoints (d ∷ []) t.stored.checkpoints_rise (tt, tt) (λ x y h k. rw (only_one y d k) (lt-ltb x.id d.id (its_above x h)))

  row_is_done : (x : Record) → IsIn x row → (x.done ≡ true) × (is_checkpoint x ≡ true)
  row_is_done x h = ⊎_elim (λ k. let q = g.checkpoints_done x k in
      (q.0, is_checkpoint-kind x q.1)) (λ (k : IsIn x (d ∷ [])). rw (only_one x d k) (refl, is_checkpoint-kind d checkpoint)) (IsIn-append_cases x p.store.checkpoints (d ∷ []) h)

  -- how many pass a test that does not look at pins
  counted : (q : Record → Bool) → ((x : Record) (fs : List ℕ) → q (record x { pins = fs }) ≡ q x) → count_by q m.records ≡ count_by q (others r.id after.pending) +
      (count_by q row + count_by q p.store.savepoints)
  counted q blind = count_completed (ending_completes t (checkpoint_ending t)) q blind

  later_same : (x : Record) → later_done m x ≡ later_in row x
  later_same x = let later : Record → Bool = λ y. is_done_checkpoint y && ltb x.id y.id in
      let none_pending : count_by later (others r.id after.pending) ≡ 0 = count_by-none later (others r.id after.pending) (λ y h.
      ap (λ b. (b && is_checkpoint y) && ltb x.id y.id) (g.not_done y (IsIn-from_filter (λ q. not (eqb q.id r.id)) y after.pending h).0)) in
      let no_savepoint : count_by later p.store.savepoints ≡ 0 = count_by-none later p.store.savepoints (λ y h. ap (λ b. b && ltb x.id y.id)
      (and_right y.done (is_checkpoint y) (is_savepoint-kind y (g.savepoints_done y h).1))) in let of_row : count_by later row ≡ later_in row x = count_by-same later (λ y. ltb x.id y.id) row (λ y h.
      let k = row_is_done y h in ap (λ b. b && ltb x.id y.id) (and_from y.done (is_checkpoint y) k.0 k.1)) in omega (arith, counted later (λ y fs. refl))

  -- the tests agree
  pub superseded_is : (x : Record) → IsIn x m.records → superseded m c x ≡ is_noted gone x
  unfolding state_of
  superseded_is x h = let pinned : List Record = map (with_pins after.registry) after.pending in let done : List Record = p.store.checkpoints ++ p.store.savepoints in
      let its : is_checkpoint c ≡ true = is_checkpoint-kind c checkpoint in let Agree : Record → Type 0 = λ y. superseded m c y ≡ is_noted gone y in
      let fits : length row ≤ p.store.retained + 1 = omega (arith, length-append p.store.checkpoints (d ∷ []), t.stored.few) in
      let surplus_is : (y : Record) → IsIn y row →
      leb m.opening.config.retained (later_done m y) ≡ is_noted gone y =
      λ y k. rw (later_same y, ← t.sound.tied.retained, past_is_surplus p.store.retained row y row_rises fits t.stored.retained_from k, ← noted_row finishing y k) in
      let completed : (y : Record) → IsIn y p.store.checkpoints → Agree y = λ y k. let q = g.checkpoints_done y k in
      superseded_checkpoint m c y its q.0 (is_checkpoint-kind y q.1) ∙ surplus_is y (IsIn-append_left y p.store.checkpoints (d ∷ []) k) in
      let itself : Agree c = superseded_checkpoint m c c its refl its ∙ surplus_is d (IsIn-append_right d p.store.checkpoints (d ∷ []) (inl refl)) in
      let saved : (y : Record) → IsIn y p.store.savepoints → Agree y = λ y k. superseded_savepoint m c y its (g.savepoints_done y k).0 (is_savepoint-kind y (g.savepoints_done y k).1)
      ∙ sym (noted_savepoint finishing y k) in
      let waiting : (y : Record) → IsIn y after.pending → Agree (with_pins after.registry y) = λ y k. superseded_pending m c (with_pins after.registry y) its (g.not_done y k)
      ∙ sym (noted_pending finishing y k) in let of_pending : IsIn x pinned → Agree x = λ (k : IsIn x pinned). let q = IsIn-from_map (with_pins after.registry) x after.pending k in
      subst Agree (sym q.2) (waiting q.0 q.1) in
      let of_done : IsIn x done → Agree x = λ (k : IsIn x done). ⊎_elim (completed x) (saved x) (IsIn-append_cases x p.store.checkpoints p.store.savepoints k) in
      let other : IsIn x (records_in p) × (x.id ≡ c.id → ⊥) → Agree x = λ (k : IsIn x (records_in p) × (x.id ≡ c.id → ⊥)).
      let there : IsIn x (records_in after) = rw (taken_records t) (still_in_replaced (records_in p) (with_ack (with_pins p.registry r) s fresh reused) x k.0 k.1) in
      ⊎_elim of_pending of_done (IsIn-append_cases x pinned done (IsIn-from_in_order id_before x (grouped after.registry after.pending p.store.checkpoints p.store.savepoints) there)) in
      ⊎_elim (λ (e : x ≡ c). subst Agree (sym e) itself) other (replaced_members (records_in p) c x h)

  -- how many they are
  pub superseded_count : dropped_by m (superseded m c) ≡ length gone
  superseded_count = let left : List Record = others r.id after.pending in
      let of_pending : count_by (is_noted gone) left ≡ length (filter (is_before d.id) left) = count_by-same (is_noted gone) (is_before d.id) left
      (λ y h. noted_pending finishing y (IsIn-from_filter (λ q. not (eqb q.id r.id)) y after.pending h).0) ∙ sym (length-filter (is_before d.id) left) in
      let of_row : count_by (is_noted gone) row ≡ length (surplus p.store d) = count_by-same (is_noted gone) (is_past p.store.retained row) row (noted_row finishing)
      ∙ past_count p.store.retained row row_rises in
      let all : count_by (superseded m c) m.records ≡ count_by (is_noted gone) m.records = count_by-same (superseded m c) (is_noted gone) m.records superseded_is in
      let of_savepoints : count_by (is_noted gone) p.store.savepoints ≡ 0 = count_by-none (is_noted gone) p.store.savepoints (noted_savepoint finishing) in
      omega (arith, counted (is_noted gone) (λ y fs. refl), length-append (earlier d.id left) (surplus p.store d), length-map (filter (is_before d.id) left) (λ (q : Record). q.id))
