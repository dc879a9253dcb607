-- What the completion of a record may rely on.
use Rattle.ckpt_core.proofs.Names.{◌≡◌, ℕ, ◌+◌, ◌<◌, ◌≤◌, ◌^◌, max, true, false, eqb, List, [], ◌++◌, length, sym, ap, ◌∙◌, ⊎_elim, arith, Some, find, vec_capacity, eqb-true, eq-eqb, ltb-true}
use Rattle.ckpt_core.proofs.Names.{or_parts, not_from_true, false_from_ne_true, length-map, length-filter, Ack, SubtaskId, ascending, IsIn, IsInOrder, Record, Use, Subtask, count, is_present, missing}
use Rattle.ckpt_core.proofs.Names.{uses, IsIn-append_cases, IsIn-append_right, IsIn-from_list_any, IsIn-from_in_order_once, is_known, IsPending, triples, Stored, IsAbove, IsStored, has_id}
use Rattle.ckpt_core.proofs.Names.{has_savepoint, LiesAt, id_of, Parts, IsMissing, with_pins, AreSound, AreTied, IsAccepted, records_in, state_of, present_in, id_before, in_outbox, IsAcking, with_ack}
use Rattle.ckpt_core.proofs.Names.{IsIn-from_counted, taken_in, completed, common_steps}
use Rattle.ckpt_core.proofs.Acknowledging.Moves.{with_instead}
use Rattle.ckpt_core.proofs.Acknowledging.States.{IsRoomier, IsTaking, its_number, room_made, taking_from, one_less, taken_records, taken_tied, taking}
use Rattle.ckpt_core.proofs.Acknowledging.Takes.{acked_in_order, lies_acked, found_acked}
use Rattle.ckpt_core.proofs.Completing.Agrees.{its_above}
use Rattle.ckpt_core.proofs.Completing.Lists.{fewer, others}
use Rattle.ckpt_core.proofs.Completing.Taken.{taken_there, not_done_number}
use Rattle.ckpt_core.proofs.Ending.Drops.{none_known}
use Rattle.ckpt_core.proofs.Ending.HandOut.{present-from_use}
use Rattle.ckpt_core.proofs.Records.Lookups.{has_number, length-records_of}
use Rattle.ckpt_core.proofs.Triggering.TriggerParts.{live_records}
use Rattle.ckpt_core.proofs.Using.Order.{from_holds}
use Rattle.ckpt_ids.specs.declared.numbers.Kind.TheVariants as kind

-- the parts without the pending record
abbrev pub taken_out : Parts → ℕ → ℕ → SubtaskId → List ℕ → List ℕ → Record → Parts
taken_out p now id s fresh reused r = record (taken_in p now id s fresh reused) { pending = others r.id (taken_in p now id s fresh reused).pending }

-- it was given its last acknowledgement, and was taken out as done
pub record IsLast (p then : Parts) (now id : ℕ) (s : SubtaskId) (fresh reused : List ℕ) (r done : Record) : Type 0 where
  pub taking : IsTaking p now id s fresh reused r
  pub last : missing r ≡ 1
  pub room : present_in p.registry + length fresh ≤ p.outbox.spare
  pub place : 1 ≤ p.store.spare
  pub is : then ≡ taken_out p now id s fresh reused r
  pub done_is : done ≡ completed r s fresh reused

-- before it is taken out
-- the record lies where it lay, and the order is the same
pub lies_taken : {id place : ℕ} (p then : Parts) (now : ℕ) (s : SubtaskId) (fresh reused : List ℕ) → LiesAt id_of id p.pending place → then ≡ taken_in p now id s fresh reused →
    LiesAt id_of id then.pending place
lies_taken {id} {place} p then now s fresh reused lies is = rw is (lies_acked id s (ascending (fresh ++ reused)) p.pending place lies)

pub order_taken : (id : ℕ) (p then : Parts) (now : ℕ) (s : SubtaskId) (fresh reused : List ℕ) → IsInOrder id_before p.pending → then ≡ taken_in p now id s fresh reused →
    IsInOrder id_before then.pending
order_taken id p then now s fresh reused order is = rw is (acked_in_order id s (ascending (fresh ++ reused)) p.pending order)

pub none_missing : {p : Parts} {now id : ℕ} {s : SubtaskId} {fresh reused : List ℕ} {r : Record} (then : Parts) → IsTaking p now id s fresh reused r → missing r ≡ 1 →
    then ≡ taken_in p now id s fresh reused → IsMissing then.pending id 0
none_missing {p} {now} {id} {s} {fresh} {reused} {r} then t last is =
    rw is (record { lacking = with_ack r s fresh reused; found = found_acked id s (ascending (fresh ++ reused)) r p.pending t.found; counted = omega (arith, one_less t) })

pub is_last : {p : Parts} {now id : ℕ} {s : SubtaskId} {fresh reused : List ℕ} {r : Record} (then after : Parts) (done : Record) → IsTaking p now id s fresh reused r → missing r ≡ 1 →
    present_in p.registry + length fresh ≤ p.outbox.spare → 1 ≤ p.store.spare → then ≡ taken_in p now id s fresh reused → ((q : Record) → find (has_number id) then.pending ≡ Some q →
    done ≡ record q { done = true }) → after ≡ record then { pending = others id then.pending } → IsLast p after now id s fresh reused r done
is_last {p} {now} {id} {s} {fresh} {reused} {r} then after done t last room place is finished out = grind (arith, common_steps, found_acked, has_number, its_number, others, taking, with_ack)

module _ {p : Parts} {now id : ℕ} {s : SubtaskId} {fresh reused : List ℕ} {r : Record} (t : IsTaking p now id s fresh reused r) where
  abbrev after : Parts
  after = taken_in p now id s fresh reused

  -- nothing in use is in the outbox
  taken_unknown : (f : ℕ) → is_present after.registry f ≡ true → is_known p.outbox f ≡ false
  unfolding state_of
  taken_unknown f h = let k : IsAcking (state_of p) (with_pins p.registry r) s fresh reused = taking t in let added : List Use = triples id (Subtask s) (fresh ++ reused) in
      let q = IsIn-from_counted (λ (u : Use). eqb u.file f) after.registry (ltb-true 0 (count after.registry f) h) in
      let none : (g : ℕ) → is_present p.registry g ≡ true → is_known p.outbox g ≡ false = none_known p t.sound.tied t.sound.sound in
      let its : is_known p.outbox q.0.file ≡ false = ⊎_elim (λ (a : IsIn q.0 p.registry). none q.0.file (present-from_use q.0 p.registry a))
      (λ (b : IsIn q.0 added). ⊎_elim (λ c. (or_parts (is_present (uses (records_in p)) q.0.file) (in_outbox (state_of p) q.0.file) (k.unknown q.0.file c)).1)
      (λ c. none q.0.file (ap (λ vs. is_present vs q.0.file) t.sound.tied.uses_are ∙ k.present q.0.file c)) (IsIn-append_cases q.0.file fresh reused
      (from_holds id (Subtask s) (fresh ++ reused) q.0 b).2)) (IsIn-append_cases q.0 p.registry added (IsIn-from_in_order_once _ q.0 (p.registry ++ added) q.1)) in
      ap (is_known p.outbox) (sym (eqb-true q.0.file f q.2)) ∙ its

  -- there are few records
  taken_few : length (records_in after) ≤ 2064
  taken_few = grind (arith, common_steps, length-map, live_records, taken_records, with_ack, with_instead)

  fewer_pending : length (others r.id after.pending) + 1 ≤ length (records_in after)
  fewer_pending = grind (arith, common_steps, eq-eqb, fewer, length-filter, length-records_of, not_from_true, taken_there, with_ack)

-- what is required of both
pub record CanComplete (then : Parts) : Type 0 where
  pub room : 1 ≤ then.store.spare
  pub unknown : (f : ℕ) → is_present then.registry f ≡ true → is_known then.outbox f ≡ false
  pub spare : present_in then.registry ≤ then.outbox.spare
  pub none_ended : then.ended.items ≡ []
  pub places : length then.pending + 1 ≤ vec_capacity then.ended
  pub few : length then.pending + 1 < 2 ^ 32
  pub few_savepoints : length then.store.savepoints + 1 < 2 ^ 32

module _ {p then : Parts} {now id : ℕ} {s : SubtaskId} {fresh reused : List ℕ} {r done : Record} (l : IsLast p then now id s fresh reused r done) where
  pub can_complete : CanComplete then
  can_complete = let t : IsTaking p now id s fresh reused r = l.taking in let after : Parts = taken_in p now id s fresh reused in let tied : AreTied after = taken_tied t l.room in
      let all : length (records_in after) ≡ length after.pending + (length p.store.checkpoints + length p.store.savepoints) =
      length-records_of after.registry after.pending p.store.checkpoints p.store.savepoints in rw l.is (record {
        room = l.place;
        unknown = taken_unknown t;
        spare = tied.spare;
        none_ended = t.sound.none_ended;
        places = omega (arith, fewer_pending t, tied.room);
        few = omega (arith, fewer_pending t, taken_few t);
        few_savepoints = omega (arith, all, taken_few t);
      })

  -- of a checkpoint
  pub last_above : done.kind ≡ kind.Checkpoint → IsAbove then.store.checkpoints done.id
  last_above checkpoint = rw l.is (rw l.done_is (its_above l.taking (sym (ap (λ x. x.kind) l.done_is) ∙ checkpoint)))

  -- of a savepoint
  pub last_new : has_savepoint then.store done.id ≡ false
  last_new = ap (λ x. has_savepoint x.store done.id) l.is ∙ ap (λ x. has_savepoint p.store x.id) l.done_is ∙ false_from_ne_true (has_savepoint p.store r.id)
      (λ (h : has_savepoint p.store r.id ≡ true). let q = IsIn-from_list_any (has_id r.id) p.store.savepoints h in
      not_done_number l.taking q.0 (IsIn-append_right q.0 p.store.checkpoints p.store.savepoints q.1) (sym (eqb-true q.0.id r.id q.2)))

-- room was made in the outbox, then in the store
pub made_place : (p q : Parts) (more : ℕ) (store : Stored) → q ≡ record p { outbox = record p.outbox { spare = max (present_in p.registry + more) p.outbox.spare } } →
    store ≡ record q.store { spare = store.spare } → IsRoomier p (record q { store = store })
made_place p q more store made kept = grind (arith, common_steps)

-- all that the calls left
pub last_made : {id : ℕ} (p q then after : Parts) (done : Record) (now : ℕ) (s : SubtaskId) (fresh reused : List ℕ) (more : ℕ) (store : Stored) → AreSound p →
    IsAccepted p (Ack now id s fresh reused) → (w : IsMissing p.pending id 1) → more ≡ length fresh →
    q ≡ record p { outbox = record p.outbox { spare = max (present_in p.registry + more) p.outbox.spare } } → store ≡ record q.store { spare = store.spare } → 1 ≤ store.spare →
    ((x : Record) → IsIn x q.pending → IsPending x) → IsInOrder id_before q.pending → IsStored store → then ≡ taken_in (record q { store = store }) now id s fresh reused →
    ((x : Record) → find (has_number id) then.pending ≡ Some x → done ≡ record x { done = true }) → after ≡ record then { pending = others id then.pending } →
    IsLast (record q { store = store }) after now id s fresh reused w.lacking done
last_made {id} p q then after done now s fresh reused more store sound accepted w counted made kept place pending order stored is finished out =
    let room : present_in q.registry + length fresh ≤ q.outbox.spare = omega (arith, room_made p q more made, counted) in
    is_last then after done (taking_from now s fresh reused (made_place p q more store made kept) sound accepted pending order stored w) w.counted room place is finished out
