-- The answer of a completion is that of the step.
use Rattle.ckpt_core.proofs.{◌≡◌, ℕ, ◌+◌, ◌-◌, ◌≤◌, Bool, false, not, ◌&&◌, ◌||◌, List, [], ◌++◌, length, refl, sym, ap, ◌∙◌, arith, vec_capacity, length-map, length-filter, count_by-le-length, Ack}
use Rattle.ckpt_core.proofs.{Kind, Done, Reply, SubtaskId, IsIn, put, Record, Use, missing, released, uses, IsIn-from_filter, filter-all, filter-same, after_end, is_ended, by_id, retained_of, Parts}
use Rattle.ckpt_core.proofs.{Answers, AreTied, is_noted, records_in, present_in, State, is_checkpoint, is_subsumed, is_surplus, cleared, dropped_by, replaced, step, superseded, is_savepoint-kind}
use Rattle.ckpt_core.proofs.{count_by-none, with_pins, checkpoint_completed, savepoint_completed, taken_in, completed, with_ack, IsRoomier, IsTaking, moved, now_complete, one_less, roomier_state}
use Rattle.ckpt_core.proofs.{taken_step, taken_tied, IsLast, taken_out, present_after, stays, staying}
use Rattle.ckpt_core.proofs.Names.{state_of}
use Rattle.ckpt_core.proofs.Acknowledging.Moves.{with_instead}
use Rattle.ckpt_core.proofs.Completing.Agrees.{completing_in, finishing, gone_by, row_of, row_rises, superseded_is, superseded_count}
use Rattle.ckpt_core.proofs.Completing.Lists.{IsFinishing, is_past, noted_row, noted_savepoint, others, retained_is}
use Rattle.ckpt_core.proofs.Completing.Moves.{IsEnding, completed_is, kept_records, left_groups, left_records, left_uses, released_files}
use Rattle.ckpt_core.proofs.Completing.Taken.{checkpoint_ending, ending_completes, savepoint_ending}
use Rattle.ckpt_ids.specs.declared.numbers.Kind.TheVariants as kind
use Rattle.ckpt_ids.specs.declared.reply.Reply.TheVariants as reply
use Rattle.ckpt_core.specs.Inside.Completing as completing

fewer_uses : (id : ℕ) (gone : List ℕ) (us : List Use) (u : Use) → IsIn u (after_end id gone us) → IsIn u us
fewer_uses id gone us u h = (IsIn-from_filter (λ v. not (is_ended id gone v)) u us h).0

-- what is cleared, where the kind is known
cleared_by : (m : State) (c : Record) (k : Kind) → c.kind ≡ k → cleared m c ≡ cleared m (record c { kind = k })
cleared_by m c k e = ap (λ x. cleared m (record c { kind = x })) e

none_superseded : (m : State) (c x : Record) → is_checkpoint c ≡ false → superseded m c x ≡ false
none_superseded m c x e = ap (λ b. b && (is_subsumed c.id x || is_surplus m x)) e

module _ {q : Parts} {now id : ℕ} {s : SubtaskId} {fresh reused : List ℕ} {r : Record} (t : IsTaking q now id s fresh reused r) where
  -- the parts after it, the state, the completed record with its pins and without, what is released, and the records that are left
  abbrev after : Parts
  after = taken_in q now id s fresh reused

  abbrev m : State
  m = completing_in q now r s fresh reused

  abbrev c : Record
  c = completed (with_pins q.registry r) s fresh reused

  abbrev d : Record
  d = completed r s fresh reused

  abbrev files : List ℕ → List ℕ
  files gone = released after.registry (after_end r.id gone after.registry)

  abbrev left : List Record → List Record → List ℕ → List Record
  left more_checkpoints more_savepoints gone = left_groups after.registry after.pending more_checkpoints more_savepoints d gone

  abbrev IsEnd : List Record → List Record → Type 0
  IsEnd more_checkpoints more_savepoints = IsEnding after.registry after.pending q.store.checkpoints q.store.savepoints more_checkpoints more_savepoints (with_ack r s fresh reused) d

  -- the step, if the records of these numbers are dropped
  last_step : {p : Parts} {more_checkpoints more_savepoints : List Record} (k : Kind) → IsRoomier p q → missing r ≡ 1 → IsEnd more_checkpoints more_savepoints → r.kind ≡ k →
      (gone : List ℕ) (records : List Record) → ((x : Record) → IsIn x m.records → superseded m c x ≡ is_noted gone x) → dropped_by m (superseded m c) ≡ length gone →
      records ≡ left more_checkpoints more_savepoints gone →
      step (state_of p) (Ack now id s fresh reused)
      ≡ (cleared (record (moved q now) { records = records; waiting = q.outbox.waiting ++ files gone }) (record c { kind = k }), Done (reply.AckCompleted (length gone) (length (files gone))))
  unfolding state_of
  last_step k roomier last e its gone records agree count is =
      let none : missing (with_ack (with_pins q.registry r) s fresh reused) ≡ 0 = omega (arith, one_less t) in let done = ending_completes t e in
      ap (λ n. step n (Ack now id s fresh reused)) (sym (roomier_state roomier)) ∙ taken_step t ∙ now_complete (moved q now) (with_ack (with_pins q.registry r) s fresh reused) none
      ∙ completed_is m c records (files gone) (length gone) (kept_records done (superseded m c) gone agree ∙ sym is) (released_files done (superseded m c) gone agree) count
      ∙ ap (λ n. (n, Done (reply.AckCompleted (length gone) (length (files gone))))) (cleared_by (record (moved q now) { records = records; waiting = q.outbox.waiting ++ files gone }) c k its)

  -- what ties the parts after it
  last_room : present_in q.registry + length fresh ≤ q.outbox.spare → (gone : List ℕ) → present_in (after_end r.id gone after.registry) ≤ q.outbox.spare - length (files gone)
  last_room room gone = omega (arith, present_after after.registry (after_end r.id gone after.registry) (fewer_uses r.id gone after.registry), taken_tied t room)

  last_places : {more_checkpoints more_savepoints : List Record} → present_in q.registry + length fresh ≤ q.outbox.spare → IsEnd more_checkpoints more_savepoints →
      (gone : List ℕ) (records : List Record) → records ≡ left more_checkpoints more_savepoints gone → length records ≤ vec_capacity q.ended
  last_places room e gone records is = let tied : AreTied after = taken_tied t room in let keeps : Record → Bool = λ x. stays gone x.id in let all : List Record = replaced (records_in after) d in
      omega (arith, ap length (is ∙ left_records e gone), length-filter keeps all, count_by-le-length keeps all, length-map (records_in after) (with_instead d))

  -- a checkpoint

  abbrev dropped : List ℕ
  dropped = gone_by q now id s fresh reused r

  checkpoint_records : (then : Parts) → r.kind ≡ kind.Checkpoint → records_in (checkpoint_completed (taken_out q now id s fresh reused r) d dropped then)
      ≡ left (row_of q d) q.store.savepoints dropped
  checkpoint_records then checkpoint = let f : IsFinishing after.registry after.pending q.store (with_ack r s fresh reused) d = finishing t checkpoint in
      let kept_row : staying dropped (row_of q d) ≡ retained_of q.store.retained (row_of q d) = filter-same (λ x. stays dropped x.id) (λ x. not (is_past q.store.retained (row_of q d) x))
      (row_of q d) (λ x h. ap not (noted_row f x h)) ∙ retained_is q.store.retained (row_of q d) (row_rises t checkpoint) in
      let kept_savepoints : staying dropped q.store.savepoints ≡ q.store.savepoints = filter-all (λ x. stays dropped x.id) q.store.savepoints (λ x h. ap not (noted_savepoint f x h)) in
      rw (kept_row, kept_savepoints) refl

  checkpoint_is : {p : Parts} (then : Parts) → IsRoomier p q → missing r ≡ 1 → present_in q.registry + length fresh ≤ q.outbox.spare → r.kind ≡ kind.Checkpoint → then.ended.items ≡ [] →
      vec_capacity then.ended ≡ vec_capacity q.ended → Answers p (checkpoint_completed (taken_out q now id s fresh reused r) d dropped then) (Ack now id s fresh reused)
      (reply.AckCompleted (length dropped) (length (files dropped)))
  unfolding state_of
  checkpoint_is then roomier last room checkpoint none capacity = let records : List Record = records_in (checkpoint_completed (taken_out q now id s fresh reused r) d dropped then) in
      let e = checkpoint_ending t in let is : records ≡ left (row_of q d) q.store.savepoints dropped = checkpoint_records then checkpoint in
      let places : length records ≤ vec_capacity q.ended = last_places room e dropped records is in record {
        step_is = last_step kind.Checkpoint roomier last e checkpoint dropped records (superseded_is t checkpoint) (superseded_count t checkpoint) is;
        tied = record {
          uses_are = left_uses e dropped ∙ ap uses (sym is);
          retained = t.sound.tied.retained;
          tolerable = t.sound.tied.tolerable;
          spare = last_room room dropped;
          room = omega (arith, places, capacity);
        };
        none_ended = none;
      }

  -- a savepoint

  savepoint_records : (then : Parts) → records_in (savepoint_completed (taken_out q now id s fresh reused r) d then) ≡ left q.store.checkpoints (put by_id d q.store.savepoints) []
  savepoint_records then = let whole : (xs : List Record) → staying [] xs ≡ xs = λ xs. filter-all (λ x. stays [] x.id) xs (λ x h. refl) in
      rw (whole (others d.id after.pending), whole q.store.checkpoints, whole (put by_id d q.store.savepoints)) refl

  savepoint_is : {p : Parts} (then : Parts) → IsRoomier p q → missing r ≡ 1 → present_in q.registry + length fresh ≤ q.outbox.spare → r.kind ≡ kind.Savepoint → then.ended.items ≡ [] →
      vec_capacity then.ended ≡ vec_capacity q.ended → Answers p (savepoint_completed (taken_out q now id s fresh reused r) d then) (Ack now id s fresh reused)
      (reply.AckCompleted 0 (length (files [])))
  unfolding state_of
  savepoint_is then roomier last room savepoint none capacity = let records : List Record = records_in (savepoint_completed (taken_out q now id s fresh reused r) d then) in
      let its : (x : Record) → superseded m c x ≡ false = λ x. none_superseded m c x (is_savepoint-kind c savepoint) in let e = savepoint_ending t in
      let is : records ≡ left q.store.checkpoints (put by_id d q.store.savepoints) [] = savepoint_records then in
      let places : length records ≤ vec_capacity q.ended = last_places room e [] records is in record {
        step_is = last_step kind.Savepoint roomier last e savepoint [] records (λ x h. its x) (count_by-none (superseded m c) m.records (λ x h. its x)) is;
        tied = record {
          uses_are = left_uses e [] ∙ ap uses (sym is);
          retained = t.sound.tied.retained;
          tolerable = t.sound.tied.tolerable;
          spare = last_room room [];
          room = omega (arith, places, capacity);
        };
        none_ended = none;
      }

pub checkpoint_answers : {p q then : Parts} {now id : ℕ} {s : SubtaskId} {fresh reused : List ℕ} {r done : Record} (new : Parts) (answer : Reply) → IsRoomier p q →
    IsLast q then now id s fresh reused r done → done.kind ≡ kind.Checkpoint → new ≡ checkpoint_completed then done (completing.superseded_ids then.pending then.store done) new →
    new.ended.items ≡ [] → vec_capacity new.ended ≡ vec_capacity then.ended → answer ≡ reply.AckCompleted (length (completing.superseded_ids then.pending then.store done))
    (length (released then.registry (after_end done.id (completing.superseded_ids then.pending then.store done) then.registry))) → Answers p new (Ack now id s fresh reused) answer
checkpoint_answers {p} {q} {then} {now} {id} {s} {fresh} {reused} {r} {done} new answer roomier l checkpoint is none capacity answered =
    rw (is, answered, l.is, l.done_is) (checkpoint_is l.taking new roomier l.last l.room (sym (ap (λ x. x.kind) l.done_is) ∙ checkpoint) none (capacity ∙ ap (λ x. vec_capacity x.ended) l.is))

pub savepoint_answers : {p q then : Parts} {now id : ℕ} {s : SubtaskId} {fresh reused : List ℕ} {r done : Record} (new : Parts) (answer : Reply) → IsRoomier p q →
    IsLast q then now id s fresh reused r done → done.kind ≡ kind.Savepoint → new ≡ savepoint_completed then done new → new.ended.items ≡ [] → vec_capacity new.ended ≡ vec_capacity then.ended →
    answer ≡ reply.AckCompleted 0 (length (released then.registry (after_end done.id [] then.registry))) → Answers p new (Ack now id s fresh reused) answer
savepoint_answers {p} {q} {then} {now} {id} {s} {fresh} {reused} {r} {done} new answer roomier l savepoint is none capacity answered =
    rw (is, answered, l.is, l.done_is) (savepoint_is l.taking new roomier l.last l.room (sym (ap (λ x. x.kind) l.done_is) ∙ savepoint) none (capacity ∙ ap (λ x. vec_capacity x.ended) l.is))
