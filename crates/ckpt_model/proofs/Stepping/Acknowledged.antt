-- What an acknowledgement that is accepted for a pending record changes: the record gets it, or is completed by it.
use Rattle.ckpt_model.proofs.Names.{◌≡◌, ℕ, ◌≤◌, true, false, List, [], ◌++◌, refl, arith, Option, Some, list_any, eqb-true, Kind, SubtaskId, ascending, Record, missing, Running, State, is_checkpoint}
use Rattle.ckpt_model.proofs.Names.{drop, Stepped, superseded, cleared, completed_with, acknowledged_in, IsSound, given_as, is_ack_taken, common_steps}
use Rattle.ckpt_ids.specs.declared.numbers.Kind.TheVariants as kind
use Rattle.ckpt_model.proofs.Records.{is_savepoint-kind}
use Rattle.ckpt_model.proofs.Soundness.{is_savepoint, IsAcking, with_ack, ack_pending_is_sound, completed, having, left_by, savepoints_left, completing, completed_is_sound}
use Rattle.ckpt_model.proofs.Histories.Takings.{IsTaken, taken_pending, taken_completed}
use Rattle.ckpt_model.proofs.Histories.Spreads.{IsSpread, pending_spreads, completed_spreads}

pub record IsAcked (m : State) (q : Record) (subtask : SubtaskId) (fresh reused : List ℕ) (x : Stepped) : Type 0 where
  pub opening : (x.0).opening ≡ m.opening
  pub next : (x.0).next ≡ m.next
  pub gives_none : given_as x.1 ≡ []
  pub sound : IsSound m → IsSound x.0
  pub taken : IsSound m → IsTaken m.records q (record { subtask = subtask; files = ascending (fresh ++ reused) }) (x.0).records
  pub spreads : IsSound m → IsSpread m.records m.waiting m.taken x.0 fresh

-- The record is completed, with these settings after.
completed_is : (m : State) (q : Record) (subtask : SubtaskId) (fresh reused : List ℕ) (failures : ℕ) (completed_at base : Option ℕ) → IsAcking m q subtask fresh reused
    → missing (with_ack q subtask fresh reused) ≡ 0 → (IsSound m → (id : ℕ) → base ≡ Some id → list_any (is_savepoint id) (left_by m (completed q subtask fresh reused)) ≡ true)
    → (IsSound m → m.mode ≡ Running → failures ≤ m.opening.config.tolerable) → IsAcked m q subtask fresh reused (
      record (drop (having m (completed q subtask fresh reused)) (superseded (having m (completed q subtask fresh reused)) (completed q subtask fresh reused))
          (Some q.id)) { failures = failures; completed = completed_at; base = base },
      (completed_with (having m (completed q subtask fresh reused)) (completed q subtask fresh reused)).1,
    )
unfolding drop completed_with
completed_is m q subtask fresh reused failures completed_at base a none base_left few = record {
  opening = refl;
  next = refl;
  gives_none = refl;
  sound = λ s. completed_is_sound m q (completed q subtask fresh reused) failures completed_at base s (completing m q subtask fresh reused s a none) (base_left s) (few s);
  taken = λ s. taken_completed m q subtask fresh reused s a;
  spreads = λ s. completed_spreads m q subtask fresh reused failures completed_at base s a;
}

-- a completion: of a checkpoint nothing has failed since, and it is no savepoint that the job was rolled back to
completion_is : (m : State) (q : Record) (subtask : SubtaskId) (fresh reused : List ℕ) → IsAcking m q subtask fresh reused → missing (with_ack q subtask fresh reused) ≡ 0
    → IsAcked m q subtask fresh reused (completed_with (having m (completed q subtask fresh reused)) (completed q subtask fresh reused))
unfolding completed_with drop
completion_is m q subtask fresh reused a none =
    let c : Record = completed q subtask fresh reused in
    let n : State = having m c in
    let by_kind : Kind → State = λ k. cleared (drop n (superseded n c) (Some c.id)) (record c { kind = k }) in
    let left : is_checkpoint c ≡ false → IsSound m → (id : ℕ) → m.base ≡ Some id → list_any (is_savepoint id) (left_by m c) ≡ true = λ e s id base.
    savepoints_left m q c id s (completing m q subtask fresh reused s a none) e (s.base id base) in
    elim q.kind as (λ k. q.kind ≡ k → IsAcked m q subtask fresh reused (by_kind k, (completed_with n c).1)) [
      | kind.Checkpoint ↦ λ _. completed_is m q subtask fresh reused _ _ _ a none (λ s id e. absurd (cc)) (λ s runs. omega (arith, s.failures runs))
      | kind.Savepoint ↦ λ e. completed_is m q subtask fresh reused _ _ _ a none (left (is_savepoint-kind c e)) (λ s runs. omega (arith, s.failures runs))
    ] refl

-- its answer is AckPending or AckCompleted
pub acknowledged_is_taken : (m : State) (w : Record) → is_ack_taken (acknowledged_in m w).1 ≡ true
unfolding acknowledged_in completed_with
acknowledged_is_taken m w = grind (arith, common_steps)

-- an accepted acknowledgement of a pending record
pub acked_is : (m : State) (q : Record) (subtask : SubtaskId) (fresh reused : List ℕ) → IsAcking m q subtask fresh reused
    → IsAcked m q subtask fresh reused (acknowledged_in m (with_ack q subtask fresh reused))
unfolding acknowledged_in
acked_is m q subtask fresh reused a = grind (arith, common_steps, with_ack, completed, having, completion_is, eqb-true, ack_pending_is_sound, taken_pending, pending_spreads) steps 1000000
