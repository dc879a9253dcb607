-- A new configuration keeps a coordinator sound.
use Rattle.ckpt_model.proofs.Names.{common_steps, ◌≡◌, ℕ, ◌≤◌, Bool, true, false, not, ◌&&◌, leb, List, map, refl, arith, count_by, filter, both_ways, and_parts, and_from, not-true, not_from_false}
use Rattle.ckpt_model.proofs.Names.{cases_Bool, Configuration, IsWithinLimits, IsInOrder, Record, limit, State, is_checkpoint, is_done_checkpoint, is_surplus, pending_checkpoints, configure, with_config, drop, IsSound, id_before}
use Rattle.ckpt_model.proofs.Records.{count_by-changed, AreSoundRecords, is_pending_checkpoint, sound_from, outbox_of, filtered_records, later, newest_at_most}
use Rattle.ckpt_model.proofs.Soundness.Drops.{is_savepoint, savepoint_stays, idle_stays, outbox_filtered}

-- what a completion would drop now: a done checkpoint with as many newer ones as are retained
abbrev pub past : ℕ → List Record → Record → Bool
past n rs r = is_done_checkpoint r && leb n (later is_done_checkpoint r rs)

-- no more done checkpoints are left than are retained
few_left : (n : ℕ) (rs : List Record) → IsInOrder id_before rs → count_by is_done_checkpoint (map (λ r. r) (filter (λ r. not (past n rs r)) rs)) ≤ n
few_left n rs order =
    let test : Record → Bool = λ x. is_done_checkpoint x && not (leb n (later is_done_checkpoint x rs)) in
    let fewer = count_by-changed is_done_checkpoint test (λ (x : Record). x) (λ x. not (past n rs x)) rs
    (λ x h k t. grind (arith, common_steps, both_ways, not-true, and_from, not_from_false, cases_Bool)) in
    omega (arith, fewer, newest_at_most is_done_checkpoint n rs order)

-- the records that are left are sound with the new configuration
records_configured : (m : State) (c : Configuration) → IsSound m → pending_checkpoints m ≤ limit c
    → AreSoundRecords (record m.opening { config = c }) m.next (map (λ r. r) (filter (λ r. not (past c.retained m.records r)) m.records))
records_configured m c s few =
    let keep : Record → Bool = λ r. not (past c.retained m.records r) in
    let a : AreSoundRecords m.opening m.next (map (λ r. r) (filter keep m.records)) = filtered_records keep s.records in
    let fewer : count_by is_pending_checkpoint (map (λ r. r) (filter keep m.records)) ≤ pending_checkpoints m =
    count_by-changed is_pending_checkpoint is_pending_checkpoint (λ (x : Record). x) keep m.records (λ x h k t. t) in
    record {
      in_order = a.in_order;
      from_first = a.from_first;
      below_next = a.below_next;
      each = a.each;
      started = a.started;
      savepoints_to = a.savepoints_to;
      newer = a.newer;
      retained = few_left c.retained m.records s.records.in_order;
      at_once = omega (arith, fewer, few);
    }

-- a done savepoint is not past it
savepoint_is_left : (n id : ℕ) (rs : List Record) (r : Record) → is_savepoint id r ≡ true → not (past n rs r) ≡ true
savepoint_is_left n id rs r t = grind (arith, common_steps, both_ways, not-true, and_parts, cases_Bool)

-- the state after
pub configured_is_sound : (m : State) (c : Configuration) → IsWithinLimits c → pending_checkpoints m ≤ limit c → IsSound m → IsSound (configure m c).0
unfolding configure with_config drop
configured_is_sound m c within few s =
    let dropped : Record → Bool = past c.retained m.records in
    sound_from (configure m c).0 (record {
      config = within;
      shape = s.shape;
      latest = s.latest;
      first = s.first;
      next_from = s.next_from;
      next_to = s.next_to;
      failures = λ runs. grind (arith, common_steps);
      base = λ id e. savepoint_stays (λ r. r) (λ r. not (dropped r)) id m.records (λ r h t. (savepoint_is_left c.retained id m.records r t, refl)) (s.base id e);
      idle = λ ne. idle_stays dropped s ne;
    }) (records_configured m c s few) (outbox_filtered (λ r. not (dropped r)) m.records m.waiting m.taken (outbox_of s))
