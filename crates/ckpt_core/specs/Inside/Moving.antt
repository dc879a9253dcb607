-- What the moves of a call make of the parts.
use Rattle.std.specs.Prelude.{ℕ, ◌+◌, ◌-◌, ◌==◌, max, not, List, [], ◌++◌, filter, length, Some}
use Rattle.ckpt_ids.specs.declared.reply.Reply.{Reply}
use Rattle.ckpt_ids.specs.declared.reply.Reply.TheVariants.{AckCompleted}
use Rattle.ckpt_ids.specs.declared.subtask.SubtaskId.{SubtaskId}
use Rattle.ckpt_ids.specs.Ascending.{ascending}
use Rattle.ckpt_ids.specs.Ordered.{in_order_once, put}
use Rattle.ckpt_ids.specs.Records.{Record, Use, Subtask, released, use_before}
use Rattle.ckpt_registry.specs.Uses.{after_end, triples}
use Rattle.ckpt_store.specs.Storing.{Stored, by_id, completing}
use Rattle.ckpt_core.specs.declared.parts.Parts.{Parts}
use Rattle.ckpt_core.specs.Inside.Parts.{is_noted}
use Rattle.ckpt_model.specs.Reads.{present_in}
use Rattle.ckpt_core.specs.Inside.PendingRecords.{acked}

-- the outbox has room for the files in use and this many more
abbrev pub with_room : Parts → ℕ → Parts
with_room p more = record p { outbox = record p.outbox { spare = max (present_in p.registry + more) p.outbox.spare } }

-- a subtask has taken its part in the pending record of this number
abbrev pub taken_in : Parts → ℕ → ℕ → SubtaskId → List ℕ → List ℕ → Parts
taken_in p now id s fresh reused = record p {
  clock = record p.clock { latest = max now p.clock.latest };
  pending = acked id s (ascending (fresh ++ reused)) p.pending;
  registry = in_order_once use_before (p.registry ++ triples id (Subtask s) (fresh ++ reused));
}

-- these files wait too, and there is room for this many more
abbrev pub with_waiting : Parts → List ℕ → ℕ → Parts
with_waiting p files spare = record p { outbox = record p.outbox { waiting = p.outbox.waiting ++ files; spare = spare } }

-- These uses are left. The files that this releases wait, in reserved places.
-- Here and below, `after` has the room of what the parts keep.
abbrev pub releasing : Parts → List Use → Parts → Parts
releasing p left after =
    let gone : List ℕ = released p.registry left in
    record (with_waiting p gone (p.outbox.spare - length gone)) { registry = left; ended = after.ended }

-- the completed checkpoints are taken out of the store
abbrev pub without_checkpoints : Parts → Parts → Parts
without_checkpoints p after = record p { store = record p.store { checkpoints = []; spare = after.store.spare }; ended = after.ended }

-- a completed checkpoint is kept
abbrev pub with_checkpoint : Parts → Record → Parts → Parts
with_checkpoint p done after = record p { store = completing p.store done after.store.spare; ended = after.ended }

-- a pending record was loaded, and nothing else has changed
abbrev pub with_pending : Parts → Parts → Parts
with_pending p after = record p {
  pending = after.pending;
  registry = after.registry;
  outbox = record p.outbox { spare = after.outbox.spare };
  ended = after.ended;
}

-- a done record was loaded, and nothing else has changed
abbrev pub with_done : Parts → Parts → Parts
with_done p after = record p {
  store = record p.store { checkpoints = after.store.checkpoints; savepoints = after.store.savepoints; spare = after.store.spare };
  registry = after.registry;
  outbox = record p.outbox { spare = after.outbox.spare };
  ended = after.ended;
}

-- the pending record of this number is taken out
abbrev pub without_pending : ℕ → Parts → Parts
without_pending id p = record p { pending = filter (λ r. not (r.id == id)) p.pending }

-- the pending records without those that end
abbrev pub left_pending : List ℕ → List Record → List Record
left_pending gone pending = filter (λ r. not (is_noted gone r)) pending

-- the record is done, and these others have ended
abbrev pub handed_after : Parts → Record → List ℕ → List Record → Parts → Parts
handed_after p done gone pending after = record (releasing p (after_end done.id gone p.registry) after) { pending = pending }

-- the failures are counted anew, and the pause begins
abbrev pub paused : Parts → Parts
paused p = record p { failures = record p.failures { number = 0 }; clock = record p.clock { completed = Some p.clock.latest } }

-- a checkpoint is complete
abbrev pub checkpoint_completed : Parts → Record → List ℕ → Parts → Parts
checkpoint_completed p done gone after = paused (handed_after (with_checkpoint p done after) done gone (left_pending gone p.pending) after)

-- a savepoint is complete
abbrev pub savepoint_completed : Parts → Record → Parts → Parts
savepoint_completed p done after =
    let store : Stored = record p.store { savepoints = put by_id done p.store.savepoints; spare = after.store.spare } in
    record (releasing p (after_end done.id [] p.registry) after) { store = store }

-- the answer to its last acknowledgement
abbrev pub completion : Parts → Record → List ℕ → Reply
completion p done gone = AckCompleted (length gone) (length (released p.registry (after_end done.id gone p.registry)))
