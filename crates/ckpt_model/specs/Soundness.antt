-- What holds for a coordinator's state after the opening, and after each call. What holds for its clock, and for the values
-- of its opening, is in `Images`.
use Rattle.std.specs.Prelude.{◌≡◌, ◌≢◌, ℕ, ◌<◌, ◌≤◌, Bool, true, false, not, ◌&&◌, nat_lt, List, [], ◌++◌, count_by, Some, IfSome, ⊤}
use Rattle.ckpt_ids.specs.declared.limits.TheConstants.{MOMENTS_END, MOST_SAVEPOINTS, NUMBERS_END}
use Rattle.ckpt_ids.specs.declared.ack.Acked.{Acked}
use Rattle.ckpt_ids.specs.declared.call.Call.{Call}
use Rattle.ckpt_ids.specs.declared.call.Call.TheVariants.{Restore, Configure}
use Rattle.ckpt_ids.specs.Acknowledged.{AreInSubtaskOrder}
use Rattle.ckpt_ids.specs.Ascending.{IsAscendingSet}
use Rattle.ckpt_ids.specs.Configuration.{IsWithinLimits}
use Rattle.ckpt_ids.specs.Ordered.{IsIn, IsInOrder, AreDistinct}
use Rattle.ckpt_ids.specs.Records.{Record, IsFull, missing, uses, is_present}
use Rattle.ckpt_ids.specs.Shapes.{IsShape, is_subtask}
use Rattle.ckpt_rules.specs.Trigger.{limit}
use Rattle.ckpt_model.specs.declared.mode.Mode.TheVariants.{Running}
use Rattle.ckpt_model.specs.State.{State, Opening, is_checkpoint, is_pending, is_done_checkpoint, in_outbox}
use Rattle.ckpt_model.specs.Refusals.{is_done_savepoint}

abbrev pub id_before : Record → Record → Bool
id_before r s = nat_lt r.id s.id

-- the acknowledgements of a record come from its own subtasks, each at most once, and name each file once
pub record IsRecord (r : Record) : Type 0 where
  pub shape : IsShape r.shape
  pub acks_in_order : AreInSubtaskOrder r.acks
  pub acks_of_subtasks : (a : Acked) → IsIn a r.acks → is_subtask r.shape a.subtask ≡ true
  pub files : (a : Acked) → IsIn a r.acks → IsAscendingSet a.files
  pub pins : IsAscendingSet r.pins
  -- a pending record lacks an acknowledgement
  pub pending : r.done ≡ false → 0 < missing r
  -- a done one has exactly one of each subtask, and holds no file beside theirs
  pub full : r.done ≡ true → IsFull r
  pub unpinned : r.done ≡ true → r.pins ≡ []

-- a checkpoint that lacks an acknowledgement
abbrev pub is_pending_checkpoint : Record → Bool
is_pending_checkpoint r = is_pending r && is_checkpoint r

-- the records of a coordinator with this opening and this next number
pub record AreSoundRecords (o : Opening) (next : ℕ) (records : List Record) : Type 0 where
  -- numbers rise, from the first to below the next
  pub in_order : IsInOrder id_before records
  pub from_first : (r : Record) → IsIn r records → o.first ≤ r.id
  pub below_next : (r : Record) → IsIn r records → r.id < next
  pub each : (r : Record) → IsIn r records → IsRecord r
  pub started : (r : Record) → IsIn r records → r.started < MOMENTS_END
  -- how many there are
  pub retained : count_by is_done_checkpoint records ≤ o.config.retained
  pub at_once : count_by is_pending_checkpoint records ≤ limit o.config
  pub savepoints_to : count_by (λ r. not (is_checkpoint r)) records ≤ MOST_SAVEPOINTS
  -- each pending checkpoint is newer than all done ones
  pub newer : (r s : Record) → IsIn r records → IsIn s records → is_pending_checkpoint r ≡ true → is_done_checkpoint s ≡ true → s.id < r.id

pub record IsSound (m : State) : Type 0 where
  pub config : IsWithinLimits m.opening.config
  pub shape : IsShape m.shape
  pub latest : m.latest < MOMENTS_END
  -- numbers are given from the first on; no law uses `first`: 0 is no number in the code
  pub first : 1 ≤ m.opening.first
  pub next_from : m.opening.first ≤ m.next
  pub next_to : m.next ≤ NUMBERS_END
  pub records : AreSoundRecords m.opening m.next m.records
  pub base : (id : ℕ) → m.base ≡ Some id → is_done_savepoint m id ≡ true
  -- nothing is pending unless the job runs, and then few checkpoints have failed in a row
  pub idle : m.mode ≢ Running → (r : Record) → IsIn r m.records → r.done ≡ true
  pub failures : m.mode ≡ Running → m.failures ≤ m.opening.config.tolerable
  -- no file that waits for deletion or was fetched for it is in use, and none is there twice
  pub unused : (f : ℕ) → in_outbox m f ≡ true → is_present (uses m.records) f ≡ false
  pub apart : AreDistinct (m.waiting ++ m.taken)

-- A call that can be made: if a restore has a shape, it is a valid shape; and a configuration is within its limits. That the files
-- of an `Ack` ascend is in their type, `Files`, and so no premise here.
abbrev pub IsCall : Call → Type 0
IsCall (Restore now target shape) = IfSome shape IsShape
IsCall (Configure now config) = IsWithinLimits config
IsCall call = ⊤
