-- What becomes of a checkpoint that is done: it is kept, and a restart takes the newest.
use Rattle.std.specs.Prelude.{◌≡◌, ℕ, ◌≤◌, Bool, true, false, not, ◌&&◌, nat_lt, nat_le, List, [], ◌∷◌, count_by, Option, Some, None, ⊤}
use Rattle.std.specs.List.{list_any}
use Rattle.ckpt_ids.specs.declared.call.Target.TheVariants as target
use Rattle.ckpt_ids.specs.declared.call.Call.{Call}
use Rattle.ckpt_ids.specs.declared.call.Call.TheVariants.{Ack, Restore, Cancel, Configure}
use Rattle.ckpt_ids.specs.declared.reply.Choice.TheVariants as choice
use Rattle.ckpt_ids.specs.declared.reply.Reply.TheVariants as reply
use Rattle.ckpt_ids.specs.declared.reply.Answer.{Answer}
use Rattle.ckpt_ids.specs.declared.reply.Answer.TheVariants.{Done, Refused}
use Rattle.ckpt_ids.specs.Ordered.{IsIn}
use Rattle.ckpt_ids.specs.Records.{Record}
use Rattle.ckpt_model.specs.State.{State, is_checkpoint, is_done_checkpoint, record_of, choice_of}
use Rattle.ckpt_model.specs.Steps.{Stepped, step}
use Rattle.ckpt_model.specs.Histories.{replay}
use Rattle.ckpt_model.specs.Laws.{Part, ack_of}
use Rattle.ckpt_model.specs.Interleavings.{is_completing}

-- the live done checkpoint with the greatest number
pub record IsNewest (r : Record) (m : State) : Type 0 where
  pub live : IsIn r m.records
  pub done : is_done_checkpoint r ≡ true
  pub greatest : (s : Record) → IsIn s m.records → is_done_checkpoint s ≡ true → s.id ≤ r.id

-- a done checkpoint is live
abbrev pub has_done_checkpoint : State → Bool
has_done_checkpoint m = list_any is_done_checkpoint m.records

-- what a restart takes
pub record TakesNewest (m : State) : Type 0 where
  -- the newest done checkpoint
  pub checkpoint : has_done_checkpoint m ≡ true → (r : Record) × IsNewest r m × (choice_of m ≡ choice.Checkpoint r.id)
  -- if there is none, the savepoint that the job was rolled back to
  pub savepoint : has_done_checkpoint m ≡ false → (id : ℕ) → m.base ≡ Some id → choice_of m ≡ choice.Savepoint id
  -- if there is none either, nothing
  pub fresh : has_done_checkpoint m ≡ false → m.base ≡ None → choice_of m ≡ choice.Fresh

-- the answer of a call that is not refused
abbrev pub is_accepted : Answer → Bool
is_accepted (Done reply) = true
is_accepted (Refused why) = false

-- what an accepted restore answers, and leaves as what the next one takes
pub record Restores (m : State) (now : ℕ) (shape : Option (List ℕ)) : Type 0 where
  -- to the latest checkpoint: what a restart took before
  pub latest : let x : Stepped = step m (Restore now target.Latest shape) in
      is_accepted x.1 ≡ true → (choice_of x.0 ≡ choice_of m) × ((released : ℕ) × (x.1 ≡ Done (reply.Restored (choice_of m) released)))
  -- to a savepoint: that one
  pub savepoint : (id : ℕ) → let x : Stepped = step m (Restore now (target.Savepoint id) shape) in
      is_accepted x.1 ≡ true → (choice_of x.0 ≡ choice.Savepoint id) × ((released : ℕ) × (x.1 ≡ Done (reply.Restored (choice.Savepoint id) released)))

-- An acknowledgement that is answered AckCompleted leaves the record of its number live and done. If that is a
-- checkpoint, a restart takes it.
abbrev pub LeavesDone : State → ℕ → ℕ → Part → Type 0
LeavesDone m now id p =
    let x : Stepped = step m (ack_of now id p) in
    is_completing x.1 ≡ true
    → (r : Record) × (record_of x.0 id ≡ Some r) × (r.done ≡ true) × (is_checkpoint r ≡ true → choice_of x.0 ≡ choice.Checkpoint id)

-- how many live done checkpoints have a greater number
abbrev pub newer_than : ℕ → State → ℕ
newer_than id m = count_by (λ s. is_done_checkpoint s && nat_lt id s.id) m.records

-- A call that may drop the done checkpoint of this number: an accepted Restore to a savepoint, an accepted Cancel of a
-- job that does not keep them, an acknowledgement that completes a record and leaves as many newer ones as are
-- retained, and an accepted Configure with as many newer ones as are retained from then on.
abbrev pub may_drop : ℕ → State → Call → Bool
may_drop id m (Restore now (target.Savepoint its_id) shape) = is_accepted (step m (Restore now (target.Savepoint its_id) shape)).1
may_drop id m (Cancel now) = is_accepted (step m (Cancel now)).1 && not m.opening.config.keep_on_cancel
may_drop id m (Ack now its_id subtask fresh reused) =
    let x : Stepped = step m (Ack now its_id subtask fresh reused) in
    is_completing x.1 && nat_le m.opening.config.retained (newer_than id x.0)
may_drop id m (Configure now config) = is_accepted (step m (Configure now config)).1 && nat_le config.retained (newer_than id m)
may_drop id m call = false

-- a live done checkpoint stays, unchanged, through every call that may not drop it
abbrev pub Keeps : State → Call → Type 0
Keeps m call = (r : Record) → IsIn r m.records → is_done_checkpoint r ≡ true → may_drop r.id m call ≡ false → IsIn r (step m call).0.records

-- none of these calls may drop it
abbrev pub NoneMayDrop : ℕ → State → List Call → Type 0
NoneMayDrop id m [] = ⊤
NoneMayDrop id m (call ∷ calls) = (may_drop id m call ≡ false) × NoneMayDrop id (step m call).0 calls

-- and so it does through a list of such calls
abbrev pub KeepsThrough : State → List Call → Type 0
KeepsThrough m calls = (r : Record) → IsIn r m.records → is_done_checkpoint r ≡ true → NoneMayDrop r.id m calls → IsIn r (replay m calls).records
