-- What is known of a call that is not refused: no row of the table of refusals holds.
use Rattle.ckpt_model.proofs.Names.{◌≡◌, ℕ, ◌+◌, ◌<◌, ◌≤◌, ◌^◌, Bool, true, false, not, ltb, leb, eqb, List, ◌∷◌, ◌++◌, length, find, Option, Some, None, list_any, both_ways, not-false, leb-false}
use Rattle.ckpt_model.proofs.Names.{ltb-false, SubtaskId, Target, Tick, Savepoint, Ack, Decline, Dispose, Restore, Cancel, Deleted, Undeleted, Trigger, Configure, Refusal, MomentTooLarge, TooManyFiles, RepeatedFile}
use Rattle.ckpt_model.proofs.Names.{NameTaken, FileGone, Record, uses, is_present, has_acknowledged, is_subtask, Mode, Running, State, is_known, refusal, refuse_if, first_some, is_running}
use Rattle.ckpt_model.proofs.Names.{has_repeats, pending_of, is_done_savepoint, savepoints, was_not_given, is_foreign, is_repeat, named, where_pending, is_number, Configuration, limit, pending_checkpoints, common_steps, arith}
use Rattle.ckpt_ids.specs.declared.call.Target.TheVariants as target

-- there is none
abbrev IsNone : {X : Type 0} → Option X → Type 0
IsNone o = o ≡ None

-- if no row holds, the first does not, and none of the others does
first_row : (row : Option Refusal) (rows : List (Option Refusal)) → IsNone (first_some (row ∷ rows)) → IsNone row × IsNone (first_some rows)
first_row row rows h2 = grind (arith, common_steps)

-- a row that does not refuse: its test fails
not_refused : (b : Bool) (why : Refusal) → IsNone (refuse_if b why) → b ≡ false
not_refused b why h2 = grind (arith, common_steps)

-- the mode of a job that is not refused NotRunning
runs : (mode : Mode) → not (is_running mode) ≡ false → mode ≡ Running
runs mode h1 = grind (arith, common_steps, both_ways)

-- a row that does not refuse the subtask: it is one of the pending record's
is_of_subtask : (o : Option Record) (s : SubtaskId) → IsNone (is_foreign o s) → (r : Record) → o ≡ Some r → is_subtask r.shape s ≡ true
is_of_subtask o s h2 r h4 = grind (arith, common_steps, not-false, not_refused)

-- a row that does not refuse the acknowledgement: the pending record lacks it
is_first : (o : Option Record) (s : SubtaskId) → IsNone (is_repeat o s) → (r : Record) → o ≡ Some r → has_acknowledged r s ≡ false
is_first o s h2 r h4 = grind (arith, common_steps, not_refused)

-- a row that names no file: none was found
none_named : (why : ℕ → Refusal) (o : Option ℕ) → IsNone (named why o) → IsNone o
none_named why o h2 = grind (arith, common_steps)

-- a row that looks at a pending record, if there is one
none_pending : (o : Option Record) (x : Option Refusal) → IsNone (where_pending o x) → (r : Record) → o ≡ Some r → IsNone x
none_pending o x h2 r h4 = grind (arith, common_steps)

-- an accepted trigger
pub record IsAcceptedTrigger (m : State) (now : ℕ) : Type 0 where
  pub moment : now < 2 ^ 62
  pub running : m.mode ≡ Running
  pub room : m.next < 2 ^ 62

-- of a Tick: the moment is one, the job runs, and there is a number left
pub accepted_tick : (m : State) (now : ℕ) → refusal m (Tick now) ≡ None → IsAcceptedTrigger m now
unfolding refusal
accepted_tick m now h = grind (arith, common_steps)

-- of a Savepoint: the same, and there is room for one
pub accepted_savepoint : (m : State) (now : ℕ) → refusal m (Savepoint now) ≡ None → IsAcceptedTrigger m now × (savepoints m < 1000)
unfolding refusal
accepted_savepoint m now h = grind (arith, common_steps)

-- of a Trigger: the same, and one more may be pending
pub accepted_trigger : (m : State) (now : ℕ) → refusal m (Trigger now) ≡ None → IsAcceptedTrigger m now × (pending_checkpoints m < limit m.opening.config)
unfolding refusal
accepted_trigger m now h = grind (arith, common_steps)

-- of a Configure: the moment is one, and no more are pending than may be from now on
pub accepted_configure : (m : State) (now : ℕ) (config : Configuration) → refusal m (Configure now config) ≡ None → (now < 2 ^ 62) × (pending_checkpoints m ≤ limit config)
unfolding refusal
accepted_configure m now config h = grind (arith, common_steps)

-- an accepted acknowledgement
pub record IsAcceptedAck (m : State) (now id : ℕ) (subtask : SubtaskId) (fresh reused : List ℕ) : Type 0 where
  pub moment : now < 2 ^ 62
  pub few : length fresh + length reused ≤ 4096
  pub once : has_repeats (fresh ++ reused) ≡ false
  pub given : was_not_given m id ≡ false
  pub of_subtask : (r : Record) → pending_of m.records id ≡ Some r → is_subtask r.shape subtask ≡ true
  pub first : (r : Record) → pending_of m.records id ≡ Some r → has_acknowledged r subtask ≡ false
  pub unknown : (r : Record) → pending_of m.records id ≡ Some r → find (is_known m) fresh ≡ None
  pub present : (r : Record) → pending_of m.records id ≡ Some r → find (λ f. not (is_present (uses m.records) f)) reused ≡ None

-- of an Ack: none of its rows holds
pub accepted_ack : (m : State) (now id : ℕ) (subtask : SubtaskId) (fresh reused : List ℕ) → refusal m (Ack now id subtask fresh reused) ≡ None → IsAcceptedAck m now id subtask fresh reused
unfolding refusal
accepted_ack m now id subtask fresh reused h =
    let pending : Option Record = pending_of m.records id in
    let taken : Option Refusal = named NameTaken (find (is_known m) fresh) in
    let gone : Option Refusal = named FileGone (find (λ f. not (is_present (uses m.records) f)) reused) in
    let a = first_row (refuse_if (leb (2 ^ 62) now) MomentTooLarge) _ h in
    let b = first_row (refuse_if (ltb 4096 (length fresh + length reused)) TooManyFiles) _ a.1 in
    let c = first_row (refuse_if (has_repeats (fresh ++ reused)) RepeatedFile) _ b.1 in
    grind (arith, common_steps, first_row, leb-false, not_refused, ltb-false, is_of_subtask, is_first, none_named, none_pending)

-- of a Decline: the moment is one
pub accepted_decline : (m : State) (now id : ℕ) (subtask : SubtaskId) → refusal m (Decline now id subtask) ≡ None → now < 2 ^ 62
unfolding refusal
accepted_decline m now id subtask h = grind (arith, common_steps)

-- of a Dispose: it is a done savepoint, and not the base
pub accepted_dispose : (m : State) (id : ℕ) → refusal m (Dispose id) ≡ None → (is_done_savepoint m id ≡ true) × (is_number m.base id ≡ false)
unfolding refusal
accepted_dispose m id h = grind (arith, common_steps)

-- of a Restore: the moment is one
pub accepted_restore : (m : State) (now : ℕ) (target : Target) (shape : Option (List ℕ)) → refusal m (Restore now target shape) ≡ None → now < 2 ^ 62
unfolding refusal
accepted_restore m now target shape h = grind (arith, common_steps)

-- of a Restore to a savepoint: it is a done one
pub accepted_restore_savepoint : (m : State) (now id : ℕ) (shape : Option (List ℕ)) → refusal m (Restore now (target.Savepoint id) shape) ≡ None → is_done_savepoint m id ≡ true
unfolding refusal
accepted_restore_savepoint m now id shape h = grind (arith, common_steps)

-- of a Cancel: the moment is one
pub accepted_cancel : (m : State) (now : ℕ) → refusal m (Cancel now) ≡ None → now < 2 ^ 62
unfolding refusal
accepted_cancel m now h = grind (arith, common_steps)

-- of an Undeleted: the file was fetched
pub accepted_undeleted : (m : State) (file : ℕ) → refusal m (Undeleted file) ≡ None → list_any (λ f. eqb f file) m.taken ≡ true
unfolding refusal
accepted_undeleted m file h = grind (arith, common_steps)

-- of a Deleted: the file was fetched
pub accepted_deleted : (m : State) (file : ℕ) → refusal m (Deleted file) ≡ None → list_any (λ f. eqb f file) m.taken ≡ true
unfolding refusal
accepted_deleted m file h = grind (arith, common_steps)

-- the other way round, for an acknowledgement

-- an Ack of which no row holds is not refused
pub not_refused-ack : (m : State) (now id : ℕ) (subtask : SubtaskId) (fresh reused : List ℕ) → IsAcceptedAck m now id subtask fresh reused → refusal m (Ack now id subtask fresh reused) ≡ None
unfolding refusal
not_refused-ack m now id subtask fresh reused a = grind (arith, common_steps)
