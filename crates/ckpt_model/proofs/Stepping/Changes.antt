-- What any call changes; and what one that is no acknowledgement changes: nothing, the outbox, or records, by a drop with new settings or by a trigger.
use Rattle.ckpt_model.proofs.Names.{◌≡◌, ◌≢◌, ℕ, ◌+◌, ◌≤◌, Bool, true, false, not, List, [], ◌∷◌, ◌++◌, length, refl, sym, subst, ◌⊎◌, ⊎_elim, Option, Some, None, list_any, not_from_false, SubtaskId}
use Rattle.ckpt_model.proofs.Names.{Configuration, Configure, Kind, Call, Ack, Refusal, Answer, Refused, IsIn, ascending, Record, IsShape, Mode, Running, State, is_checkpoint, is_pending, drop, pins_now, Stepped, triggered}
use Rattle.ckpt_model.proofs.Names.{IsSound, IsCall, given_as, is_ack_taken, common_steps, arith}
use Rattle.std.specs.Prelude as prelude
use Rattle.ckpt_model.proofs.Records.{sound_from, outbox_of, filtered_records}
use Rattle.ckpt_model.proofs.Soundness.{is_savepoint, savepoint_stays, idle_stays, none_pending_left, outbox_filtered, IsAcking}
use Rattle.ckpt_model.proofs.Histories.Moves.{IsMoved, unmoved, dropped_moves, triggered_moves, moves_at, disposed_of, disposed_by}
use Rattle.ckpt_model.proofs.Histories.Takings.{IsTaken}
use Rattle.ckpt_model.proofs.Histories.Spreads.{IsSpread, unspread, drop_spreads, trigger_spreads}
use Rattle.ckpt_model.proofs.Stepping.Files.{registers, hands, deletes, IsSettled, spread_settled, refused_registers, refused_hands, refused_deletes}

-- it gives no number, or the next one
abbrev pub Gives : State → State → List ℕ → Type 0
Gives m n given = ((given ≡ []) × (n.next ≡ m.next)) ⊎ ((given ≡ m.next ∷ []) × (n.next ≡ m.next + 1))

-- an acknowledgement that changes no record
pub record IsPassedOver (m : State) (x : Stepped) : Type 0 where
  pub records : (x.0).records ≡ m.records
  pub not_taken : is_ack_taken x.1 ≡ false

-- so it moves none
pub passed_moves : {m : State} {x : Stepped} → IsPassedOver m x → IsMoved m None (x.0).records
passed_moves {m} i = let After : List Record → Type 0 = IsMoved m None in subst After (sym i.records) (unmoved m None)

-- one that is taken by the pending record of its number
pub record IsTakenBy (m : State) (id : ℕ) (subtask : SubtaskId) (fresh reused : List ℕ) (x : Stepped) : Type 0 where
  pub q : Record
  pub its_id : q.id ≡ id
  pub acking : IsAcking m q subtask fresh reused
  pub taken : IsTaken m.records q (record { subtask = subtask; files = ascending (fresh ++ reused) }) (x.0).records
  pub is_taken : is_ack_taken x.1 ≡ true

-- what a call does to the records
abbrev pub ChangesRecords : State → Call → Stepped → Type 0
ChangesRecords m (Ack now id subtask fresh reused) x = IsPassedOver m x ⊎ IsTakenBy m id subtask fresh reused x
ChangesRecords m call x = IsMoved m (disposed_by call x.1) (x.0).records

-- this is the configuration that the call gives
abbrev pub IsConfigured : Call → Configuration → Type 0
IsConfigured (Configure now its) config = config ≡ its
IsConfigured call config = ⊥

-- what any call changes, whatever its answer
pub record IsStep (m : State) (call : Call) (x : Stepped) : Type 0 where
  -- the opening stays, but for the configuration
  pub opening : record (x.0).opening { config = m.opening.config } ≡ m.opening
  pub config : ((x.0).opening.config ≡ m.opening.config) ⊎ IsConfigured call (x.0).opening.config
  pub gives : Gives m x.0 (given_as x.1)
  pub sound : IsCall call → IsSound m → IsSound x.0
  pub records : IsSound m → ChangesRecords m call x
  pub files : IsSound m → IsSettled m x.0 (registers m call x.1) (hands m call x.0) (deletes call x.1)

-- what a call changes that is no acknowledgement and takes no file out of the outbox
pub record IsPlain (m : State) (call : Call) (n : State) (given : List ℕ) : Type 0 where
  pub opening : record n.opening { config = m.opening.config } ≡ m.opening
  pub config : (n.opening.config ≡ m.opening.config) ⊎ IsConfigured call n.opening.config
  pub gives : Gives m n given
  pub sound : IsCall call → IsSound m → IsSound n
  pub moves : IsSound m → IsMoved m (disposed_of call) n.records
  pub spreads : IsSpread m.records m.waiting m.taken n []

-- it registers and deletes nothing
pub plain_step : {m : State} {call : Call} (x : Stepped) → IsPlain m call x.0 (given_as x.1) → (IsMoved m (disposed_of call) (x.0).records → ChangesRecords m call x) → registers m call x.1 ≡ []
    → hands m call x.0 ≡ prelude.drop (length m.waiting) x.0.waiting → deletes call x.1 ≡ [] → IsStep m call x
plain_step {m} {call} x p moved registered handed deleted = grind (arith, common_steps, hands, registers, spread_settled)

-- it may be taken from the state with the moment of the call
pub plain_at : {m : State} {latest : ℕ} {call : Call} {n : State} {given : List ℕ} → (IsSound m → IsSound (record m { latest = latest })) → IsPlain (record m { latest = latest }) call n given
    → IsPlain m call n given
plain_at {m} {latest} {call} {n} {given} later p = grind (arith, common_steps, disposed_of, moves_at)

-- nothing changes
pub unchanged : (m : State) (call : Call) → IsPlain m call m []
unchanged m call = grind (arith, common_steps, disposed_of, unmoved, unspread)

-- a refused call changes no record
refused_records : (m : State) (call : Call) (why : Refusal) → ChangesRecords m call (m, Refused why)
refused_records m call why = grind (arith, common_steps, unmoved, disposed_by) steps 1000000

-- nor anything else
pub refusal_step : (m : State) (call : Call) (why : Refusal) → IsStep m call (m, Refused why)
refusal_step m call why = plain_step (m, Refused why) (unchanged m call) (λ _. refused_records m call why) (refused_registers m call why) (refused_hands m call) (refused_deletes call why)

-- the outbox alone changes
pub outbox_step : (m : State) (call : Call) (waiting taken : List ℕ) (answer : Answer) → given_as answer ≡ [] → ChangesRecords m call (record m { waiting = waiting; taken = taken }, answer)
    → (IsSound m → IsSound (record m { waiting = waiting; taken = taken }))
    → (IsSound m → IsSettled m (record m { waiting = waiting; taken = taken }) (registers m call answer) (hands m call (record m { waiting = waiting; taken = taken })) (deletes call answer))
    → IsStep m call (record m { waiting = waiting; taken = taken }, answer)
outbox_step m call waiting taken answer none records sound files = grind (arith, common_steps)

-- a drop

-- what a call may set beside the records, the numbers and the outbox
pub record Settings : Type 0 where
  pub shape : List ℕ
  pub mode : Mode
  pub due : ℕ
  pub completed : Option ℕ
  pub failures : ℕ
  pub base : Option ℕ

abbrev pub settings : State → Settings
settings m = record { shape = m.shape; mode = m.mode; due = m.due; completed = m.completed; failures = m.failures; base = m.base }

abbrev pub set : State → Settings → State
set m k = record m { shape = k.shape; mode = k.mode; due = k.due; completed = k.completed; failures = k.failures; base = k.base }

-- the settings fit the records that are left
pub record IsDropping (m : State) (call : Call) (k : Settings) (dropped : Record → Bool) : Type 0 where
  pub shape : IsCall call → IsShape m.shape → IsShape k.shape
  -- the one done savepoint that may be dropped is the one disposed of, and not the base
  pub savepoints : IsSound m → (r : Record) → IsIn r m.records → r.done ≡ true → is_checkpoint r ≡ false → (dropped r ≡ false) ⊎ ((disposed_of call ≡ Some r.id) × (k.base ≡ Some r.id → ⊥))
  pub base : IsSound m → (id : ℕ) → k.base ≡ Some id → list_any (is_savepoint id) m.records ≡ true
  pub idle : k.mode ≢ Running → (m.mode ≢ Running) ⊎ ((r : Record) → is_pending r ≡ true → dropped r ≡ true)
  pub failures : IsSound m → k.mode ≡ Running → k.failures ≤ m.opening.config.tolerable

-- the base is not dropped
base_left : {m : State} {call : Call} {k : Settings} {dropped : Record → Bool} → IsDropping m call k dropped → IsSound m → (id : ℕ) (r : Record) → k.base ≡ Some id → IsIn r m.records
    → is_savepoint id r ≡ true → dropped r ≡ false
base_left {m} {call} {k} {dropped} d s id r e h t = grind (arith, common_steps)

-- so the state after is sound
dropped_is_sound : (m : State) (call : Call) (k : Settings) (dropped : Record → Bool) → IsDropping m call k dropped → IsCall call → IsSound m → IsSound (drop (set m k) dropped None)
unfolding drop
dropped_is_sound m call k dropped d c s =
    sound_from (drop (set m k) dropped None) (record {
      config = s.config;
      shape = d.shape c s.shape;
      latest = s.latest;
      first = s.first;
      next_from = s.next_from;
      next_to = s.next_to;
      failures = d.failures s;
      base = λ id e. savepoint_stays (λ r. r) (λ r. not (dropped r)) id m.records (λ r h t. (not_from_false (dropped r) (base_left d s id r e h t), refl)) (d.base s id e);
      idle = λ ne. ⊎_elim (λ was. idle_stays dropped s was) (λ all. none_pending_left m.records dropped all) (d.idle ne);
    }) (filtered_records (λ r. not (dropped r)) s.records) (outbox_filtered (λ r. not (dropped r)) m.records m.waiting m.taken (outbox_of s))

-- a drop gives no number
pub dropped_is : (m : State) (call : Call) (k : Settings) (dropped : Record → Bool) → IsDropping m call k dropped → IsPlain m call (drop (set m k) dropped None) []
unfolding drop
dropped_is m call k dropped d = grind (arith, common_steps, dropped_is_sound m call k dropped d, drop_spreads (set m k) dropped, dropped_moves m dropped (disposed_of call), d.savepoints) steps 1000000

-- a trigger, after a change that gave no number and left the choice
pub triggered_is : (m k : State) (call : Call) (kind : Kind) (due : ℕ) → IsPlain m call k [] → k.next ≡ m.next → (IsSound m → pins_now k ≡ pins_now m)
    → (IsSound k → IsSound (record (triggered k kind) { due = due })) → IsPlain m call (record (triggered k kind) { due = due }) (k.next ∷ [])
unfolding triggered
triggered_is m k call kind due p next pins sound = grind (arith, common_steps, disposed_of, trigger_spreads, triggered_moves)
