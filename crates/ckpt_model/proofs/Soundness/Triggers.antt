-- Triggering a checkpoint or savepoint keeps a coordinator sound, and when a tick may trigger one.
use Rattle.ckpt_model.proofs.Names.{◌≡◌, ℕ, ◌+◌, ◌<◌, ◌≤◌, ◌^◌, false, not, ◌&&◌, ltb, leb, List, [], ◌∷◌, ◌++◌, map, sum, length, refl, inl, arith, count_by, Option, Some, None, and_left, or_left}
use Rattle.ckpt_model.proofs.Names.{sum_by-cons, list_any-append, append-nil, Kind, Choice, Configuration, IsIn, IsAscendingSet, Record, Use, uses, missing, IsShape, numbers_in_order}
use Rattle.ckpt_model.proofs.Names.{length-subtasks_from, IsIn-append_cases, IsIn-from_map, IsIn-from_in_order_once, IsInOrder-in_order_once, hold, limit, Go, Running, State, is_checkpoint}
use Rattle.ckpt_model.proofs.Names.{is_pending, is_expired, files_of, chosen, choice_of, pins_now, savepoints, triggered, pending_checkpoints, IsSound, IsRecord, count_by-append, counted-from_IsIn}
use Rattle.ckpt_model.proofs.Names.{common_steps}
use Rattle.ckpt_ids.specs.declared.numbers.Kind.TheVariants as kind
use Rattle.ckpt_model.proofs.Records.{IsIn-from_find, IsHeld, Holds-from_use, absent-from_not_held, not_held, AreSoundRecords, IsSoundOutbox, sound_from, outbox_of, appended_records}
use Rattle.ckpt_model.proofs.Records.{is_pending_checkpoint}
use Rattle.ckpt_model.proofs.Soundness.Drops.{is_savepoint}

-- the files of a choice are held by live records

-- a file of a live record is held
pub held-from_files_of : (f : ℕ) (o : Option Record) (rs : List Record) → ((r : Record) → o ≡ Some r → IsIn r rs) → IsIn f (files_of o) → IsHeld f rs
held-from_files_of f None rs there h = absurd h
held-from_files_of f (Some r) rs there h =
    let file : Use → ℕ = λ u. u.file in
    let q = IsIn-from_map file f (uses (r ∷ [])) (IsIn-from_in_order_once ltb f (map file (uses (r ∷ []))) h) in
    grind (arith, common_steps, append-nil, there r, Holds-from_use q.0 r)

-- the record of a choice is live
pub chosen_in : (m : State) (c : Choice) (r : Record) → chosen c m ≡ Some r → IsIn r m.records
chosen_in m c r h3 = grind (arith, common_steps, IsIn-from_find)

-- so what a new record pins is held
pub held-from_pins : (m : State) (f : ℕ) → IsIn f (pins_now m) → IsHeld f m.records
unfolding pins_now
held-from_pins m f h = held-from_files_of f (chosen (choice_of m) m) m.records (chosen_in m (choice_of m)) h

-- the files of a record are ascending
ascending-files_of : (o : Option Record) → IsAscendingSet (files_of o)
ascending-files_of o = grind (arith, common_steps, IsInOrder-in_order_once, numbers_in_order)

-- so are the pins
pub ascending-pins : (m : State) → IsAscendingSet (pins_now m)
unfolding pins_now
ascending-pins m = ascending-files_of (chosen (choice_of m) m)

-- a shape has a subtask

-- a list that is not empty has an element
some_element : {X : Type 0} (xs : List X) → 0 < length xs → (x : X) × IsIn x xs
some_element [] h = absurd (omega arith)
some_element (x ∷ xs) h = (x, inl refl)

-- a shape has a size above 0
some_size : (shape : List ℕ) → IsShape shape → 0 < sum shape
some_size shape h1 = grind (arith, common_steps, sum_by-cons)

-- a record with no acknowledgement lacks one
pub missing_at_first : (r : Record) → r.acks ≡ [] → IsShape r.shape → 0 < missing r
missing_at_first r none s = grind (arith, common_steps, counted-from_IsIn, length-subtasks_from, some_element, some_size)

-- the record that is triggered

-- a record of this kind, triggered now
abbrev pub new_record : State → Kind → Record
new_record m kind = record { id = m.next; kind = kind; done = false; shape = m.shape; started = m.latest; acks = []; pins = pins_now m }

-- it is a sound record
new_record_is : (m : State) (kind : Kind) → IsSound m → IsRecord (new_record m kind)
new_record_is m kind s = grind (arith, common_steps, missing_at_first (new_record m kind) refl s.shape, ascending-pins m, s.shape)

-- the records with it are sound, if there is room for it
records_triggered : (m : State) (kind : Kind) → IsSound m → count_by is_pending_checkpoint (m.records ++ new_record m kind ∷ []) ≤ limit m.opening.config
    → count_by (λ r. not (is_checkpoint r)) (m.records ++ new_record m kind ∷ []) ≤ 1000 → AreSoundRecords m.opening (m.next + 1) (m.records ++ new_record m kind ∷ [])
records_triggered m kind s at_once savepoints_to = appended_records (new_record m kind) s.records s.next_from refl refl (new_record_is m kind s) s.latest at_once savepoints_to

-- and so is the outbox
pub outbox_triggered : (m : State) (kind : Kind) → IsSound m → IsSoundOutbox (m.records ++ new_record m kind ∷ []) m.waiting m.taken
outbox_triggered m kind s =
    let o = outbox_of s in
    record {
      unused = λ f h. absent-from_not_held f (m.records ++ new_record m kind ∷ []) (λ k.
          grind (arith, common_steps, not_held f m.records (o.unused f h), held-from_pins m f, IsIn-append_cases k.0 m.records (new_record m kind ∷ []) k.1) steps 1000000);
      apart = o.apart;
    }

-- a trigger, if the job runs and there is room
triggered_is_sound : (m : State) (kind : Kind) (due : ℕ) → IsSound m → m.mode ≡ Running → m.next < 2 ^ 62
    → count_by is_pending_checkpoint (m.records ++ new_record m kind ∷ []) ≤ limit m.opening.config → count_by (λ r. not (is_checkpoint r)) (m.records ++ new_record m kind ∷ []) ≤ 1000
    → IsSound (record (triggered m kind) { due = due })
unfolding triggered
triggered_is_sound m kind due s running room at_once savepoints_to =
    sound_from (record (triggered m kind) { due = due }) (grind (arith, common_steps, list_any-append, is_savepoint, or_left)) (records_triggered m kind s at_once savepoints_to)
    (outbox_triggered m kind s)

-- a checkpoint, if one more may be pending
pub checkpoint_is_sound : (m : State) (due : ℕ) → IsSound m → m.mode ≡ Running → m.next < 2 ^ 62 → pending_checkpoints m < limit m.opening.config
    → IsSound (record (triggered m kind.Checkpoint) { due = due })
checkpoint_is_sound m due s running room fewer =
    triggered_is_sound m kind.Checkpoint due s running room (grind (arith, common_steps, count_by-append)) (grind (arith, common_steps, s.records.savepoints_to, count_by-append))

-- a savepoint, if there is room for one
pub savepoint_is_sound : (m : State) → IsSound m → m.mode ≡ Running → m.next < 2 ^ 62 → savepoints m < 1000 → IsSound (triggered m kind.Savepoint)
unfolding triggered
savepoint_is_sound m s running room fewer =
    triggered_is_sound m kind.Savepoint m.due s running room (grind (arith, common_steps, s.records.at_once, count_by-append)) (grind (arith, common_steps, count_by-append))

-- nothing holds a checkpoint back only if fewer are pending than may be
pub fewer-from_go : (c : Configuration) (due : ℕ) (completed : Option ℕ) (t pending : ℕ) → hold c due completed t pending ≡ Go → pending < limit c
fewer-from_go c due completed t pending e = grind (arith, common_steps)

-- if a tick does not fail over, few enough checkpoints have failed
pub few_failures : (late failures tolerable : ℕ) → failures ≤ tolerable → (ltb 0 late && ltb tolerable (failures + late)) ≡ false → failures + late ≤ tolerable
few_failures late failures tolerable few e = grind (arith, common_steps)

-- an expired record is pending
pub expired_is_pending : (m : State) (t : ℕ) (r : Record) → is_pending r ≡ false → is_expired m t r ≡ false
expired_is_pending m t r e = and_left (is_pending r) (leb (r.started + m.opening.config.timeout) t) e
