-- A restart to the coordinator's choice is to no record that is older than a checkpoint that was completed.
use Rattle.std.specs.Prelude.{◌≡◌, ℕ, ◌≤◌, Bool, true, false, not, ◌&&◌, List, [], ◌∷◌, Some, ⊤}
use Rattle.ckpt_ids.specs.declared.call.Target.TheVariants as target
use Rattle.ckpt_ids.specs.{declared.call.Call.Call, declared.call.Call.TheVariants.Restore, declared.call.Call.TheVariants.Cancel, Records.Record}
use Rattle.ckpt_ids.specs.declared.reply.Choice.TheVariants as choice
use Rattle.ckpt_model.specs.State.{State, choice_of, is_checkpoint, record_of}
use Rattle.ckpt_model.specs.{Steps.Stepped, Steps.step, Histories.replay, Soundness.IsSound, Keeping.is_accepted, Interleavings.is_completing}
use Rattle.ckpt_model.specs.Laws.{AreCalls, Part, ack_of}

-- a roll back to a savepoint, or the cancelling of a job that keeps no checkpoints
abbrev pub goes_back : State → Call → Bool
goes_back m (Restore now (target.Savepoint id) shape) = is_accepted (step m (Restore now (target.Savepoint id) shape)).1
goes_back m (Cancel now) = is_accepted (step m (Cancel now)).1 && not m.opening.config.keep_on_cancel
goes_back m call = false

abbrev pub NoneGoesBack : State → List Call → Type 0
NoneGoesBack m [] = ⊤
NoneGoesBack m (call ∷ calls) = (goes_back m call ≡ false) × NoneGoesBack (step m call).0 calls

-- After an acknowledgement that completes a checkpoint, and any calls of which none goes back, the choice is that
-- checkpoint or a newer one.
abbrev pub ChoiceIsNoOlder : State → ℕ → ℕ → Part → List Call → Type 0
ChoiceIsNoOlder m now id p calls =
    let x : Stepped = step m (ack_of now id p) in
    IsSound m
    → AreCalls (ack_of now id p ∷ calls)
    → is_completing x.1 ≡ true
    → ((r : Record) → record_of x.0 id ≡ Some r → is_checkpoint r ≡ true)
    → NoneGoesBack x.0 calls
    → (newest : ℕ) × (choice_of (replay x.0 calls) ≡ choice.Checkpoint newest) × (id ≤ newest)
