-- Progress: if all that a pending record lacks acknowledge, in any order, it is completed.
use Rattle.std.specs.Prelude.{◌≡◌, ℕ, ◌+◌, ◌<◌, ◌≤◌, true, false, List, [], ◌∷◌, ◌++◌, length, map, Some, ⊤}
use Rattle.ckpt_ids.specs.declared.limits.TheConstants.{MOMENTS_END, MOST_FILES}
use Rattle.ckpt_ids.specs.declared.call.Call.{Call}
use Rattle.ckpt_ids.specs.declared.reply.Answer.{Answer}
use Rattle.ckpt_ids.specs.Ordered.{IsIn, has_repeats}
use Rattle.ckpt_ids.specs.Records.{Record, uses, is_present, has_acknowledged, missing}
use Rattle.ckpt_ids.specs.Shapes.{is_subtask}
use Rattle.ckpt_model.specs.State.{State, is_known}
use Rattle.ckpt_model.specs.Refusals.{pending_of}
use Rattle.ckpt_model.specs.Histories.{answers}
use Rattle.ckpt_model.specs.Laws.{Part, ShareNone, ack_of, is_ack_pending}
use Rattle.ckpt_model.specs.Interleavings.{is_completing}

-- what one subtask acknowledges with, and when
pub record TimedPart : Type 0 where
  pub now : ℕ
  pub part : Part

abbrev pub ack_at : ℕ → TimedPart → Call
ack_at id t = ack_of t.now id t.part

-- within the limits
pub record IsWithin (t : TimedPart) : Type 0 where
  pub moment : t.now < MOMENTS_END
  pub few : length t.part.fresh + length t.part.reused ≤ MOST_FILES
  pub once : has_repeats (t.part.fresh ++ t.part.reused) ≡ false

-- a subtask of the record that has not acknowledged
pub record IsLacking (r : Record) (p : Part) : Type 0 where
  pub of_record : is_subtask r.shape p.subtask ≡ true
  pub lacks : has_acknowledged r p.subtask ≡ false

-- each fresh file is new, and a live record uses each reused one, as a pending record uses the files of the choice at its trigger
pub record HasFiles (m : State) (p : Part) : Type 0 where
  pub new : (f : ℕ) → IsIn f p.fresh → is_known m f ≡ false
  pub used : (f : ℕ) → IsIn f p.reused → is_present (uses m.records) f ≡ true

-- no two are of one subtask, or have a fresh file in common
abbrev pub AreOfDifferent : List TimedPart → Type 0
AreOfDifferent [] = ⊤
AreOfDifferent (t ∷ rest) = ((u : TimedPart) → IsIn u rest → (t.part.subtask ≡ u.part.subtask → ⊥) × ShareNone t.part.fresh u.part.fresh) × AreOfDifferent rest

-- as many as the record lacks, so one of each subtask that it lacks
pub record AreAllMissing (r : Record) (ts : List TimedPart) : Type 0 where
  pub all : length ts ≡ missing r
  pub each : (t : TimedPart) → IsIn t ts → IsLacking r t.part
  pub apart : AreOfDifferent ts

-- each answer but the last is AckPending, and the last one AckCompleted
abbrev pub EndsCompleted : List Answer → Type 0
EndsCompleted [] = ⊥
EndsCompleted (a ∷ []) = is_completing a ≡ true
EndsCompleted (a ∷ b ∷ rest) = (is_ack_pending a ≡ true) × EndsCompleted (b ∷ rest)

-- If each subtask that a pending record lacks acknowledges once, in any order, and no other call is made between, then each is
-- accepted, and the last one completes the record.
abbrev pub Completes : State → ℕ → Record → List TimedPart → Type 0
Completes m id r ts =
    pending_of m.records id ≡ Some r
    → AreAllMissing r ts
    → ((t : TimedPart) → IsIn t ts → IsWithin t × HasFiles m t.part)
    → EndsCompleted (answers m (map (ack_at id) ts))
