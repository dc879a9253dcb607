-- Faults and their causes.
use Rattle.ckpt_script.proofs.Names.{◌≡◌, ◌≢◌, ℕ, ◌+◌, ◌≤◌, true, false, List, [], ◌++◌, Option, None, Some, refl, ap, arith, length-drop, Appends, IsAtEnd, RunFault, Read, Write}
use Rattle.ckpt_script.proofs.Names.{TooManyLines, Memory, Asked, IsCaused, IsCounted, SourceCauses, most_reads, IsCut, Passes, PassesFront, IsFollowed, left_by, Unread}
use Rattle.ckpt_script.proofs.PassesLemmas.{passes_part, passes_none, passes_on}
use Rattle.ckpt_script.specs.Faults.{FailsBy, FailsToPrint}

-- a source that has not failed is the cause of all faults but its own
pub source_causes : (asked : Asked) (why : RunFault) → why ≢ Read → why ≢ TooManyLines → asked.failures ≡ 0 → SourceCauses asked why
source_causes asked Read not_read not_many none = absurd (not_read refl)
source_causes asked Write not_read not_many none = tt
source_causes asked TooManyLines not_read not_many none = absurd (not_many refl)
source_causes asked Memory not_read not_many none = none

-- the source is still followed when a line that was read ahead is dropped
pub followed_still : (left : Option (List ℕ)) (asked : Asked) (ahead : Unread) (newline : Option ℕ) → (ahead.is_ended ≡ true → IsAtEnd left) → IsCounted asked ahead
    → IsFollowed left asked (left_by ahead newline)
followed_still left asked ahead None ended counted = record { ended = ended; counted = counted }
followed_still left asked ahead (Some newline) ended counted = record {
  ended = ended;
  counted = record {
    times = counted.times;
    none_failed = counted.none_failed;
    ends = counted.ends;
    given = omega (arith, counted.given, length-drop (newline + 1) ahead.bytes);
  };
}

-- the sink failed: a prefix of what waited was written
pub fails_writing : (old : Unread) (before after : Option (List ℕ)) (waiting left : List ℕ) (why : RunFault)
    → why ≡ Write → IsCut before after waiting → FailsBy old before after waiting left why
fails_writing old before after waiting left why write cut =
    rw write (record { fault = λ many. cc; stays = λ read. cc; shown_read = λ read. cc; cut = (_, passes_part before after waiting [] cut) })

pub caused_writing : (asked : Asked) (failures : ℕ) (why : RunFault) → why ≡ Write → failures ≡ 1 → asked.times ≤ most_reads → IsCaused asked failures why
caused_writing asked failures why write failed few = rw write (record { few = few; source = tt; sink = failed })

-- the source failed, once all that waited was written
pub fails_reading : (old : Unread) (before after : Option (List ℕ)) (waiting left : List ℕ) (why : RunFault)
    → old.is_ended ≡ false → Appends before after waiting → left ≡ [] → why ≡ Read → FailsBy old before after waiting left why
fails_reading old before after waiting left why going_on appended written read =
    let passes : Passes before after waiting [] left = record { written = waiting; appended = appended; in_turn = ap (λ (xs : List ℕ). waiting ++ xs) written } in
    record { fault = λ many. cc; stays = λ r. going_on; shown_read = λ r. passes; cut = (left, passes) }

-- memory ran out, and what waited was written or waits still
pub fails_for_memory : {before after : Option (List ℕ)} {waiting left : List ℕ} (old : Unread) → Passes before after waiting [] left → FailsBy old before after waiting left Memory
fails_for_memory {left = left} old passes = record { fault = λ many. cc; stays = λ read. cc; shown_read = λ read. cc; cut = (left, passes) }

pub caused_by_memory : (asked : Asked) (failures : ℕ) → failures ≡ 0 → asked.times ≤ most_reads → asked.failures ≡ 0 → IsCaused asked failures Memory
caused_by_memory asked failures going_on few none = record { few = few; source = none; sink = going_on }

-- reading on ended by a fault after what waited was written
pub fails_on : {old : Unread} {before between after : Option (List ℕ)} {waiting middle left : List ℕ} {why : RunFault} (first : Unread)
    → (old.is_ended ≡ false → first.is_ended ≡ false) → Passes before between waiting [] middle → FailsBy old between after middle left why
    → FailsBy first before after waiting left why
fails_on first stays passes fails = record {
  fault = fails.fault;
  stays = λ read. stays (fails.stays read);
  shown_read = λ read. passes_on passes (fails.shown_read read);
  cut = (fails.cut.0, passes_on passes fails.cut.1);
}

-- the sink failed at the text, or at what waited before it
pub fails_to_print_by_write : (before after : Option (List ℕ)) (waiting text : List ℕ) (why : RunFault) → why ≡ Write → PassesFront before after waiting text
    → FailsToPrint before after waiting text why
fails_to_print_by_write before after waiting text why write cut = rw write (record { fault = (λ read. cc, λ many. cc); cut = cut })

-- memory ran out before anything of the text waited
pub fails_to_print_for_memory : (before : Option (List ℕ)) (waiting text : List ℕ) → FailsToPrint before before waiting text Memory
fails_to_print_for_memory before waiting text = record { fault = (λ read. cc, λ many. cc); cut = (_, passes_none before waiting text) }
