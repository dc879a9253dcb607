-- What is so after a fault: which fault it is, and what was written.
use Rattle.std.specs.Prelude.{◌≡◌, ◌≢◌, ℕ, false, List, [], Option}
use Rattle.ckpt_script.specs.declared.fault.RunFault.{RunFault}
use Rattle.ckpt_script.specs.declared.fault.RunFault.TheVariants.{Read, TooManyLines}
use Rattle.ckpt_script.specs.Known.{Passes, PassesFront}
use Rattle.ckpt_script.specs.Unread.{Unread}

-- Reading on ended by this fault. A prefix of what waited was written, and the source had not ended if it is to blame.
pub record FailsBy (old : Unread) (before after : Option (List ℕ)) (waiting left : List ℕ) (why : RunFault) : Type 0 where
  pub fault : why ≢ TooManyLines
  pub stays : why ≡ Read → old.is_ended ≡ false
  pub shown_read : why ≡ Read → Passes before after waiting [] left
  pub cut : PassesFront before after waiting []

-- Printing the text ended by this fault: the sink failed, or memory ran out. A prefix of what waited and of the text was
-- written.
pub record FailsToPrint (before after : Option (List ℕ)) (waiting text : List ℕ) (why : RunFault) : Type 0 where
  pub fault : (why ≢ Read) × (why ≢ TooManyLines)
  pub cut : PassesFront before after waiting text
