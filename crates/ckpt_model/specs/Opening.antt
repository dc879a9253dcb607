-- When a coordinator cannot be opened. The limits are this project's own.
use Rattle.std.specs.Prelude.{ℕ, ◌||◌, ◌==◌, nat_le, if◌then◌else◌, Option, Some, None}
use Rattle.ckpt_ids.specs.declared.limits.TheConstants.{MOMENTS_END, NUMBERS_END}
use Rattle.ckpt_model.specs.declared.faults.OpenFault.{OpenFault}
use Rattle.ckpt_model.specs.declared.faults.OpenFault.TheVariants.{MomentTooLarge, BadFirst}

-- the first that holds: the moment is too large, or the first number is none that a record can have
abbrev pub open_fault : ℕ → ℕ → Option OpenFault
open_fault now first =
    if nat_le MOMENTS_END now then Some MomentTooLarge
    else (if (first == 0) || nat_le NUMBERS_END first then Some BadFirst else None)
