-- When a fenced coordinator cannot be opened.
use Rattle.std.specs.Prelude.{ℕ, ◌||◌, ◌==◌, nat_lt, if◌then◌else◌, Option, Some}
use Rattle.ckpt_model.specs.{declared.faults.OpenFault.OpenFault, declared.faults.OpenFault.TheVariants.BadFirst, Opening.open_fault}
use Rattle.ckpt_terms.specs.declared.call.TheConstants.{NAMES_END}

-- the first name is none that a file can have, or the coordinator cannot be opened
abbrev pub terms_fault : ℕ → ℕ → ℕ → Option OpenFault
terms_fault now first first_name = if (first_name == 0) || nat_lt NAMES_END first_name then Some BadFirst else open_fault now first
