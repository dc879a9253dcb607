-- Why a handle is not opened with names.
use Rattle.std.specs.Prelude.{◌≡◌, ◌≢◌, ℕ, ◌||◌, ◌==◌, nat_lt, not, if◌then◌else◌, Option, Some, None}
use Rattle.ckpt_ids.specs.{Configuration.is_within_limits, Shapes.is_shape}
use Rattle.ckpt_model.specs.Opening.{open_fault}
use Rattle.ckpt_model.specs.State.{State, Opening, opened}
use Rattle.ckpt_terms.specs.{declared.call.TheConstants.NAMES_END, declared.machine.Machine.Machine, Fencing.fenced, Machines.Issued, Machines.first_names}
use Rattle.ckpt_terms.specs.declared.machine.Machine.TheVariants as machine
use Rattle.relkvanu.specs.{declared.answer.Answer.Answer, Fenced.bad_name, Opening.fault_number}
use Rattle.relkvanu.specs.Told.{bad_argument, bad_config, bad_shape, done, no_memory}

-- the first argument that is outside its limits
abbrev pub bad_named_opening : Opening → ℕ → Option ℕ
bad_named_opening o first_name =
    if not (is_within_limits o.config) then Some bad_config
    else if not (is_shape o.shape) then Some bad_shape
    else if (first_name == 0) || nat_lt NAMES_END first_name then Some bad_name
    else fault_number (open_fault o.start o.first)

-- the argument that is bad, unless memory ran out
abbrev pub IsWhyNotNamed : Opening → ℕ → Answer → Type 0
IsWhyNotNamed o first_name answer =
    answer.code ≢ no_memory → (bad_named_opening o first_name ≡ Some answer.what) × (answer ≡ bad_argument answer.what)

-- the coordinator of this opening with names from this one on, whose arguments are all good
abbrev pub IsNamedOpening : Opening → ℕ → Machine → Type 0
IsNamedOpening o first_name k = (bad_named_opening o first_name ≡ None) × (k ≡ machine.Fenced (fenced o first_name))

-- a closed handle says which argument is bad, and stays closed
abbrev pub IsNotOpenedNamed : Option State → Option State → Opening → ℕ → Answer → Type 0
IsNotOpenedNamed old new o first_name answer =
    (what : ℕ) → old ≡ None → answer.code ≢ no_memory → bad_named_opening o first_name ≡ Some what → (answer ≡ bad_argument what) × (new ≡ None)

-- a closed handle is opened if no argument is bad
abbrev pub IsOpenedNamed : Option State → Option State → Option Issued → Opening → ℕ → Answer → Type 0
IsOpenedNamed old new names o first_name answer =
    old ≡ None → answer.code ≢ no_memory → bad_named_opening o first_name ≡ None
    → (answer ≡ done 0 0 0) × (new ≡ Some (opened o)) × (names ≡ Some (first_names first_name))
