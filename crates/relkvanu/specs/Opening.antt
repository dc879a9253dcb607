-- Why a handle is not opened.
use Rattle.std.specs.Prelude.{◌≡◌, ◌≢◌, ℕ, Bool, true, not, if◌then◌else◌, List, Option, Some, None}
use Rattle.ckpt_ids.specs.{declared.call.Call.Call, declared.call.Call.TheVariants.Configure, Shapes.is_shape}
use Rattle.ckpt_ids.specs.Configuration.{Configuration, configured, is_within_limits}
use Rattle.ckpt_model.specs.{declared.faults.OpenFault.OpenFault, declared.faults.OpenFault.TheVariants.MomentTooLarge, declared.faults.OpenFault.TheVariants.BadFirst}
use Rattle.ckpt_model.specs.Opening.{open_fault}
use Rattle.ckpt_model.specs.State.{State, Opening, opened}
use Rattle.relkvanu.specs.{declared.answer.Answer.Answer, declared.opening.Settings.Settings}
use Rattle.relkvanu.specs.Told.{bad_config, bad_shape, bad_moment, bad_first, bad_argument, already_open, done, no_memory}

abbrev pub configuration_of : Settings → Configuration
configuration_of s = configured s.interval s.pause s.at_once s.timeout s.tolerable s.retained s.keep_on_cancel

-- the settings are within their limits
abbrev pub are_good : Settings → Bool
are_good s = is_within_limits (configuration_of s)

-- what a configure asks for
abbrev pub configure_of : ℕ → Settings → Call
configure_of now s = Configure now (configuration_of s)

abbrev pub fault_number : Option OpenFault → Option ℕ
fault_number None = None
fault_number (Some MomentTooLarge) = Some bad_moment
fault_number (Some BadFirst) = Some bad_first

-- the opening that the arguments ask for
abbrev pub opening_of : Settings → List ℕ → ℕ → ℕ → Opening
opening_of s shape now first = record { config = configuration_of s; shape = shape; start = now; first = first }

-- the first argument that is outside its limits
abbrev pub bad_opening : Opening → Option ℕ
bad_opening o =
    if not (is_within_limits o.config) then Some bad_config
    else if not (is_shape o.shape) then Some bad_shape
    else fault_number (open_fault o.start o.first)

-- the argument that is bad, unless memory ran out
abbrev pub IsWhyNot : Opening → Answer → Type 0
IsWhyNot o answer = answer.code ≢ no_memory → (bad_opening o ≡ Some answer.what) × (answer ≡ bad_argument answer.what)

-- the coordinator of this opening, whose arguments are all good
abbrev pub IsOpening : Opening → State → Type 0
IsOpening o m = (bad_opening o ≡ None) × (m ≡ opened o)

-- an opening takes memory only if the configuration and the shape are within their limits
abbrev pub OpeningWantsMemory : Opening → Answer → Type 0
OpeningWantsMemory o answer = answer.code ≡ no_memory → (is_within_limits o.config ≡ true) × (is_shape o.shape ≡ true)

-- an open handle stays as it is, and says so
abbrev pub StaysOpen : Option State → Option State → Answer → Type 0
StaysOpen old new answer = (m : State) → old ≡ Some m → (answer ≡ bad_argument already_open) × (new ≡ Some m)

-- a closed handle says which argument is bad, and stays closed
abbrev pub IsNotOpened : Option State → Option State → Opening → Answer → Type 0
IsNotOpened old new o answer =
    (what : ℕ) → old ≡ None → answer.code ≢ no_memory → bad_opening o ≡ Some what → (answer ≡ bad_argument what) × (new ≡ None)

-- a closed handle is opened if no argument is bad
abbrev pub IsOpened : Option State → Option State → Opening → Answer → Type 0
IsOpened old new o answer =
    old ≡ None → answer.code ≢ no_memory → bad_opening o ≡ None → (answer ≡ done 0 0 0) × (new ≡ Some (opened o))
