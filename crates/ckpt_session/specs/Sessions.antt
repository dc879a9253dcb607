-- What each line of a script does, and what it prints.
use Rattle.std.specs.Prelude.{ℕ, nat_le, if◌then◌else◌, List, Option, Some, None, is_some, Result, Ok, Err}
use Rattle.ckpt_ids.specs.declared.limits.TheConstants.{MOMENTS_END}
use Rattle.ckpt_ids.specs.declared.call.Call.{Call}
use Rattle.ckpt_ids.specs.Configuration.{Configuration, is_within_limits}
use Rattle.ckpt_ids.specs.Configuration as configuration
use Rattle.ckpt_ids.specs.Shapes.{is_shape}
use Rattle.ckpt_model.specs.State.{State, Opening, opened}
use Rattle.ckpt_model.specs.Steps.{step}
use Rattle.ckpt_lines.specs.declared.line.Line.{Line}
use Rattle.ckpt_lines.specs.declared.line.Line.TheVariants as line
use Rattle.ckpt_lines.specs.declared.fault.LineFault.{LineFault}
use Rattle.ckpt_session.specs.declared.outcome.Outcome.{Outcome}
use Rattle.ckpt_session.specs.declared.outcome.Outcome.TheVariants.{Silent, Refused, Answered}
use Rattle.ckpt_session.specs.declared.outcome.ScriptRefusal.{ScriptRefusal}
use Rattle.ckpt_session.specs.declared.outcome.ScriptRefusal.TheVariants.{Started, NotStarted, NotReady, BadConfig, BadShape, MomentTooLarge}
use Rattle.ckpt_session.specs.declared.all.AllLine.{AllLine}
use Rattle.ckpt_session.specs.ScriptTexts.{outcome_bytes, fault_bytes}
use Rattle.ckpt_session.specs.AllLines.{Obeyed, all_obeyed}

-- what a script has set so far
pub record Scene : Type 0 where
  -- of the last accepted `config`
  pub config : Option Configuration
  -- of the last accepted `job`
  pub shape : Option (List ℕ)
  -- the coordinator's state, once a `start` was accepted
  pub core : Option State

abbrev pub opening_scene : Scene
opening_scene = record { config = None; shape = None; core = None }

-- the state after a line, and the line's outcome
abbrev pub Done : Type 0
Done = Scene × Outcome

abbrev pub refused : Scene → ScriptRefusal → Done
refused scene why = (scene, Refused why)

abbrev pub before_start : Scene → Done → Done
before_start scene done = if is_some scene.core then refused scene Started else done

abbrev pub after_start : Scene → Done → Done
after_start scene done = if is_some scene.core then done else refused scene NotStarted

-- the configuration, if its values are within the limits
abbrev pub limited : Configuration → Option Configuration
limited config = if is_within_limits config then Some config else None

unfoldable pub configured : Scene → Option Configuration → Done
configured scene (Some config) = (record scene { config = Some config }, Silent)
configured scene None = refused scene BadConfig

unfoldable pub shaped : Scene → List ℕ → Done
shaped scene shape = if is_shape shape then (record scene { shape = Some shape }, Silent) else refused scene BadShape

abbrev pub opened_with : Scene → Opening → Done
opened_with scene opening =
    if nat_le MOMENTS_END opening.start then refused scene MomentTooLarge else (record scene { core = Some (opened opening) }, Silent)

-- the coordinator opens with the configuration and the shape; its first record has number 1
unfoldable pub started : Scene → ℕ → Option Configuration → Option (List ℕ) → Done
started scene now (Some config) (Some shape) = opened_with scene (record { config = config; shape = shape; start = now; first = 1 })
started scene now config shape = refused scene NotReady

-- a `start` after what has been set so far
abbrev pub started_so_far : Scene → ℕ → Done
started_so_far scene now = before_start scene (started scene now scene.config scene.shape)

abbrev pub in_core : Scene → Obeyed → Done
in_core scene obeyed = (record scene { core = Some obeyed.0 }, obeyed.1)

-- a call is one step of the coordinator
unfoldable pub called : Scene → Option State → Call → Done
called scene None c = refused scene NotStarted
called scene (Some m) c = in_core scene ((step m c).0, Answered (step m c).1)

-- the `all` line with these numbers
abbrev pub all_at : ℕ → ℕ → ℕ → ℕ → AllLine
all_at now id threads first = record { moment = now; id = id; threads = threads; first = first }

unfoldable pub all_called : Scene → Option State → AllLine → Done
all_called scene None all = refused scene NotStarted
all_called scene (Some m) all = in_core scene (all_obeyed m all)

-- what a line does
unfoldable pub obeyed : Scene → Line → Done
obeyed scene line.Skip = (scene, Silent)
obeyed scene (line.Config interval pause at_once timeout tolerable retained keep_on_cancel) =
    before_start scene (configured scene (limited (configuration.configured interval pause at_once timeout tolerable retained keep_on_cancel)))
obeyed scene (line.Job parallelisms) = before_start scene (shaped scene parallelisms)
obeyed scene (line.Start now) = started_so_far scene now
obeyed scene (line.Call c) = called scene scene.core c
obeyed scene line.BadShape = after_start scene (refused scene BadShape)
obeyed scene (line.All now id threads first) =
    all_called scene scene.core (all_at now id threads first)

-- what a line leaves, and what it prints
abbrev pub Said : Type 0
Said = Scene × List ℕ

abbrev pub told : Done → Said
told done = (done.0, outcome_bytes done.1)

-- a line with a fault changes nothing
unfoldable pub said : ℕ → Scene → Result Line LineFault → Said
said number scene (Ok line) = told (obeyed scene line)
said number scene (Err why) = (scene, fault_bytes number why)
