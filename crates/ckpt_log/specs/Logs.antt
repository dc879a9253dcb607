-- What each line of a log does, and what it prints.
use Rattle.std.specs.Prelude.{ℕ, Bool, false, ◌&&◌, ◌==◌, if◌then◌else◌, List, Option, Some, None, Result, Ok, Err}
use Rattle.ckpt_model.specs.{Memory.may_want_memory, State.State, Steps.Stepped, Steps.step}
use Rattle.ckpt_lines.specs.{declared.fault.LineFault.LineFault, declared.line.Line.Line}
use Rattle.ckpt_lines.specs.declared.line.Line.TheVariants as script
use Rattle.ckpt_terms.specs.{declared.call.FencedCall.FencedCall, declared.call.FencedCall.TheVariants.Make, declared.machine.FenceFault.FenceFault, Fencing.FencedStepped}
use Rattle.ckpt_terms.specs.Fencing.{fenced_step}
use Rattle.ckpt_terms.specs.Machines.{Issued, fence_fault, fenced_of, first_names, issued_by, machine_of}
use Rattle.ckpt_session.specs.declared.outcome.Outcome.TheVariants as script_outcome
use Rattle.ckpt_session.specs.{declared.outcome.ScriptRefusal.TheVariants.BadConfig, declared.outcome.ScriptRefusal.TheVariants.NotStarted, ScriptTexts.fault_bytes}
use Rattle.ckpt_session.specs.Sessions.{Done, Scene, after_start, obeyed, opening_scene, refused}
use Rattle.ckpt_term_lines.specs.declared.line.TermLine.{TermLine}
use Rattle.ckpt_term_lines.specs.declared.line.TermLine.TheVariants as line
use Rattle.ckpt_log.specs.{declared.outcome.LogOutcome.LogOutcome, declared.outcome.LogRefusal.LogRefusal, LogTexts.log_outcome_bytes}
use Rattle.ckpt_log.specs.declared.outcome.LogOutcome.TheVariants.{Script, Refused, Began, Answered}
use Rattle.ckpt_log.specs.declared.outcome.LogRefusal.TheVariants.{NoNames, NoCall, NoFence}

-- what a log has set so far: what a script has, and the names
pub record LogScene : Type 0 where
  pub scene : Scene
  -- once a `fence` was accepted
  pub names : Option Issued

abbrev pub opening_log : LogScene
opening_log = record { scene = opening_scene; names = None }

-- the state after a line, and the line's outcome
abbrev pub LogDone : Type 0
LogDone = LogScene × LogOutcome

-- as in a script
abbrev pub in_script : LogScene → Done → LogDone
in_script log done = (record { scene = done.0; names = log.names }, Script done.1)

abbrev pub log_refused : LogScene → LogRefusal → LogDone
log_refused log why = (log, Refused why)

-- what a step of the coordinator leaves, and its outcome
abbrev pub stepped : Stepped → State × LogOutcome
stepped s = (s.0, Script (script_outcome.Answered s.1))

-- without names a call has no term, or 0, and is one step of the coordinator
abbrev pub plainly_called : State → FencedCall → State × LogOutcome
plainly_called m (Make term call) = if term == 0 then stepped (step m call) else (m, Refused NoNames)
plainly_called m call = (m, Refused NoNames)

-- and it may run out of memory only where that step may
abbrev pub plainly_wants : State → FencedCall → Bool
plainly_wants m (Make term call) = (term == 0) && may_want_memory m call
plainly_wants m call = false

-- with this state, and with these names
abbrev pub with_core : LogScene → State → Option Issued → LogScene
with_core log m names = record { scene = record { config = log.scene.config; shape = log.scene.shape; core = Some m }; names = names }

abbrev pub plain_done : LogScene → State × LogOutcome → LogDone
plain_done log done = (with_core log done.0 None, done.1)

-- with names a call is one step of the fenced coordinator
abbrev pub fenced_done : LogScene → FencedStepped → LogDone
fenced_done log s = (with_core log s.0.core (Some (issued_by s.0)), Answered s.1)

unfoldable pub log_called : LogScene → Option State → Option Issued → FencedCall → LogDone
log_called log None names call = in_script log (refused log.scene NotStarted)
log_called log (Some m) None call = plain_done log (plainly_called m call)
log_called log (Some m) (Some names) call = fenced_done log (fenced_step (fenced_of m names) call)

abbrev pub fenced_by : LogScene → ℕ → Option FenceFault → LogDone
fenced_by log first None = (record { scene = log.scene; names = Some (first_names first) }, Began)
fenced_by log first (Some why) = log_refused log (NoFence why)

unfoldable pub log_fenced : LogScene → Option State → ℕ → LogDone
log_fenced log None first = in_script log (refused log.scene NotStarted)
log_fenced log (Some m) first = fenced_by log first (fence_fault (machine_of m log.names) first)

-- a line of a script that is no call; an `all` makes many calls, and a log has a line for each
unfoldable pub log_set : LogScene → Line → LogDone
log_set log (script.Call call) = log_called log log.scene.core log.names (Make 0 call)
log_set log (script.All now id threads first) = log_refused log NoCall
log_set log said = in_script log (obeyed log.scene said)

unfoldable pub log_done : LogScene → TermLine → LogDone
log_done log (line.Fence first) = log_fenced log log.scene.core first
log_done log (line.Call call) = log_called log log.scene.core log.names call
log_done log (line.Other said) = log_set log said
log_done log line.BadConfig = in_script log (after_start log.scene (refused log.scene BadConfig))
log_done log line.NoCall = log_refused log NoCall

-- what a line leaves, and what it prints
abbrev pub LogSaid : Type 0
LogSaid = LogScene × List ℕ

abbrev pub log_told : LogDone → LogSaid
log_told done = (done.0, log_outcome_bytes done.1)

-- a line with a fault changes nothing
unfoldable pub log_said : ℕ → LogScene → Result TermLine LineFault → LogSaid
log_said number log (Ok line) = log_told (log_done log line)
log_said number log (Err why) = (log, fault_bytes number why)
