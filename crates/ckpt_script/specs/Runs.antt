-- What a runner keeps between two lines, and how its run ends. `left` is what the source has left, and `shown` what the sink holds.
use Rattle.std.specs.Prelude.{◌≡◌, ℕ, ◌+◌, ◌≤◌, List, Option, Result, Err, is_err, if◌then◌else◌}
use Rattle.ckpt_lines.specs.declared.fault.LineFault.{LineFault}
use Rattle.ckpt_lines.specs.declared.line.Line.{Line}
use Rattle.ckpt_lines.specs.Reading.{reading}
use Rattle.ckpt_session.specs.Sessions.{Said, said}
use Rattle.ckpt_script.specs.declared.fault.RunFault.{RunFault}
use Rattle.ckpt_script.specs.declared.limits.TheConstants.{MOST_LINES}
use Rattle.ckpt_script.specs.declared.runner.Runner.{Runner}
use Rattle.ckpt_script.specs.Devices.{Asked, used}
use Rattle.ckpt_script.specs.Known.{Prints}
use Rattle.ckpt_script.specs.Outputs.{Ran}
use Rattle.ckpt_script.specs.Reads.{IsFollowed, all_left, line_at}
use Rattle.ckpt_script.specs.Telling.{IsSoFar, Stopped}

-- what the next line means
abbrev pub reading_next : Runner → Option ℕ → Result Line LineFault
reading_next run newline = reading (line_at run.ahead run.line.items newline)

-- how many lines are faulty with it
abbrev pub faults_next : Runner → Option ℕ → ℕ
faults_next run newline = run.summary.faults + (if is_err (reading_next run newline) then 1 else 0)

-- what it does and prints
abbrev pub said_next : Runner → Option ℕ → Said
said_next run newline = said (run.summary.lines + 1) run.session.scene (reading_next run newline)

-- and what it prints
abbrev pub text_next : Runner → Option ℕ → List ℕ
text_next run newline = (said_next run newline).1

-- what waited and then the text of the next line were handed to a sink that has not failed
abbrev pub PrintsNext : Runner → Option ℕ → Runner → Option (List ℕ) → Option (List ℕ) → ℕ → Type 0
PrintsNext old newline new before after failures = Prints before after old.printed.bytes (text_next old newline) new.printed.bytes failures

-- The next line was obeyed: it is counted, and the session is as it says.
pub record Obeys (old : Runner) (newline : Option ℕ) (new : Runner) : Type 0 where
  pub lines : new.summary.lines ≡ old.summary.lines + 1
  pub faults : new.summary.faults ≡ faults_next old newline
  pub scene : new.session.scene ≡ (said_next old newline).0

-- What is so between two lines: the source is followed, the sink has not failed, and each line took a byte at least.
pub record IsReady (run : Runner) (left : Option (List ℕ)) (asked : Asked) (failures : ℕ) : Type 0 where
  pub followed : IsFollowed left asked run.ahead
  pub going_on : failures ≡ 0
  pub lines : run.summary.lines ≤ MOST_LINES
  pub bytes_used : run.summary.lines ≤ used asked run.ahead
  pub faults : run.summary.faults ≤ run.summary.lines

-- of a text, so much has been run and shown
abbrev pub IsAt : Runner → Option (List ℕ) → Option (List ℕ) → Option (List ℕ) → Option (List ℕ) → Type 0
IsAt run left shown text before =
    IsSoFar text (all_left run.ahead left) before shown run.ahead.is_ended run.summary run.session.scene run.printed.bytes

-- whatever the text, the run goes on from one moment to the next
abbrev pub GoesOn : Runner → Option (List ℕ) → Option (List ℕ) → Runner → Option (List ℕ) → Option (List ℕ) → Type 0
GoesOn old left_old shown_old new left_new shown_new =
    (text before : Option (List ℕ)) → IsAt old left_old shown_old text before → IsAt new left_new shown_new text before

-- whatever the text, the run stops by this fault
abbrev pub Stops : Runner → Option (List ℕ) → Option (List ℕ) → Runner → Option (List ℕ) → Option (List ℕ) → RunFault → Type 0
Stops old left_old shown_old new left_new shown_new why =
    (text before : Option (List ℕ)) → IsAt old left_old shown_old text before → Stopped text left_new before shown_new new.printed.bytes why

-- whatever the text, a run that stops by the first fault, with so much waiting, ends by the second
abbrev pub EndsBy : Option (List ℕ) → List ℕ → RunFault → Option (List ℕ) → RunFault → Type 0
EndsBy shown_old waiting why shown_new last =
    (text rest before : Option (List ℕ)) → Stopped text rest before shown_old waiting why → Ran text rest before shown_new (Err last)
