-- How far a run has come.
use Rattle.std.specs.Prelude.{◌≡◌, ℕ, ◌<◌, ◌≤◌, Bool, true, false, List, ◌++◌, length, Option, IfSome}
use Rattle.std.specs.Io.KnownBytes.{Appends}
use Rattle.ckpt_script.specs.declared.fault.RunFault.{RunFault}
use Rattle.ckpt_script.specs.declared.fault.RunFault.TheVariants.{Read, Write, TooManyLines, Memory}
use Rattle.ckpt_script.specs.declared.summary.Summary.{Summary}
use Rattle.ckpt_script.specs.Known.{WhereKnown, IsCut}
use Rattle.ckpt_script.specs.Lines.{lines_of, whole_lines}
use Rattle.ckpt_script.specs.declared.limits.TheConstants.{MOST_LINES}
use Rattle.ckpt_script.specs.Outputs.{outputs, output, scene_after, faults_in}
use Rattle.ckpt_session.specs.Sessions.{Scene, opening_scene}

-- The lines of a prefix of the text have been run, and `rest` is left.
pub record HasRun (text rest : List ℕ) (is_ended : Bool) (summary : Summary) (scene : Scene) (shown : List ℕ) : Type 0 where
  pub front : List ℕ
  pub split : text ≡ front ++ rest
  pub in_turn : lines_of text ≡ lines_of front ++ lines_of rest
  pub lines : summary.lines ≡ length (lines_of front)
  pub few : summary.lines ≤ MOST_LINES
  pub faults : summary.faults ≡ faults_in (lines_of front)
  pub scene_is : scene ≡ scene_after 1 opening_scene (lines_of front)
  pub shown_is : shown ≡ outputs 1 opening_scene (lines_of front)
  pub whole : is_ended ≡ false → whole_lines front ≡ front

-- between these two moments this was shown: it was written, but for what waits
pub record Shows (before after : Option (List ℕ)) (waiting shown : List ℕ) : Type 0 where
  pub written : List ℕ
  pub appended : Appends before after written
  pub all : written ++ waiting ≡ shown

-- if the text is known, a prefix of it has been run, and what that prints is shown
abbrev pub IsSoFar : Option (List ℕ) → Option (List ℕ) → Option (List ℕ) → Option (List ℕ) → Bool → Summary → Scene → List ℕ → Type 0
IsSoFar text left before after is_ended summary scene waiting = WhereKnown text left (λ text rest.
    (shown : List ℕ) × HasRun text rest is_ended summary scene shown × Shows before after waiting shown)

-- what is shown of a text, by the fault that ended its run
abbrev pub Stopped : Option (List ℕ) → Option (List ℕ) → Option (List ℕ) → Option (List ℕ) → List ℕ → RunFault → Type 0
Stopped text rest before after waiting Read = WhereKnown text rest (λ text rest.
    (read more : List ℕ) × (text ≡ read ++ rest) × Shows before after waiting (output (whole_lines read)) × (output text ≡ output (whole_lines read) ++ more))
Stopped text rest before after waiting TooManyLines = IfSome text (λ text.
    (MOST_LINES < length (lines_of text)) × Shows before after waiting (output text))
Stopped text rest before after waiting Write = IfSome text (λ text. IsCut before after (output text))
Stopped text rest before after waiting Memory = IfSome text (λ text. IsCut before after (output text))

-- the lines before the fault are whole
abbrev pub keeps_lines : RunFault → Bool
keeps_lines Read = true
keeps_lines TooManyLines = true
keeps_lines Write = false
keeps_lines Memory = false
