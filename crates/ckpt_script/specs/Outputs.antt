-- What a script prints: a function of its text alone.
use Rattle.std.specs.Prelude.{◌≡◌, ℕ, ◌+◌, ◌<◌, ◌≤◌, List, [], ◌∷◌, ◌++◌, length, take, count_by, Result, Ok, Err, Option, IfSome, is_err}
use Rattle.std.specs.Io.KnownBytes.{Appends}
use Rattle.ckpt_lines.specs.Reading.{reading}
use Rattle.ckpt_script.specs.declared.fault.RunFault.{RunFault}
use Rattle.ckpt_script.specs.declared.fault.RunFault.TheVariants.{Read, Write, TooManyLines, Memory}
use Rattle.ckpt_script.specs.declared.limits.TheConstants.{MOST_LINES}
use Rattle.ckpt_script.specs.declared.summary.Summary.{Summary}
use Rattle.ckpt_script.specs.Known.{WhereKnown, IsCut}
use Rattle.ckpt_script.specs.Lines.{lines_of, whole_lines}
use Rattle.ckpt_session.specs.Sessions.{Scene, opening_scene, said}

-- what lines print one after the other, from this number and this scene on
abbrev pub outputs : ℕ → Scene → List (List ℕ) → List ℕ
outputs number scene [] = []
outputs number scene (line ∷ lines) = (said number scene (reading line)).1 ++ outputs (number + 1) (said number scene (reading line)).0 lines

-- the scene that they leave
abbrev pub scene_after : ℕ → Scene → List (List ℕ) → Scene
scene_after number scene [] = scene
scene_after number scene (line ∷ lines) = scene_after (number + 1) (said number scene (reading line)).0 lines

-- how many of the lines have a fault
abbrev pub faults_in : List (List ℕ) → ℕ
faults_in lines = count_by (λ line. is_err (reading line)) lines

-- the output of a text
abbrev pub output : List ℕ → List ℕ
output text = outputs 1 opening_scene (take MOST_LINES (lines_of text))

-- What was written of a text, by how its run ended. `text` is what the reader had, `rest` what it has left, and `before`
-- and `after` are what the writer held.
abbrev pub Ran : Option (List ℕ) → Option (List ℕ) → Option (List ℕ) → Option (List ℕ) → Result Summary RunFault → Type 0
Ran text rest before after (Ok summary) = IfSome text (λ text.
    Appends before after (output text)
    × (length (lines_of text) ≤ MOST_LINES)
    × (summary ≡ record { lines = length (lines_of text); faults = faults_in (lines_of text) }))
Ran text rest before after (Err Read) = WhereKnown text rest (λ text rest.
    (read : List ℕ) × (text ≡ read ++ rest) × Appends before after (output (whole_lines read)))
Ran text rest before after (Err TooManyLines) = IfSome text (λ text.
    (MOST_LINES < length (lines_of text)) × Appends before after (output text))
Ran text rest before after (Err Write) = IfSome text (λ text. IsCut before after (output text))
Ran text rest before after (Err Memory) = IfSome text (λ text. IsCut before after (output text))
