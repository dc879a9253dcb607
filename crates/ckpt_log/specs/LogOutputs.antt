-- What a log prints: a function of its text alone.
use Rattle.std.specs.Prelude.{◌≡◌, ℕ, ◌+◌, Bool, List, [], ◌∷◌, ◌++◌, is_err, if◌then◌else◌, Option, IfSome}
use Rattle.std.specs.{List.list_any, Io.KnownBytes.Appends}
use Rattle.ckpt_script.specs.Lines.{lines_of}
use Rattle.ckpt_term_lines.specs.TermReading.{term_reading}
use Rattle.ckpt_log.specs.Logs.{LogSaid, LogScene, log_said, opening_log}

-- what lines print one after the other, from this number and this scene on, up to the first with a fault
abbrev pub log_outputs : ℕ → LogScene → List (List ℕ) → List ℕ
log_outputs number log [] = []
log_outputs number log (line ∷ lines) =
    let said : LogSaid = log_said number log (term_reading line) in
    said.1 ++ (if is_err (term_reading line) then [] else log_outputs (number + 1) said.0 lines)

-- the output of a text
abbrev pub log_output : List ℕ → List ℕ
log_output text = log_outputs 1 opening_log (lines_of text)

-- whether one of its lines has a fault
abbrev pub log_has_fault : List ℕ → Bool
log_has_fault text = list_any (λ line. is_err (term_reading line)) (lines_of text)

-- What was written of a log that was read to its end. `text` is what the reader had, and `before` and `after` are what the
-- writer held.
abbrev pub Replayed : Option (List ℕ) → Option (List ℕ) → Option (List ℕ) → Bool → Type 0
Replayed text before after is_faulty = IfSome text (λ text. Appends before after (log_output text) × (is_faulty ≡ log_has_fault text))
