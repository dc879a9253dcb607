-- What a line of a log says whose job gives out names: one of seven kinds of line, or a line of a script.
use Rattle.std.specs.Prelude.{◌≡◌, ℕ, Bool, true, false, not, ◌&&◌, List, [], ◌∷◌, if◌then◌else◌, Option, Some, None, Result, Ok, Err}
use Rattle.std.specs.Str.Lines.{strip_carriage_return}
use Rattle.ckpt_ids.specs.declared.call.Call.TheVariants as calls
use Rattle.ckpt_ids.specs.{Ascending.ascending, Configuration.Configuration, Configuration.is_within_limits, ConfigurationValues.configured_by}
use Rattle.ckpt_lines.specs.{declared.fault.LineFault.LineFault, declared.line.Line.Line, Values.number, Words.words_of}
use Rattle.ckpt_lines.specs.declared.fault.LineFault.TheVariants as fault
use Rattle.ckpt_lines.specs.declared.line.Line.TheVariants as script
use Rattle.ckpt_lines.specs.Reading.{◌>>=◌, begins_with_a_list, each, is_too_long, line_of, number_place, only_number, settings, begins_with_a_number, is_yes}
use Rattle.ckpt_terms.specs.declared.call.FencedCall.TheVariants as call
use Rattle.ckpt_term_lines.specs.{declared.keyword.TermKeyword.TermKeyword, declared.line.TermLine.TermLine, TermKeywords.term_keyword_of}
use Rattle.ckpt_term_lines.specs.declared.keyword.TermKeyword.TheVariants as keyword
use Rattle.ckpt_term_lines.specs.declared.line.TermLine.TheVariants.{Fence, Call, Other, BadConfig, NoCall}

unfoldable pub fence_row : List (List ℕ) → Result TermLine LineFault
fence_row words = do
  first ← only_number words
  Ok (Fence first)

unfoldable pub reserve_row : List (List ℕ) → Result TermLine LineFault
reserve_row words = do
  term ← number_place words
  count ← only_number term.1
  Ok (Call (call.Reserve term.0 count))

-- all words that are left, in any order
abbrev pub name_places : List (List ℕ) → Result (List ℕ) LineFault
name_places words = do
  names ← each number words
  Ok (ascending names)

unfoldable pub forfeit_row : List (List ℕ) → Result TermLine LineFault
forfeit_row words = do
  term ← number_place words
  names ← name_places term.1
  Ok (Call (call.Forfeit term.0 names))

unfoldable pub advance_row : List (List ℕ) → Result TermLine LineFault
advance_row words = do
  now ← number_place words
  term ← number_place now.1
  first ← only_number term.1
  Ok (Call (call.Advance now.0 term.0 first))

-- with this term a call, a bad shape, or no call
abbrev pub in_term : ℕ → Line → TermLine
in_term term (script.Call made) = Call (call.Make term made)
in_term term script.BadShape = Other script.BadShape
in_term term line = NoCall

-- a call of a script has term 0, which belongs to no task
abbrev pub without_term : Line → TermLine
without_term (script.Call made) = Call (call.Make 0 made)
without_term line = Other line

-- a checkpoint now, with this term
unfoldable pub trigger_row : ℕ → List (List ℕ) → Result TermLine LineFault
trigger_row term words = do
  now ← only_number words
  Ok (Call (call.Make term (calls.Trigger now)))

-- settings outside their limits make no call
abbrev pub configuring : ℕ → ℕ → Configuration → TermLine
configuring term now config = if is_within_limits config then Call (call.Make term (calls.Configure now config)) else BadConfig

-- other settings, with this term
unfoldable pub configure_row : ℕ → List (List ℕ) → Result TermLine LineFault
configure_row term words = do
  now ← number_place words
  values ← settings now.1
  Ok (configuring term now.0 (configured_by values))

-- a line of a script, with this term
unfoldable pub script_row : ℕ → List (List ℕ) → Result TermLine LineFault
script_row term words = do
  line ← line_of words
  Ok (in_term term line)

-- what the first word says after `in` and a term, with all words, and with those after the first
abbrev pub made_row : Option TermKeyword → ℕ → List (List ℕ) → List (List ℕ) → Result TermLine LineFault
made_row (Some keyword.Trigger) term all words = trigger_row term words
made_row (Some keyword.Configure) term all words = configure_row term words
made_row first term all words = script_row term all

-- what is said with this term; there must be a word
unfoldable pub made_line : ℕ → List (List ℕ) → Result TermLine LineFault
made_line term [] = Err fault.Missing
made_line term (word ∷ words) = made_row (term_keyword_of word) term (word ∷ words) words

unfoldable pub in_row : List (List ℕ) → Result TermLine LineFault
in_row words = do
  term ← number_place words
  made_line term.0 term.1

unfoldable pub plain_row : List (List ℕ) → Result TermLine LineFault
plain_row words = do
  line ← line_of words
  Ok (without_term line)

-- the words after the first
unfoldable pub term_row : TermKeyword → List (List ℕ) → Result TermLine LineFault
term_row keyword.Fence words = fence_row words
term_row keyword.Reserve words = reserve_row words
term_row keyword.Forfeit words = forfeit_row words
term_row keyword.Advance words = advance_row words
term_row keyword.In words = in_row words
term_row keyword.Trigger words = trigger_row 0 words
term_row keyword.Configure words = configure_row 0 words

-- what the first word says, with all words, and with those after the first
abbrev pub term_row_of : Option TermKeyword → List (List ℕ) → List (List ℕ) → Result TermLine LineFault
term_row_of None all words = plain_row all
term_row_of (Some first) all words = term_row first words

unfoldable pub term_line_of : List (List ℕ) → Result TermLine LineFault
term_line_of [] = plain_row []
term_line_of (word ∷ words) = term_row_of (term_keyword_of word) (word ∷ words) words

unfoldable pub term_reading : List ℕ → Result TermLine LineFault
term_reading line = if is_too_long line then Err fault.TooLong else term_line_of (words_of (strip_carriage_return line))

-- the words after the term of an `in` begin a line with a list
unfoldable pub in_takes_memory : List (List ℕ) → Bool
in_takes_memory words = is_yes (do
  term ← number_place words
  Ok (begins_with_a_list term.1))

-- and those after the term of a `forfeit` begin with a name
unfoldable pub reaches_names : List (List ℕ) → Bool
reaches_names words = is_yes (do
  term ← number_place words
  Ok (begins_with_a_number term.1))

-- the words after the first may have a list
abbrev pub term_row_takes_memory : TermKeyword → List (List ℕ) → Bool
term_row_takes_memory keyword.Forfeit words = reaches_names words
term_row_takes_memory keyword.In words = in_takes_memory words
term_row_takes_memory first words = false

abbrev pub row_takes_memory : Option TermKeyword → List (List ℕ) → List (List ℕ) → Bool
row_takes_memory None all words = begins_with_a_list all
row_takes_memory (Some first) all words = term_row_takes_memory first words

abbrev pub term_takes_memory : List (List ℕ) → Bool
term_takes_memory [] = false
term_takes_memory (word ∷ words) = row_takes_memory (term_keyword_of word) (word ∷ words) words

-- `forfeit`, and the lines of a script with lists
unfoldable pub term_may_want_memory : List ℕ → Bool
term_may_want_memory line = not (is_too_long line) && term_takes_memory (words_of (strip_carriage_return line))

-- What the first word says, and the words after it if it begins a line that scripts do not have.
abbrev pub TermBegins : Option TermKeyword → List (List ℕ) → List (List ℕ) → Type 0
TermBegins (Some first) before after = (term_line_of before ≡ term_row first after) × (term_takes_memory before ≡ term_row_takes_memory first after)
TermBegins None before after = (term_line_of before ≡ plain_row before) × (term_takes_memory before ≡ begins_with_a_list before)
