-- How calls are written as lines of a log whose job gives out names.
use Rattle.std.specs.Prelude.{ℕ, ◌≤◌, ◌==◌, List, ◌++◌, flat_map, codes, length, if◌then◌else◌, Ok, ◌≡◌}
use Rattle.ckpt_ids.specs.declared.call.Call.{Call}
use Rattle.ckpt_lines.specs.declared.limits.TheConstants.{LONGEST_LINE}
use Rattle.ckpt_answers.specs.Texts.{spaced}
use Rattle.ckpt_lines.specs.CallTexts.{Fits, FitsCall, FitsFiles, call_text}
use Rattle.ckpt_terms.specs.declared.call.FencedCall.{FencedCall}
use Rattle.ckpt_terms.specs.declared.call.FencedCall.TheVariants as call
use Rattle.ckpt_term_lines.specs.{declared.line.TermLine.TermLine, TermReading.term_reading}

-- a call with term 0 is written as in a script
abbrev pub made_text : ℕ → Call → List ℕ
made_text term made = if term == 0 then call_text made else codes "in" ++ spaced term ++ codes " " ++ call_text made

-- the line of a call, without its newline
unfoldable pub term_text : FencedCall → List ℕ
term_text (call.Reserve term count) = codes "reserve" ++ spaced term ++ spaced count
term_text (call.Forfeit term names) = codes "forfeit" ++ spaced term ++ flat_map spaced names
term_text (call.Advance now term first) = codes "advance" ++ spaced now ++ spaced term ++ spaced first
term_text (call.Make term made) = made_text term made

unfoldable pub fence_text : ℕ → List ℕ
fence_text first = codes "fence" ++ spaced first

-- what the types of the places allow
abbrev pub FitsTermCall : FencedCall → Type 0
FitsTermCall (call.Reserve term count) = Fits term × Fits count
FitsTermCall (call.Forfeit term names) = Fits term × FitsFiles names
FitsTermCall (call.Advance now term first) = Fits now × Fits term × Fits first
FitsTermCall (call.Make term made) = Fits term × FitsCall made

-- a text within the limit of lines is read as this line
abbrev pub IsTermReadAs : TermLine → List ℕ → Type 0
IsTermReadAs read text = length text ≤ LONGEST_LINE → term_reading text ≡ Ok read
