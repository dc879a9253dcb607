-- The first line of a text, and what follows its newline.
use Rattle.std.proofs.Common.{◌≡◌, ℕ, ◌+◌, ◌-◌, List, ◌∷◌, length, take, drop, Some, sym, ap, ◌∙◌, arith, length-drop}
use Rattle.std.proofs.lemmas.List.{take_all}
use Rattle.ckpt_script.specs.Lines.{FindsNewline, lines_of}
use Rattle.ckpt_script.proofs.LineLemmas.{lines_of-line}

pub first_then : (bytes : List ℕ) (place : ℕ) → FindsNewline bytes (Some place) → lines_of bytes ≡ take place bytes ∷ lines_of (take (length bytes - (place + 1)) (drop (place + 1) bytes))
first_then bytes place found =
    ap lines_of found.2 ∙ lines_of-line (take place bytes) (drop (place + 1) bytes) found.1
    ∙ ap (λ (rest : List ℕ). take place bytes ∷ lines_of rest) (sym (take_all (length bytes - (place + 1)) (drop (place + 1) bytes) (omega (arith, length-drop (place + 1) bytes))))
