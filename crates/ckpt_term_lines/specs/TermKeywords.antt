-- The first word of a line that scripts do not have.
use Rattle.std.specs.Prelude.{ℕ, List, [], ◌∷◌, codes, Option, find}
use Rattle.std.specs.Str.{bytes_eq}
use Rattle.ckpt_term_lines.specs.declared.keyword.TermKeyword.{TermKeyword}
use Rattle.ckpt_term_lines.specs.declared.keyword.TermKeyword.TheVariants.{Fence, Reserve, Forfeit, In, Trigger, Configure, Advance}

abbrev pub term_spelling : TermKeyword → List ℕ
term_spelling Fence = codes "fence"
term_spelling Reserve = codes "reserve"
term_spelling Forfeit = codes "forfeit"
term_spelling Advance = codes "advance"
term_spelling In = codes "in"
term_spelling Trigger = codes "trigger"
term_spelling Configure = codes "configure"

abbrev pub term_keywords : List TermKeyword
term_keywords = Fence ∷ Reserve ∷ Forfeit ∷ Advance ∷ In ∷ Trigger ∷ Configure ∷ []

unfoldable pub term_keyword_of : List ℕ → Option TermKeyword
term_keyword_of word = find (λ keyword. bytes_eq (term_spelling keyword) word) term_keywords
