-- What the first word says, once it is spelled as a keyword.
use Rattle.ckpt_lines.specs.Reading.{reaches_a_list}
use Rattle.ckpt_lines.proofs.Names.{◌≡◌, false, List, ℕ, ◌∷◌, Some, refl, Keyword, keyword_of, spelling, begins_with_a_list, is_comment, line_of, row, common_steps, arith}

-- the spelling of a keyword is read as that keyword, and not as a comment
pub found : (first : Keyword) → (keyword_of (spelling first) ≡ Some first) × (is_comment (spelling first) ≡ false)
unfolding keyword_of
found first = grind (arith, common_steps)

pub begins : (first : Keyword) (before after : List (List ℕ)) → before ≡ spelling first ∷ after → (line_of before ≡ row first after) × (begins_with_a_list before ≡ reaches_a_list first after)
unfolding line_of
begins first before after is = rw (is, (found first).0, (found first).1) (refl, refl)
