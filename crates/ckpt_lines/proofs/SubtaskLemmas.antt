-- A subtask's word: the part before its first dot, and the part after it.
use Rattle.ckpt_lines.proofs.Names.{◌≡◌, ℕ, ◌+◌, ◌-◌, Bool, false, cond, ltb, ltb-false, List, [], length, take, drop, Option, Some, None, refl, arith, length-drop, position_or_len, take_all}
use Rattle.ckpt_lines.proofs.Names.{drop_all, is_dot, joined, number_of, part_of, subtask_of, common_steps}

abbrev dot_place : List ℕ → ℕ
dot_place word = position_or_len is_dot word

-- where `position` finds the first dot
abbrev pub dot_found : List ℕ → Option ℕ
dot_found word = cond (ltb (dot_place word) (length word)) (Some (dot_place word)) None

joined-none : (vertex : Option ℕ) → joined vertex None ≡ None
joined-none vertex = grind (arith, common_steps)

no_part : part_of [] ≡ None
unfolding part_of number_of
no_part = refl

found_none : (b : Bool) (p : ℕ) → cond b (Some p) None ≡ None → b ≡ false
found_none b p h2 = grind (arith, common_steps)

found_some : (b : Bool) (p dot : ℕ) → cond b (Some p) None ≡ Some dot → p ≡ dot
found_some b p dot h3 = grind (arith, common_steps)

pub subtask_without_dot : (word : List ℕ) → dot_found word ≡ None → subtask_of word ≡ None
unfolding subtask_of
subtask_without_dot word none = grind (arith, common_steps, drop_all, found_none, joined-none, ltb-false, no_part)

pub subtask_parts : (word : List ℕ) (dot : ℕ) → dot_found word ≡ Some dot → subtask_of word ≡ joined (part_of (take dot word)) (part_of (drop (dot + 1) word))
unfolding subtask_of
subtask_parts word dot found = grind (arith, common_steps)

pub whole_rest : (word : List ℕ) (from : ℕ) → take (length word - from) (drop from word) ≡ drop from word
whole_rest word from = take_all (length word - from) (drop from word) (omega (arith, length-drop from word))
