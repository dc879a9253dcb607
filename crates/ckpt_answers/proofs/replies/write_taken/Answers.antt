-- Answers the goals of `write_taken`.
use Rattle.ckpt_answers.proofs.{◌≡◌, List, [], ◌∷◌, ℕ, refl, codes, flat_map, rules, false≢true, spaced, taken_bytes}
use Rattle.ckpt_answers.proofs.replies.write_taken.Goals as goal

taken_bytes-none : (files : List ℕ) → files ≡ [] → taken_bytes files ≡ codes " none"
unfolding taken_bytes
taken_bytes-none files none = rw none refl

taken_bytes-some : (files : List ℕ) → (files ≡ [] → ⊥) → taken_bytes files ≡ flat_map spaced files
unfolding taken_bytes
taken_bytes-some [] some = absurd (some refl)
taken_bytes-some (file ∷ files) some = refl

pub returns-then-is_empty-clause-text : goal.returns-then-is_empty-clause-text
returns-then-is_empty-clause-text c =
    let none = taken_bytes-none c.args.files.now (c.if-is_empty.ensures.0 refl) in let before = c.in_ok-push_str.ensures.bytes in
    let pushed = c.push_str-then-is_empty.ensures.bytes in
    rw (none, ← before) (search rules)

pub returns-clause-text : goal.returns-clause-text
returns-clause-text c =
    let some = taken_bytes-some c.args.files.now (λ none. false≢true (c.if-is_empty.ensures.1 none)) in
    let before = c.in_ok-push_str.ensures.bytes in
    rw (some, ← before) c.write_files.ensures.text
