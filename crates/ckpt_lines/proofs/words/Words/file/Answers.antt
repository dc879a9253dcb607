-- Answers the goals of `Words::file`.
use Rattle.ckpt_lines.proofs.{◌≡◌, ℕ, ◌-◌, Err, List, length, sym, ap, refl, arith, err_from_is_err_and, file_place, words_of, after_sign, file_at-Some, file_at-None, file_at-Err}
use Rattle.ckpt_lines.proofs.{file_at-empty, whole_rest}
use Rattle.ckpt_lines.proofs.words.Words.file.Goals as goal

pub returns-in_default : goal.returns-in_default
returns-in_default c = rw (← c.self.view_is, ← c.without_spaces.ensures.words) (file_at-empty c.without_spaces.result.now c.in_default.len_below)

pub returns-in_err-is_fresh : goal.returns-in_err-is_fresh
returns-in_err-is_fresh c =
    let text : List ℕ = c.without_spaces.result.now in
    let p = err_from_is_err_and c.from_residual.result c.from_residual.ensures.1 in
    let failed : file_place c.args.self.now ≡ Err c.in_err-is_fresh.field-0.0 = rw (← c.self.view_is, ← c.without_spaces.ensures.words)
    (file_at-Err text _ (omega (arith, c.in-len1-up.len_at_least)) c.without_spaces.ensures.start c.in_err-is_fresh.ensures.0) in
    rw (p.1, p.2) (failed, c.in_err-is_fresh.ensures.1)

pub returns-in-Some : goal.returns-in-Some
returns-in-Some c =
    let text : List ℕ = c.without_spaces.result.now in
    rw (← c.self.view_is, ← c.without_spaces.ensures.words, ap words_of (whole_rest (after_sign text) c.in-Some.length), c.file_word.ensures)
    (file_at-Some text _ _ _ (omega (arith, c.in-len1-up.len_at_least)) c.without_spaces.ensures.start (sym c.in_ok-is_fresh.ensures) c.in-Some.ensures)

pub returns-in-None : goal.returns-in-None
returns-in-None c =
    let text : List ℕ = c.without_spaces.result.now in (
      rw (← c.self.view_is, ← c.without_spaces.ensures.words)
          (file_at-None text _ (omega (arith, c.in-len1-up.len_at_least)) c.without_spaces.ensures.start (sym c.in_ok-is_fresh.ensures) c.in-None.ensures),
      refl,
    )
