-- Answers the goals of `Ahead::move_to`.
use Rattle.ckpt_script.proofs.{◌≡◌, ℕ, ◌+◌, ◌-◌, ◌<◌, ◌≤◌, ◌++◌, ◌∷◌, [], List, length, take, drop, true, false, None, Some, ap, sym, ◌∙◌, refl, arith, append-nil, slice_range, length-take, Unread}
use Rattle.ckpt_script.proofs.{held, FindsNewline, Moves, newline, drop-slice_range}
use Rattle.ckpt_script.proofs.ahead.Ahead.move_to.Goals as goal

-- `shown` is the buffer, by the slice that was taken of it
module _ (shown buffer bytes line after : List ℕ) (from to : ℕ) (same : shown ≡ buffer) (is : bytes ≡ slice_range buffer from to) where
  all : bytes ≡ slice_range shown from to
  all = is ∙ ap (λ (b : List ℕ). slice_range b from to) (sym same)

  to_newline : (place : ℕ) → FindsNewline (slice_range shown from to) (Some place) → after ≡ take held (line ++ take place (slice_range shown from to))
      → Moves bytes (slice_range buffer (from + place + 1) to) line after true
  to_newline place found e =
      let short : length (slice_range shown from to) ≤ to - from = omega (arith, length-take (to - from) (drop from shown)) in
      let below : place < length (slice_range shown from to) = found.0 in
      let rest : drop (place + 1) (slice_range shown from to) ≡ slice_range buffer (from + place + 1) to =
      drop-slice_range shown from to (place + 1) (omega arith)
      ∙ ap (λ (k : ℕ). slice_range shown k to) (omega arith)
      ∙ ap (λ (b : List ℕ). slice_range b (from + place + 1) to) same in
      record {
        part = take place (slice_range shown from to);
        one_line = found.1;
        line_after = e;
        bytes_before = all ∙ found.2 ∙ ap (λ (xs : List ℕ). take place (slice_range shown from to) ++ newline ∷ xs) rest;
        none_left = λ h. cc;
      }

  none_left : slice_range buffer to to ≡ []
  none_left = let e : to - to ≡ 0 = omega arith in rw e refl

  to_end : FindsNewline (slice_range shown from to) None → after ≡ take held (line ++ slice_range shown from to) → Moves bytes (slice_range buffer to to) line after false
  to_end none e = record {
    part = slice_range shown from to;
    one_line = none;
    line_after = e;
    bytes_before = all ∙ sym (append-nil (slice_range shown from to)) ∙ ap (λ (xs : List ℕ). slice_range shown from to ++ xs) (sym none_left);
    none_left = λ h. none_left;
  }

pub returns-in_ok-hold-in-Some-clause-moved : goal.returns-in_ok-hold-in-Some-clause-moved
returns-in_ok-hold-in-Some-clause-moved c =
    to_newline c.as_slice.result.now c.self.inside.buffer.items c.args.self.now.bytes c.args.line.now.items c.hold.new.line.items c.self.inside.start c.self.inside.end
    c.as_slice.ensures.value (sym (ap (λ (u : Unread). u.bytes) c.self.view_is)) c.in-Some.place c.in-Some.ensures c.in_ok-hold-in-Some.ensures

pub returns-in_ok-hold-in-None-clause-moved : goal.returns-in_ok-hold-in-None-clause-moved
returns-in_ok-hold-in-None-clause-moved c =
    to_end c.as_slice.result.now c.self.inside.buffer.items c.args.self.now.bytes c.args.line.now.items c.hold-in-None.new.line.items c.self.inside.start c.self.inside.end
    c.as_slice.ensures.value (sym (ap (λ (u : Unread). u.bytes) c.self.view_is)) c.in-None.ensures c.in_ok-hold-in-None.ensures
