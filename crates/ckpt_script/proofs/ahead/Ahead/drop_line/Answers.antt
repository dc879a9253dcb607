-- Answers the goals of `Ahead::drop_line`.
use Rattle.ckpt_script.proofs.{◌≡◌, ◌+◌, ◌-◌, ◌<◌, ◌≤◌, ◌∙◌, ℕ, List, length, drop, ap, sym, subst, arith, slice_range, length-take, Unread, drop-slice_range}
use Rattle.ckpt_script.proofs.ahead.Ahead.drop_line.Goals as goal

pub returns : goal.returns
returns c =
    let bytes : List ℕ = c.self.inside.buffer.items in let start : ℕ = c.self.inside.start in
    let end : ℕ = c.self.inside.end in
    let short : length (slice_range bytes start end) ≤ end - start = omega (arith, length-take (end - start) (drop start bytes)) in
    let below : c.args.newline < length (slice_range bytes start end) = subst (λ (u : Unread). c.args.newline < length u.bytes) (sym c.self.view_is) c.requires in
    let rest : slice_range bytes (start + c.args.newline + 1) end ≡ drop (c.args.newline + 1) (slice_range bytes start end) =
    ap (λ (k : ℕ). slice_range bytes k end) (omega arith) ∙ sym (drop-slice_range bytes start end (c.args.newline + 1) (omega (arith, short, below))) in
    ap (λ (xs : List ℕ). record { bytes = xs; is_ended = c.self.inside.is_ended; reads_left = c.self.inside.reads_left }) rest
    ∙ ap (λ (u : Unread). record { bytes = drop (c.args.newline + 1) u.bytes; is_ended = u.is_ended; reads_left = u.reads_left }) c.self.view_is
