-- Answers the goals of `Ahead::front`.
use Rattle.ckpt_script.proofs.{◌≡◌, ◌≤◌, ◌∙◌, ℕ, List, length, take, min, ap, sym, subst, arith, slice_range, held, Unread, front-slice_range}
use Rattle.ckpt_script.proofs.ahead.Ahead.front.Goals as goal

pub returns : goal.returns
returns c =
    let same : slice_range c.as_slice.result.now c.self.inside.start c.self.inside.end ≡ c.args.self.now.bytes =
    ap (λ (b : List ℕ). slice_range b c.self.inside.start c.self.inside.end) c.as_slice.ensures.value ∙ ap (λ (u : Unread). u.bytes) c.self.view_is in
    let kept : c.min.result ≡ min c.args.newline held = omega arith in
    front-slice_range c.as_slice.result.now c.self.inside.start c.self.inside.end c.args.newline c.min.result (subst (λ (bs : List ℕ). c.args.newline ≤ length bs) (sym same) c.requires) kept
    ∙ ap (λ (bs : List ℕ). take held (take c.args.newline bs)) same
