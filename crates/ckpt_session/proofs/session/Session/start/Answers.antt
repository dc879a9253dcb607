-- Answers the goals of `Session::start`.
use Rattle.ckpt_session.proofs.{ℕ, List, sym, ap, ◌∙◌, nat_le, option_map, MOMENTS_END, newly_opened, state_of_book, Staged, Scene, started_so_far, started_is, is_early, is_some-option_map}
use Rattle.ckpt_session.proofs.session.Session.start.Goals as goal

pub returns-in-Ok-clause-done : goal.returns-in-Ok-clause-done
returns-in-Ok-clause-done c =
    let scene : Scene = record { config = c.self.inside.config; shape = c.self.inside.shape; core = option_map state_of_book c.self.inside.book } in
    let config = c.in-Some-Some.config in
    started_is scene c.args.now c.in-Ok.book config c.in-Some-Some.shape
    (is_some-option_map state_of_book c.self.inside.book ∙ sym c.if-is_some.ensures) c.in-Some-Some.is-0 c.in-Some-Some.is-1 (is_early (nat_le MOMENTS_END c.args.now) _ c.in-Ok.ensures.fault)
    (c.in-Ok.ensures.value ∙ ap (λ (shape : List ℕ). newly_opened (record { config = config; shape = shape; start = c.args.now; first = 1 })) c.in_ok-copy.ensures)
    ∙ ap (λ (s : Staged). started_so_far s.scene c.args.now) c.self.view_is
