-- Answers the goals of `Session::answer`.
use Rattle.ckpt_session.proofs.{ap, sym, ◌∙◌, [], option_map, option_map_or, MOST_SEATS, History, state_of_book, Staged, Scene, called, called_is, entered_by_line}
use Rattle.ckpt_session.proofs.session.Session.answer.Goals as goal

pub returns-in-Ok-clause-done : goal.returns-in-Ok-clause-done
returns-in-Ok-clause-done c =
    let scene : Scene = record { config = c.self.inside.config; shape = c.self.inside.shape; core = option_map state_of_book c.self.inside.book } in
    called_is scene c.in-Some.book c.apply.new.self MOST_SEATS c.args.call c.in-Ok.answer (ap (option_map state_of_book) c.in-Some.is) c.in-Ok.ensures.entered c.in-Ok.ensures.answer
    ∙ ap (λ (s : Staged). called s.scene s.scene.core c.args.call) c.self.view_is

pub returns-in-Ok-clause-entered : goal.returns-in-Ok-clause-entered
returns-in-Ok-clause-entered c =
    entered_by_line c.args.self.now (state_of_book c.in-Some.book) c.in-Some.book c.apply.new.self c.args.call
    (ap (λ (s : Staged). s.scene.core) (sym c.self.view_is) ∙ ap (option_map state_of_book) c.in-Some.is)
    (ap (λ (s : Staged). s.entries) (sym c.self.view_is) ∙ ap (λ o. option_map_or (λ (b : History). b.entries) o []) c.in-Some.is)
    c.in-Ok.ensures.entered
