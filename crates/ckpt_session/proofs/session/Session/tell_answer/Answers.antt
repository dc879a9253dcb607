-- Answers the goals of `Session::tell_answer`.
use Rattle.ckpt_session.proofs.{◌≡◌, ◌++◌, Some, ap, sym, ◌∙◌, [], option_map, string_bytes, option_map_or, on_ok_weaker, MOST_SEATS, History, entered}
use Rattle.ckpt_session.proofs.{state_of_book, Answered, outcome_bytes, Staged, Scene, Done, called, called_is, entered_by_line}
use Rattle.ckpt_session.proofs.session.Session.tell_answer.Goals as goal

-- the state after the call and its answer are those of a call of the script
is_called : (c : goal.Joined-answer-2) → ◌≡◌ {A = Done} (record c.args.self.now.scene { core = Some (state_of_book c.apply-answer.new.self) }, Answered c.in-Ok.answer)
    (called c.args.self.now.scene c.args.self.now.scene.core c.args.call)
is_called c =
    called_is c.args.self.now.scene c.in-Some.book c.apply-answer.new.self MOST_SEATS c.args.call c.in-Ok.answer
    (ap (λ (s : Staged). s.scene.core) (sym c.self.view_is) ∙ ap (option_map state_of_book) c.in-Some.is)
    (rw c.in-Ok.is at c.apply-answer.ensures.entered) (rw c.in-Ok.is at c.apply-answer.ensures.answer)

pub returns-in-Ok-clause-scene : goal.returns-in-Ok-clause-scene
returns-in-Ok-clause-scene c =
    let here : Staged → Scene = λ s. record s.scene { core = Some (state_of_book c.apply-answer.new.self) } in
    on_ok_weaker c.write_answer.result (λ _. ap here c.self.view_is ∙ ap (λ (d : Done). d.0) (is_called c)) c.write_answer.ensures.text

pub returns-in-Ok-clause-text : goal.returns-in-Ok-clause-text
unfolding outcome_bytes
returns-in-Ok-clause-text c =
    on_ok_weaker c.write_answer.result (λ told. told ∙ ap (λ (d : Done). string_bytes c.args.text.now ++ outcome_bytes d.1) (is_called c)) c.write_answer.ensures.text

pub returns-in-Ok-clause-entered : goal.returns-in-Ok-clause-entered
returns-in-Ok-clause-entered c =
    on_ok_weaker c.write_answer.result
    (λ _. entered_by_line c.args.self.now (state_of_book c.in-Some.book) c.in-Some.book c.apply-answer.new.self c.args.call
    (ap (λ (s : Staged). s.scene.core) (sym c.self.view_is) ∙ ap (option_map state_of_book) c.in-Some.is)
    (ap (λ (s : Staged). s.entries) (sym c.self.view_is) ∙ ap (λ o. option_map_or (λ (b : History). b.entries) o []) c.in-Some.is)
    (rw c.in-Ok.is at c.apply-answer.ensures.entered)) c.write_answer.ensures.text
