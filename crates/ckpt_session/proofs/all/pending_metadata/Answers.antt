-- Answers the goals of `pending_metadata`.
use Rattle.ckpt_session.proofs.{ap, ◌∙◌, Show, MOST_SEATS, state_of_book, shown_pending, state_of_book-entered, answer_to-step, asks_once, shown_state, shown_is}
use Rattle.ckpt_session.proofs.all.pending_metadata.Goals as goal

pub returns-in-Ok-clause-state : goal.returns-in-Ok-clause-state
returns-in-Ok-clause-state c =
    ap state_of_book c.in-Ok.ensures.entered ∙ state_of_book-entered c.args.book.now MOST_SEATS (Show c.args.id) ∙ shown_state (state_of_book c.args.book.now) c.args.id

pub returns-in-Ok-clause-value : goal.returns-in-Ok-clause-value
returns-in-Ok-clause-value c =
    c.pending.ensures ∙ ap shown_pending (c.in-Ok.ensures.answer ∙ answer_to-step c.args.book.now (Show c.args.id))
    ∙ shown_is (state_of_book c.args.book.now) c.args.id c.recall_sound.ensures

pub returns-in-Ok-clause-entered : goal.returns-in-Ok-clause-entered
returns-in-Ok-clause-entered c = asks_once c.args.book.now c.apply.new.self c.args.id c.in-Ok.ensures.entered
