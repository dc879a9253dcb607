-- Answers the goals of `AllLine::acknowledge`.
use Rattle.ckpt_session.proofs.{List, ap, subst, ◌∙◌, arith, Call, History, state_of_book, IsTeamwork, acks_for, all_shared, team_as_in_order, acknowledged_is}
use Rattle.ckpt_session.proofs.all.AllLine.acknowledge.Goals as goal

pub returns-clause-said : goal.returns-clause-said
returns-clause-said g c =
    let line = c.args.self.now in let missing = c.in_ok-missing.missing.items in
    let made = c.in_ok-made.made in
    let work = team_as_in_order c.args.book line c.args.metadata.now missing made c.recall_sound.ensures c.requires.pending c.in_ok-missing.ensures c.requires.threads.0
    (subst (λ (calls : List Call). IsTeamwork c.args.book calls line.threads made) (c.in_ok-acks.ensures ∙ ap (acks_for line) c.deref.ensures.value) c.in_ok-made.ensures.made) in
    acknowledged_is (state_of_book c.args.book) (state_of_book c.tell.new.made.book) line c.args.metadata.now missing made _ c.in_ok-missing.ensures
    (omega arith) work c.in_ok-outcome.ensures.state c.in_ok-outcome.ensures.outcome

pub returns-clause-entered : goal.returns-clause-entered
returns-clause-entered g c =
    let line = c.args.self.now in let made = c.in_ok-made.made in
    let work = c.in_ok-made.ensures.made in
    all_shared c.args.book.entries made.book.entries c.tell.new.made.book.entries work.new line.id line.threads
    (ap (λ (h : History). h.entries) work.book_is) work.seats c.in_ok-outcome.ensures.entered
