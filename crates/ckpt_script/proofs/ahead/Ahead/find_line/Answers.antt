-- Answers the goals of `Ahead::find_line`.
use Rattle.ckpt_script.proofs.{false, prepend_known, HoldsPart, ◌≢◌, [], ◌≡◌, sym, ◌∙◌, arith, rules, Memory, caused_by_memory, fails_on, fails_for_memory, length-take_held, moved_fewer}
use Rattle.ckpt_script.proofs.{WhereKnown-keeps}
use Rattle.ckpt_script.proofs.{WhereKnown-unread, parts_go_on, lines_end, text_ends, passes_on, if_err_is}
use Rattle.ckpt_script.proofs.ahead.Ahead.find_line.Goals as goal

pub returns-then-branch-clause-line : goal.returns-then-branch-clause-line
returns-then-branch-clause-line g c =
    let moves = rw c.if-branch.true at c.in_ok-move_to.ensures.moved in
    record { ahead = tt; read = lines_end _ _ _ moves c.loop-self.invariant.part }

pub loop-self-preserved : goal.loop-self-preserved
loop-self-preserved g c =
    let moves = rw c.if-branch.false at c.in_ok-move_to.ensures.moved in let filled = c.in_ok-fill-2.ensures in
    let some : c.loop-self.self.bytes ≢ [] = search rules in let fewer = moved_fewer false moves some in
    record {
      part = WhereKnown-keeps _ _ _ _ (parts_go_on _ _ moves c.loop-self.invariant.part) filled.read.kept;
      few = length-take_held _ _ moves.line_after;
      followed = record { ended = filled.read.ended; counted = filled.filled.counted };
      stays = λ e. c.loop-self.invariant.stays (sym c.in_ok-move_to.ensures.ended ∙ filled.read.stays e);
      filled = filled.filled.filled;
      bytes_used = omega (arith, fewer, c.loop-self.invariant.bytes_used, filled.filled.bytes_used);
      further = λ _. omega (arith, fewer, c.loop-self.invariant.bytes_used, c.loop-self.invariant.followed.counted.given, filled.filled.bytes_used);
      shown = record { passes = passes_on c.loop-self.invariant.shown.passes filled.shown.passes; going_on = filled.shown.going_on };
      tied = λ t. filled.tied (c.loop-self.invariant.tied t);
      same_source = filled.same_source ∙ c.loop-self.invariant.same_source;
      same_sink = filled.same_sink ∙ c.loop-self.invariant.same_sink;
    }

pub returns-in_err-fill-2-clause-part : goal.returns-in_err-fill-2-clause-part
returns-in_err-fill-2-clause-part g c = if_err_is c.from_residual-in_err-fill-2.result c.in_err-fill-2.field-0.0 _ c.from_residual-in_err-fill-2.ensures.1
    (λ read. let moves = rw c.if-branch.false at c.in_ok-move_to.ensures.moved in
    let part = WhereKnown-keeps _ _ _ (λ all left. HoldsPart all left c.move_to.new.line.items) (parts_go_on _ _ moves c.loop-self.invariant.part) c.in_err-fill-2.ensures.read.kept in
    WhereKnown-unread (prepend_known c.args.self.now.bytes (g.S.Source.remaining c.args.source.now)) (g.S.Source.remaining c.fill-in-loop-self.new.source) c.fill-in-loop-self.new.self.bytes
    (λ all left. HoldsPart all left c.move_to.new.line.items) c.in_err-fill-2.ensures.unread part)

pub returns-in_err-fill-2-clause-fault : goal.returns-in_err-fill-2-clause-fault
returns-in_err-fill-2-clause-fault g c = if_err_is c.from_residual-in_err-fill-2.result c.in_err-fill-2.field-0.0 _ c.from_residual-in_err-fill-2.ensures.1
    (fails_on c.args.self.now (λ e. c.loop-self.invariant.stays (sym c.in_ok-move_to.ensures.ended ∙ e)) c.loop-self.invariant.shown.passes c.in_err-fill-2.ensures.fault)

pub returns-in_err-move_to-clause-fault : goal.returns-in_err-move_to-clause-fault
returns-in_err-move_to-clause-fault g c =
    if_err_is c.from_residual-in_err-move_to.result Memory _ c.from_residual-in_err-move_to.ensures.1 (fails_for_memory c.args.self.now c.loop-self.invariant.shown.passes)

pub returns-in_err-move_to-clause-cause : goal.returns-in_err-move_to-clause-cause
returns-in_err-move_to-clause-cause g c =
    let sure = c.loop-self.invariant in
    if_err_is c.from_residual-in_err-move_to.result Memory _ c.from_residual-in_err-move_to.ensures.1
    (caused_by_memory _ _ sure.shown.going_on (omega (arith, sure.followed.counted.times)) sure.followed.counted.none_failed)

pub returns-clause-line : goal.returns-clause-line
returns-clause-line g c =
    let none : c.loop-self.self.bytes ≡ [] = search rules in let ended = c.loop-self.invariant.filled none in
    record { ahead = tt; read = text_ends _ _ _ _ _ none ended (c.loop-self.invariant.followed.ended ended) c.loop-self.invariant.part }
