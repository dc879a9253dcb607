-- Answers the goals of `Runner::next`.
use Rattle.ckpt_script.proofs.{◌≡◌, ℕ, ◌+◌, ◌≤◌, Bool, true, false, cond, refl, sym, subst, arith, prepend_known, used, Unread, IsFollowed, all_left, left_by, line_at, IsSoFar, source_causes}
use Rattle.ckpt_script.proofs.{followed_still, some_bytes, if_err_is, so_far_shown, so_far_filled, stopped_cut, stopped_taking, stopped_filling, stopped_full, cut_so_far, stopped_reading}
use Rattle.ckpt_script.proofs.{cut_obeying, so_far_obeyed}
use Rattle.ckpt_script.proofs.runner.Runner.next.Goals as goal

-- a line more, and at most a fault more
faults_within : (b : Bool) (faults lines faults' lines' : ℕ) → faults' ≡ faults + cond b 1 0 → lines' ≡ lines + 1 → faults ≤ lines → faults' ≤ lines'
faults_within true faults lines faults' lines' e f within = omega arith
faults_within false faults lines faults' lines' e f within = omega arith

pub returns-in_err-fill-clause-stopped : goal.returns-in_err-fill-clause-stopped
returns-in_err-fill-clause-stopped g c =
    let failed = c.in_err-fill.ensures in
    if_err_is c.from_residual.result c.in_err-fill.field-0.0 _ c.from_residual.ensures.1 (λ text before so_far.
    stopped_taking text (g.S.Source.remaining c.fill.new.source) before (g.K.Sink.contents c.fill.new.sink) c.fill.new.printed.bytes c.in_err-fill.field-0.0 failed.fault.fault
    (λ read. let shown = so_far_shown text _ before _ _ _ so_far (failed.fault.shown_read read) in
    stopped_filling text _ before _ _ _ _ _ shown c.fill.new.self.bytes (g.S.Source.remaining c.fill.new.source) failed.read.kept failed.unread (failed.fault.stays read))
    (let shown = so_far_shown text _ before _ _ _ so_far failed.fault.cut.1 in
    cut_so_far text _ before _ _ _ _ _ shown c.fill.new.self.bytes (g.S.Source.remaining c.fill.new.source) failed.read.kept))

pub returns-in_err-fill-clause-cause : goal.returns-in_err-fill-clause-cause
returns-in_err-fill-clause-cause g c = if_err_is c.from_residual.result c.in_err-fill.field-0.0 _ c.from_residual.ensures.1 c.in_err-fill.ensures.cause

pub returns-then-is_empty-clause-ready : goal.returns-then-is_empty-clause-ready
returns-then-is_empty-clause-ready g c =
    let filled = c.in_ok-fill.ensures in let was = c.requires.ready in
    record {
      followed = record { ended = filled.read.ended; counted = filled.filled.counted };
      going_on = filled.shown.going_on;
      lines = was.lines;
      bytes_used = omega (arith, filled.filled.bytes_used, was.bytes_used);
      faults = was.faults;
    }

pub returns-then-is_empty-clause-so_far : goal.returns-then-is_empty-clause-so_far
returns-then-is_empty-clause-so_far g c = λ text before so_far.
    let shown = so_far_shown text _ before _ _ _ so_far c.in_ok-fill.ensures.shown.passes in
    so_far_filled text _ _ before _ _ _ _ _ _ shown c.in_ok-fill.ensures.read.kept c.in_ok-fill.ensures.read.stays

pub returns-then-self-eq-MOST_LINES-clause-stopped : goal.returns-then-self-eq-MOST_LINES-clause-stopped
returns-then-self-eq-MOST_LINES-clause-stopped g c = λ text before so_far.
    let shown = so_far_shown text _ before _ _ _ so_far c.in_ok-fill.ensures.shown.passes in
    stopped_full text _ before _ _ _ _ _ shown c.fill.new.self.bytes (g.S.Source.remaining c.fill.new.source) c.in_ok-fill.ensures.read.kept
    (c.if-is_empty.ensures.some refl).0 c.if-self-eq-MOST_LINES.true

-- a further line began, and each before it took a byte at least
pub returns-then-self-eq-MOST_LINES-clause-cause : goal.returns-then-self-eq-MOST_LINES-clause-cause
returns-then-self-eq-MOST_LINES-clause-cause g c =
    let some = some_bytes c.fill.new.self.bytes (c.if-is_empty.ensures.some refl).0 in let filled = c.in_ok-fill.ensures in
    record {
      few = omega (arith, filled.filled.counted.times);
      source = (filled.filled.counted.none_failed, omega (arith, some, filled.filled.counted.given, filled.filled.bytes_used, c.requires.ready.bytes_used, c.if-self-eq-MOST_LINES.true));
      sink = filled.shown.going_on;
    }

pub returns-in_err-newline-clause-stopped : goal.returns-in_err-newline-clause-stopped
returns-in_err-newline-clause-stopped g c = if_err_is c.from_residual-in_err-newline.result c.in_err-newline.field-0.0 _ c.from_residual-in_err-newline.ensures.1
    (λ text before so_far.
    let failed = c.in_err-newline.ensures in let read_on = c.in_ok-fill.ensures.read in
    let first = so_far_shown text _ before _ _ _ so_far c.in_ok-fill.ensures.shown.passes in
    stopped_taking text (g.S.Source.remaining c.find_line.new.source) before (g.K.Sink.contents c.find_line.new.sink) c.find_line.new.printed.bytes c.in_err-newline.field-0.0 failed.fault.fault
    (λ read. let next = so_far_shown text _ before _ _ _ first (failed.fault.shown_read read) in
    stopped_reading text _ before _ _ _ _ _ next c.fill.new.self.bytes (g.S.Source.remaining c.fill.new.source) read_on.kept
    (g.S.Source.remaining c.find_line.new.source) c.find_line.new.line.items (read_on.stays (c.if-is_empty.ensures.some refl).1) (failed.part read))
    (let next = so_far_shown text _ before _ _ _ first failed.fault.cut.1 in
    cut_so_far text _ before _ _ _ _ _ next c.fill.new.self.bytes (g.S.Source.remaining c.fill.new.source) read_on.kept))

pub returns-in_err-newline-clause-cause : goal.returns-in_err-newline-clause-cause
returns-in_err-newline-clause-cause g c = if_err_is c.from_residual-in_err-newline.result c.in_err-newline.field-0.0 _ c.from_residual-in_err-newline.ensures.1 c.in_err-newline.ensures.cause

pub returns-in_err-obey-clause-stopped : goal.returns-in_err-obey-clause-stopped
returns-in_err-obey-clause-stopped g c = if_err_is c.from_residual-in_err-obey.result c.in_err-obey.field-0.0 _ c.from_residual-in_err-obey.ensures.1
    (λ text before so_far.
    let some = c.if-is_empty.ensures.some refl in let failed = c.in_err-obey.ensures.fault in let read_on = c.in_ok-fill.ensures.read in
    let first = so_far_shown text _ before _ _ _ so_far c.in_ok-fill.ensures.shown.passes in
    let next = so_far_shown text _ before _ _ _ first c.in_ok-newline.ensures.shown.passes in
    stopped_cut text (g.S.Source.remaining c.find_line.new.source) before (g.K.Sink.contents c.obey.new.sink) c.obey.new.self.printed.bytes c.in_err-obey.field-0.0 failed.fault.0 failed.fault.1
    (cut_obeying text _ before _ _ _ _ _ next c.fill.new.self.bytes (g.S.Source.remaining c.fill.new.source) read_on.kept _ (g.K.Sink.contents c.obey.new.sink) _ (read_on.stays some.1) some.0
    (line_at c.find_line.new.self c.find_line.new.line.items c.in_ok-newline.newline) c.in_ok-newline.ensures.line.read c.front.ensures (omega arith) failed.cut))

pub returns-in_err-obey-clause-cause : goal.returns-in_err-obey-clause-cause
returns-in_err-obey-clause-cause g c = if_err_is c.from_residual-in_err-obey.result c.in_err-obey.field-0.0 _ c.from_residual-in_err-obey.ensures.1
    (record {
      few = omega (arith, c.in_ok-newline.ensures.counted.times);
      source = source_causes (g.S.Source.asked c.find_line.new.source) c.in_err-obey.field-0.0 c.in_err-obey.ensures.fault.fault.0 c.in_err-obey.ensures.fault.fault.1
          c.in_ok-newline.ensures.counted.none_failed;
      sink = c.in_err-obey.ensures.cause;
    })

pub returns-clause-ready : goal.returns-clause-ready
returns-clause-ready g c =
    let further = c.in_ok-newline.ensures.bytes_used (c.if-is_empty.ensures.some refl).0 in
    let obeyed = c.in_ok-obey.ensures.obeyed in
    record {
      followed = subst (λ u. IsFollowed (g.S.Source.remaining c.find_line.new.source) (g.S.Source.asked c.find_line.new.source) u) (sym c.in_ok-obey.ensures.left)
          (followed_still _ _ c.find_line.new.self c.in_ok-newline.newline c.in_ok-newline.ensures.ended c.in_ok-newline.ensures.counted);
      going_on = c.in_ok-obey.ensures.shown.going_on;
      lines = omega (arith, obeyed.lines, c.if-self-eq-MOST_LINES.false, c.requires.ready.lines);
      bytes_used = subst (λ u. c.obey.new.self.summary.lines ≤ used (g.S.Source.asked c.find_line.new.source) u) (sym c.in_ok-obey.ensures.left)
          (omega (arith, further, obeyed.lines, c.in_ok-fill.ensures.filled.bytes_used, c.requires.ready.bytes_used));
      faults = faults_within _ _ _ _ _ obeyed.faults obeyed.lines c.requires.ready.faults;
    }

pub returns-clause-so_far : goal.returns-clause-so_far
returns-clause-so_far g c = λ text before so_far.
    let some = c.if-is_empty.ensures.some refl in let obeyed = c.in_ok-obey.ensures.obeyed in let read_on = c.in_ok-fill.ensures.read in
    let first = so_far_shown text _ before _ _ _ so_far c.in_ok-fill.ensures.shown.passes in
    let next = so_far_shown text _ before _ _ _ first c.in_ok-newline.ensures.shown.passes in
    let left : Unread = left_by c.find_line.new.self c.in_ok-newline.newline in
    subst (λ (u : Unread). IsSoFar text (prepend_known u.bytes (g.S.Source.remaining c.find_line.new.source)) before (g.K.Sink.contents c.obey.new.sink) u.is_ended
    c.obey.new.self.summary c.obey.new.self.session.scene c.obey.new.self.printed.bytes) (sym c.in_ok-obey.ensures.left)
    (so_far_obeyed text _ before _ _ _ _ _ next c.fill.new.self.bytes (g.S.Source.remaining c.fill.new.source) read_on.kept
    (all_left left (g.S.Source.remaining c.find_line.new.source)) (g.K.Sink.contents c.obey.new.sink) left.is_ended (read_on.stays some.1) some.0
    (line_at c.find_line.new.self c.find_line.new.line.items c.in_ok-newline.newline) c.in_ok-newline.ensures.line.read c.front.ensures _ _ _ obeyed.lines
    (omega (arith, obeyed.lines, c.if-self-eq-MOST_LINES.false, c.requires.ready.lines)) obeyed.faults obeyed.scene c.in_ok-obey.ensures.shown.passes)
