-- Answers the goals of `report_each`.
use Rattle.ckpt_workers.proofs.{Answer, Bool, IsReported-next, IsReported-none, IsReported-stop, OnFalse_at, OnTrue_at, [], arith, cond, drop, drop_all, drop_at, false, length, refl, report_of, true}
use Rattle.ckpt_workers.proofs.{ℕ, ◌+◌, ◌≡◌}
use Rattle.ckpt_locked.specs.Locks.{Made}
use Rattle.ckpt_workers.proofs.discard.report_each.Goals as goal

pub loop-place-init : goal.loop-place-init
loop-place-init g c = record { reported = IsReported-none c.args.files c.args.gone (g.S.Storage.stored c.args.storage.now) c.args.pass c.requires.gone; counted = refl }

pub returns-then-not-answered-clause-reported : goal.returns-then-not-answered-clause-reported
returns-then-not-answered-clause-reported g c =
    let l = c.loop-place in
    let left = drop_at c.args.files l.place c.file_at-file.result c.file_at-file.ensures in
    let same : c.report-next.result.0 ≡ l.pass = OnFalse_at c.if-not-answered.true c.report-next.ensures.unanswered in
    let was = rw left at l.invariant.reported in
    rw (same, c.round.ensures, c.len-count.ensures, c.rest.ensures, left) (IsReported-stop _ _ c.file_at-file.result c.args.gone _ _ _ _ _ _ _ _ _ _ was c.try_delete-deleted.ensures)

pub loop-place-preserved : goal.loop-place-preserved
loop-place-preserved g c =
    let l = c.loop-place in
    let file = c.file_at-file.result in
    let deleted = c.try_delete-deleted.result in
    let made : (answer : Answer) × Made l.pass (report_of file deleted) c.report-next.result.0 answer = OnTrue_at c.if-not-answered.false c.report-next.ensures.answered in
    let was = rw (drop_at c.args.files l.place file c.file_at-file.ensures) at l.invariant.reported in
    let e = c.add.ensures in
    record {
      reported = rw (e.deleted, e.failed) (IsReported-next _ _ file c.args.gone _ deleted _ _ _ _ _ _ _ _ was c.try_delete-deleted.ensures _ made.0 made.1);
      counted = one_more _ _ l.counts.deleted l.counts.failed l.place deleted e.deleted e.failed l.invariant.counted;
    }
  where
    one_more : (d f e h p : ℕ) (b : Bool) → d ≡ e + cond b 1 0 → f ≡ h + cond b 0 1 → e + h ≡ p → d + f ≡ p + 1
    one_more d f e h p true i j k = omega arith
    one_more d f e h p false i j k = omega arith

pub returns-clause-reported : goal.returns-clause-reported
returns-clause-reported g c =
    let end : c.loop-place.place ≡ length c.args.files = omega (arith, c.len-count.ensures) in
    let was = rw end at c.loop-place.invariant.reported in
    rw (c.round-2.ensures, c.rest-2.ensures, c.len-count.ensures) was

pub returns-clause-ended : goal.returns-clause-ended
returns-clause-ended g c =
    let files = c.args.files in
    let l = c.loop-place in
    let end : l.place ≡ length files = omega (arith, c.len-count.ensures) in
    let all : drop (length files) files ≡ [] = drop_all (length files) files (omega arith) in
    let counted : l.counts.deleted + l.counts.failed ≡ l.place = l.invariant.counted in
    rw (c.round-2.ensures, c.rest-2.ensures, c.len-count.ensures, all)
    (record { all = λ _. (refl, not_gone l.gone (λ t. l.invariant.reported.gone_left t (rw (end, all)))); counted = omega arith })
  where
    not_gone : (gone : Bool) → (gone ≡ true → ⊥) → gone ≡ false
    not_gone true refuted = absurd (refuted refl)
    not_gone false refuted = refl
