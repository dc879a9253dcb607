-- Answers the goals of `RecordParts::push`.
use Rattle.ckpt_registry.proofs.{AreCut-push, Cut, append_assoc, arith, length, parts_from-push, ◌≡◌}
use Rattle.ckpt_registry.proofs.record_parts.RecordParts.push.Goals as goal

pub invariant_of-self-2 : goal.invariant_of-self-2
invariant_of-self-2 c =
    let r = c.self.inside in
    let cut : Cut = record { subtask = c.args.subtask; middle = c.len-middle.result; end = c.len-end.result } in
    let fresh : length c.as_slice-fresh.result.now ≡ length c.args.fresh.now = rw c.as_slice-fresh.ensures.files in
    let reused : length c.as_slice-reused.result.now ≡ length c.args.reused.now = rw c.as_slice-reused.ensures.files in
    rw (c.push_reserved.ensures.items, c.in_ok-reserve-2.ensures.items, c.write-2.ensures.items, c.write.ensures.items, c.in_ok-reserve.ensures.items)
    (rw (c.as_slice-fresh.ensures.files, c.as_slice-reused.ensures.files, append_assoc)
    (AreCut-push r.files.items c.args.fresh.now c.args.reused.now cut (omega (arith, fresh, r.files.ok.0))
    (omega (arith, reused)) 0 r.cuts.items c.as_slice-fresh.ensures.ascending c.as_slice-reused.ensures.ascending c.self.invariant))

pub returns-clause-ok : goal.returns-clause-ok
returns-clause-ok c =
    let r = c.self.inside in
    let cut : Cut = record { subtask = c.args.subtask; middle = c.len-middle.result; end = c.len-end.result } in
    let fresh : length c.as_slice-fresh.result.now ≡ length c.args.fresh.now = rw c.as_slice-fresh.ensures.files in
    let reused : length c.as_slice-reused.result.now ≡ length c.args.reused.now = rw c.as_slice-reused.ensures.files in
    rw (c.push_reserved.ensures.items, c.in_ok-reserve-2.ensures.items, c.write-2.ensures.items, c.write.ensures.items, c.in_ok-reserve.ensures.items)
    (rw (c.as_slice-fresh.ensures.files, c.as_slice-reused.ensures.files, append_assoc, ← c.self.view_is)
    (parts_from-push r.files.items c.args.fresh.now c.args.reused.now cut (omega (arith, fresh, r.files.ok.0)) (omega (arith, reused)) 0 r.cuts.items c.self.invariant))
