-- Answers the goals of `RecordParts::has`.
use Rattle.ckpt_registry.proofs.{Cut, arith, between, files_in, get_or, length, length-take-le, lt-ltb, ltb-false, ltb-true, next_among, next_cut, next_end, next_times, parts_from, places, sym, take}
use Rattle.ckpt_registry.proofs.{times, ◌∙◌, ◌≡◌, ◌≤◌}
use Rattle.ckpt_registry.proofs.record_parts.RecordParts.has.Goals as goal

pub slice_bounds-cut-items-end : goal.slice_bounds-cut-items-end
slice_bounds-cut-items-end c =
    let r = c.self.inside in
    let same : length c.deref.result.now ≡ length r.cuts.items = rw c.deref.ensures.value in
    sym (length-take-le c.args.parts c.deref.result.now (omega (arith, same, places c.args.self.now r.cuts.items r.files.items c.args.parts c.self.view_is c.requires)))

pub is_in_part-requires : goal.is_in_part-requires
is_in_part-requires c =
    let r = c.self.inside in
    next_cut r.cuts.items r.files.items c.args.parts c.loop-cut.cut-index _ _ _ c.deref.ensures.value c.deref-in-loop-cut.ensures.value
    (places c.args.self.now r.cuts.items r.files.items c.args.parts c.self.view_is c.requires)
    c.loop-cut-test.true c.self.invariant c.loop-cut.start c.loop-cut.invariant.start

pub returns-then-is_in_part : goal.returns-then-is_in_part
returns-then-is_in_part c =
    let r = c.self.inside in
    let f = c.args.file in
    let i = c.loop-cut.cut-index in
    let n = c.args.parts in
    let fits : n ≤ length r.cuts.items = places c.args.self.now r.cuts.items r.files.items n c.self.view_is c.requires in
    let d : Cut = record { subtask = record { vertex = 0; index = 0 }; middle = 0; end = 0 } in
    let here = ltb-true 0 (times f (between c.loop-cut.start (get_or (take n c.deref.result.now) i d).end c.deref-in-loop-cut.result.now)) (sym c.is_in_part.ensures ∙ c.if-is_in_part.true) in
    let more =
    next_times r.cuts.items r.files.items n i _ _ d c.deref.ensures.value c.deref-in-loop-cut.ensures.value fits c.loop-cut-test.true c.self.invariant f c.loop-cut.start c.loop-cut.invariant.start in
    let among = next_among r.cuts.items r.files.items n i _ _ d c.deref.ensures.value c.deref-in-loop-cut.ensures.value fits c.loop-cut-test.true c.self.invariant f in
    rw (← c.self.view_is) (sym (lt-ltb 0 (times f (files_in (take n (parts_from 0 r.cuts.items r.files.items)))) (omega (arith, here, more, among))))

pub loop-cut-preserved : goal.loop-cut-preserved
loop-cut-preserved c =
    let r = c.self.inside in
    let f = c.args.file in
    let i = c.loop-cut.cut-index in
    let n = c.args.parts in
    let fits : n ≤ length r.cuts.items = places c.args.self.now r.cuts.items r.files.items n c.self.view_is c.requires in
    let d : Cut = record { subtask = record { vertex = 0; index = 0 }; middle = 0; end = 0 } in
    let absent = ltb-false 0 (times f (between c.loop-cut.start (get_or (take n c.deref.result.now) i d).end c.deref-in-loop-cut.result.now)) (sym c.is_in_part.ensures ∙ c.if-is_in_part.false) in
    let more =
    next_times r.cuts.items r.files.items n i _ _ d c.deref.ensures.value c.deref-in-loop-cut.ensures.value fits c.loop-cut-test.true c.self.invariant f c.loop-cut.start c.loop-cut.invariant.start in
    record {
      start = next_end r.cuts.items r.files.items n i _ _ _ c.deref.ensures.value c.deref-in-loop-cut.ensures.value fits c.loop-cut-test.true c.self.invariant;
      none = omega (arith, absent, more, c.loop-cut.invariant.none);
    }

pub returns : goal.returns
returns c =
    let r = c.self.inside in
    let n = c.args.parts in
    let same : length c.deref.result.now ≡ length r.cuts.items = rw c.deref.ensures.value in
    let row : length (take n c.deref.result.now) ≡ n = length-take-le n c.deref.result.now (omega (arith, same, places c.args.self.now r.cuts.items r.files.items n c.self.view_is c.requires)) in
    let all : n ≡ c.loop-cut.cut-index = omega (arith, row, c.loop-cut-test.false, c.loop-cut.auto.cut-index-end) in
    rw (← c.self.view_is, all, c.loop-cut.invariant.none)
