-- Answers the goals of `settle`.
use Rattle.ckpt_registry.proofs.{AreSettled, IsIn-get_or, List, Pinner, ap, arith, count-parts_of, count-stored, each_file, files_in, get_or, item_left, left_more, length, length-set, own_files}
use Rattle.ckpt_registry.proofs.{own_in, own_in-push, own_in-settled, parts_of, parts_pinned, set, settled_more, sum_by-take-le, sum_by_more, take, take_more, take_more_set, times, times-from_IsIn, ℕ}
use Rattle.ckpt_registry.proofs.{◌+◌, ◌<◌, ◌∙◌, ◌≡◌}
use Rattle.ckpt_registry.proofs.pins.settle.Goals as goal

pub settle-requires-clause-kept : goal.settle-requires-clause-kept
settle-requires-clause-kept c =
    let old : List Pinner = c.args.pinned.now.items in
    let now : List Pinner = c.loop-one.one-items in
    let i = c.loop-one.one-index in
    let d = c.one-item.result in
    let before = c.loop-one.invariant in
    let k = c.requires in
    let within : i < length now = omega (arith, c.loop-one.auto.one-items) in
    let here : i < length old = omega (arith, before.same_length) in
    let same : get_or now i d ≡ get_or old i d = item_left c.args.chosen c.args.parts.now old now i d within before.same_length before.left in
    let settled : AreSettled c.args.chosen (parts_of k.0 c.args.chosen) (take i old) (take i now) = rw k.1 before.settled in
    let held : ℕ → Pinner → ℕ = λ f o. times f (each_file (parts_pinned k.0 o.pins)) in
    rw same (
      k.0,
      k.1,
      k.2.kept (get_or old i d) (IsIn-get_or old i d here),
      λ f.
          omega (
            arith,
            before.counted f,
            (own_in-settled k.0 c.args.chosen f (take i old) (take i now) settled).1,
            count-stored k.0 old c.args.counts.now k.2 f,
            k.2.below f,
            sum_by_more
                (held f) old i d here,
            sum_by-take-le (held f) old (i + 1),
          ),
    )

pub settle-requires-clause-present : goal.settle-requires-clause-present
settle-requires-clause-present c = λ f h.
    let k = c.requires in
    let old : List Pinner = take c.loop-one.one-index c.args.pinned.now.items in
    let now : List Pinner = take c.loop-one.one-index c.loop-one.one-items in
    let settled : AreSettled c.args.chosen (parts_of k.0 c.args.chosen) old now = rw k.1 c.loop-one.invariant.settled in
    let there : 0 < times f (files_in (parts_of k.0 c.args.chosen)) = rw k.1 (times-from_IsIn f (files_in c.args.parts.now) h) in
    omega (arith, there, c.loop-one.invariant.counted f, (own_in-settled k.0 c.args.chosen f old now settled).0, k.2.counted f, count-parts_of k.0 c.args.chosen f)

pub loop-one-preserved : goal.loop-one-preserved
loop-one-preserved c =
    let old : List Pinner = c.args.pinned.now.items in
    let now : List Pinner = c.loop-one.one-items in
    let i = c.loop-one.one-index in
    let d = c.one-item.result in
    let before = c.loop-one.invariant in
    let within : i < length now = omega (arith, c.loop-one.auto.one-items) in
    let same : get_or now i d ≡ get_or old i d = item_left c.args.chosen c.args.parts.now old now i d within before.same_length before.left in
    let after : Pinner = record { id = (get_or now i d).id; pins = c.settle.new.self } in
    let more : (f : ℕ) → times f (own_in (take (i + 1) old)) ≡ times f (own_in (take i old)) + times f (own_files (get_or now i d).pins) = λ f.
    rw (same, take_more old i d (omega (arith, before.same_length))) (own_in-push f (take i old) (get_or old i d)) in
    let raised : (f : ℕ) → times f (own_in (take (i + 1) (set now i after))) ≡ times f (own_in (take i now)) + times f (own_files c.settle.new.self) = λ f.
    rw (take_more_set now i after within) (own_in-push f (take i now) after) in
    record {
      settled = settled_more c.args.chosen c.args.parts.now old now i d within before.same_length before.left after before.settled (ap (λ (o : Pinner). o.id) same)
          (rw (← same) c.settle.ensures.settled);
      left = left_more c.args.chosen c.args.parts.now old now i d within before.same_length before.left after;
      same_length = length-set now i after ∙ before.same_length;
      counted = λ f. omega (arith, c.settle.ensures.counted f, before.counted f, more f, raised f);
      len = c.settle.ensures.len ∙ before.len;
      range = c.settle.ensures.range;
    }
