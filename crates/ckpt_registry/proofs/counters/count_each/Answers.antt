-- Answers the goals of `count_each`.
use Rattle.ckpt_registry.proofs.{AreInRange-set, Counts, IsOk, OnOk-at, Sets, Some, arith, counter, counter_more, length_more, next_fits, rules, ℕ, ◌+◌, ◌<◌, ◌^◌, ◌≡◌}
use Rattle.ckpt_registry.proofs.counters.count_each.Goals as goal

pub overflow_add-count : goal.overflow_add-count
overflow_add-count c =
    let had : c.unwrap_or-count.result ≡ counter c.loop-file.counts c.file-item.result = rw (c.unwrap_or-count.ensures, c.copied.ensures, c.get.ensures.value) in
    let fits =
    next_fits c.args.counts.now c.loop-file.counts c.args.files.now c.loop-file.file-index c.file-item.result c.loop-file-test.true c.file-item.is c.loop-file.invariant.counted c.requires.fits in
    let small : c.unwrap_or-count.result + 1 < 2 ^ 32 = omega (arith, had, fits) in
    search rules

pub loop-file-preserved : goal.loop-file-preserved
loop-file-preserved c =
    let files = c.args.files.now in
    let i = c.loop-file.file-index in
    let file : ℕ = c.file-item.result in
    let m : Counts = c.loop-file.counts in
    let n : Counts = c.insert.new.self in
    let v : ℕ = c.unwrap_or-count.result in
    let before = c.loop-file.invariant in
    let had : v ≡ counter m file = rw (c.unwrap_or-count.ensures, c.copied.ensures, c.get.ensures.value) in
    let small : v + 1 < 2 ^ 32 = omega (arith, had, next_fits c.args.counts.now m files i file c.loop-file-test.true c.file-item.is before.counted c.requires.fits) in
    let ok : IsOk c.insert.result = c.insert.ensures.succeeds (omega (arith, before.room)) in
    let sets : Sets m n file (Some (v + 1)) = (OnOk-at c.insert.result _ ok c.insert.ensures.updates).0 in
    record {
      counted = counter_more c.args.counts.now m n files i file (v + 1) sets (omega (arith, had)) c.loop-file-test.true c.file-item.is before.counted;
      len = omega (arith, before.len, length_more c.insert.result _ _ ok c.insert.ensures.len);
      room = omega (arith, before.room, c.insert.ensures.spare);
      range = AreInRange-set m n file (v + 1) sets before.range (omega arith) small;
    }
