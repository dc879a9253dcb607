-- Answers the goals of `count_fresh`.
use Rattle.ckpt_registry.proofs.{◌≡◌, ℕ, ◌<◌, length, take, Some, arith, IsOk, IsIn, counter, times, times_at_most_once, Sets, OnOk-at, counter_more, AreInRange-set, get-none, times_before}
use Rattle.ckpt_registry.proofs.{length_fresh, IsIn-at}
use Rattle.ckpt_registry.proofs.counters.count_fresh.Goals as goal

pub loop-file-preserved : goal.loop-file-preserved
loop-file-preserved c =
    let files = c.args.files.now in
    let i = c.loop-file.file-index in
    let file : ℕ = c.file-item.result in
    let m = c.loop-file.counts in
    let n = c.insert.new.self in
    let before = c.loop-file.invariant in
    let within : i < length files = c.loop-file-test.true in
    let ok : IsOk c.insert.result = c.insert.ensures.succeeds (omega (arith, before.room)) in
    let sets : Sets m n file (Some 1) = (OnOk-at c.insert.result _ ok c.insert.ensures.updates).0 in
    let among : IsIn file files = IsIn-at files i file within c.file-item.is in
    let first : times file (take i files) ≡ 0 = times_before files i file (times_at_most_once file files c.requires.each_once) within c.file-item.is in
    let none : counter m file ≡ 0 = omega (arith, before.counted file, c.requires.absent file among) in
    record {
      counted = counter_more c.args.counts.now m n files i file 1 sets (omega arith) within c.file-item.is before.counted;
      len = omega (arith, before.len, length_fresh c.insert.result _ _ _ ok (get-none m before.range file none) c.insert.ensures.old c.insert.ensures.len);
      room = omega (arith, before.room, c.insert.ensures.spare);
      range = AreInRange-set m n file 1 sets before.range (omega arith) (omega arith);
    }
