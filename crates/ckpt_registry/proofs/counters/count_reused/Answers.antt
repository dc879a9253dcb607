-- Answers the goals of `count_reused`.
use Rattle.ckpt_registry.proofs.{AreInRange-set, Counts, IsIn-at, Option, Sets, Some, ap, arith, counter, counter_more, index_map_len, is_some, next_fits, rules, sym, unwrap_or, ℕ, ◌+◌, ◌<◌, ◌^◌, ◌≡◌}
use Rattle.ckpt_registry.proofs.counters.count_reused.Goals as goal
use Rattle.ckpt_registry.proofs.counters.count_reused.Goals.{in-Some, in_default}

pub overflow_add-count : goal.overflow_add-count
overflow_add-count c =
    let had : c.in-Some.count.now ≡ counter c.loop-file.counts c.file-item.result = ap (λ (o : Option ℕ). unwrap_or o 0) c.in-Some.ensures.value in
    let fits =
    next_fits c.args.counts.now c.loop-file.counts c.args.files.now c.loop-file.file-index c.file-item.result c.loop-file-test.true c.file-item.is c.loop-file.invariant.counted c.requires.fits in
    let small : c.in-Some.count.now + 1 < 2 ^ 32 = omega (arith, had, fits) in
    search rules

pub loop-file-preserved : goal.loop-file-preserved
loop-file-preserved c =
    let files = c.args.files.now in
    let i = c.loop-file.file-index in
    let file : ℕ = c.file-item.result in
    let m = c.loop-file.counts in
    let before = c.loop-file.invariant in
    elim c.match-get_mut.branch [
      | in-Some w ↦
          let v : ℕ = w.in-Some.count.now in
          let n : Counts = c.match-get_mut.counts in
          let had : v ≡ counter m file = ap (λ (o : Option ℕ). unwrap_or o 0) w.in-Some.ensures.value in
          let written = c.get_mut.follows.holds (v + 1) in
          let sets : Sets m n file (Some (v + 1)) = rw w.counts-is (written.3 (ap is_some (sym w.in-Some.ensures.value))).0 in
          let len : index_map_len n ≡ index_map_len m = rw w.counts-is written.2 in
          let small = next_fits c.args.counts.now m files i file c.loop-file-test.true c.file-item.is before.counted c.requires.fits in
          record {
            counted = counter_more c.args.counts.now m n files i file (v + 1) sets (omega arith) c.loop-file-test.true c.file-item.is before.counted;
            len = omega (arith, before.len);
            range = AreInRange-set m n file (v + 1) sets before.range (omega arith) (omega (arith, small, had));
          }
      | in_default w ↦
          let none : 0 ≡ counter m file = ap (λ (o : Option ℕ). unwrap_or o 0) w.in_default.ensures.value in
          absurd (omega (arith, before.counted file, c.requires.present file (IsIn-at files i file c.loop-file-test.true c.file-item.is)))
    ]
