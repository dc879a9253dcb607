-- Answers the goals of `lower`.
use Rattle.ckpt_registry.proofs.{AreInRange-below, AreInRange-gone, AreInRange-set, Counts, IsUnique, None, Sets, Some, ap, arith, counted_once-kept, counter, counter-lowered, entry_found}
use Rattle.ckpt_registry.proofs.{hash_map_get_place, index_map_len-with_value_at, nat_eq, nat_eq_equiv, refl, released, rules, slice_get, sym, times-released, unwrap_or, updates-with_value_at}
use Rattle.ckpt_registry.proofs.{with_value_at, ℕ, ◌-◌, ◌<◌, ◌∙◌, ◌≡◌}
use Rattle.ckpt_registry.proofs.counters.lower.Goals as goal

-- what a counter is, and what a write of it does, by the entry
module _ (m : Counts) (i k v : ℕ) (unique : IsUnique nat_eq m) (at : slice_get m.entries i ≡ Some (k, v)) where
  counter_at : v ≡ counter m k
  counter_at = sym (ap (λ o. unwrap_or o 0) (hash_map_get_place nat_eq_equiv m i k v unique at))

  set_at : (w : ℕ) → Sets m (with_value_at m i w) k (Some w)
  set_at w = (updates-with_value_at m i w nat_eq_equiv unique k v at).0

-- if the file has other uses

left : (c : goal.After-counts-1) → slice_get c.args.counts.now.entries c.unwrap-index.result ≡ Some (c.args.file, c.index-count.result.now)
left c = entry_found c.args.counts.now c.unwrap-index.result c.args.file c.index-count.result.now (sym c.get_index_of.ensures.index ∙ c.unwrap-index.ensures) c.index-count.ensures

pub returns-then-count-gt1 : goal.returns-then-count-gt1
returns-then-count-gt1 c =
    let m : Counts = c.args.counts.now in
    let i : ℕ = c.unwrap-index.result in
    let v : ℕ = c.index-count.result.now in
    let file : ℕ = c.args.file in
    let n : Counts = with_value_at m i (v - 1) in
    let unique : IsUnique nat_eq m = c.get_index_of.ensures.unique in
    let sets : Sets m n file (Some (v - 1)) = set_at m i file v unique (left c) (v - 1) in
    let had : v ≡ counter m file = counter_at m i file v unique (left c) in
    let more : 0 < v - 1 = omega (arith, c.if-count-gt1.true) in
    record {
      lowered = counter-lowered m n file v (Some (v - 1)) sets (sym had) (omega (arith, more));
      released = record {
        each = λ f. omega (arith, counted_once-kept m n file v (v - 1) sets (sym had) (omega (arith, more)) more f);
        len = omega (arith, index_map_len-with_value_at m i (v - 1));
        capacity = refl;
      };
      range = AreInRange-set m n file (v - 1) sets c.requires.range more (omega (arith, had, AreInRange-below m c.requires.range file));
    }

-- if it had one use, and has no counter any more

pub returns : goal.returns
returns c =
    let m : Counts = c.args.counts.now in
    let n : Counts = c.swap_remove_index.new.self in
    let file : ℕ = c.args.file in
    let v : ℕ = c.index-count.result.now in
    let last : slice_get m.entries c.unwrap-index.result ≡ Some (file, v) = entry_found m c.unwrap-index.result file v
    (sym c.get_index_of.ensures.index ∙ c.unwrap-index.ensures) c.index-count.ensures in
    let entry = c.swap_remove_index.ensures.entry ∙ last in
    let went : Sets m n file None = (rw entry at c.swap_remove_index.ensures.updates).0 in
    let had : v ≡ counter m file = counter_at m c.unwrap-index.result file v c.get_index_of.ensures.unique last in
    record {
      lowered = counter-lowered m n file (counter m file) None went refl (omega (arith, had, c.requires.counted, c.if-count-gt1.false));
      released = record {
        each = rw c.push_reserved.ensures.items (times-released m n file c.args.released.now.items went c.requires.counted);
        len = omega (arith, rw entry at c.swap_remove_index.ensures.len, c.push_reserved.ensures.len);
        capacity = search rules;
      };
      range = AreInRange-gone m n file went c.requires.range;
    }
