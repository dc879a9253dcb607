-- Answers the goals of `Registry::pin_files_metered`.
use Rattle.ckpt_registry.proofs.{AreDistinct-from_order, AreInRange-unchanged, Files, IsEachOnce, IsSound-pinned, List, Pinner, [], ap, arith, below-in_use, below_more, count-in_use, counter}
use Rattle.ckpt_registry.proofs.{counter-unchanged, in_use-pinned, index_map_len, length, numbers_in_order, times, times_at_most_once, vec_capacity, ℕ, ◌+◌, ◌∙◌, ◌≡◌, ◌≤◌, AreCounted}
use Rattle.ckpt_registry.proofs.registry.Registry.pin_files_metered.Goals as goal

pub count_each-requires-clause-fits : goal.count_each-requires-clause-fits
count_each-requires-clause-fits c = λ f h.
    let small = c.requires.below f (rw (← c.as_slice-files.ensures.files) h) in
    let once = times_at_most_once f c.args.files.now (AreDistinct-from_order numbers_in_order c.args.files.now c.requires.ascending) in
    rw c.as_slice-files.ensures.files
    (omega (arith, rw (← c.self.view_is) at small, once, counter-unchanged c.self.inside.uses.counts c.reserve.new.map c.in_ok-reserve.ensures.entries f, count-in_use _ _ _ _ c.self.invariant.0 f))

pub invariant_of-self-2 : goal.invariant_of-self-2
invariant_of-self-2 c =
    let r = c.self.inside.uses in
    let files = c.args.files.now in
    let one : Pinner = record { id = c.args.id; pins = Files c.in_ok-own.own } in
    let own : c.in_ok-own.own.items ≡ files = c.in_ok-own.ensures.items ∙ c.as_slice-files.ensures.files in
    let each : IsEachOnce files = AreDistinct-from_order numbers_in_order files c.requires.ascending in
    let small = below_more c.args.self.now [] files (rw (← c.self.view_is) (below-in_use _ _ _ _ c.self.invariant.0)) each (λ f h. absurd h) c.requires.below in
    let raised : (f : ℕ) → counter c.count_each.new.counts f ≡ counter r.counts f + times f c.in_ok-own.own.items = λ f.
    omega (arith, ap (times f) c.in_ok-own.ensures.items, c.count_each.ensures.counted f, counter-unchanged c.self.inside.uses.counts c.reserve.new.map c.in_ok-reserve.ensures.entries f) in
    let fits : index_map_len c.count_each.new.counts ≤ vec_capacity c.reserve-2.new.list =
    omega (arith, ap (λ (xs : List ℕ). length xs) c.as_slice-files.ensures.files, c.count_each.ensures.len, c.in_ok-reserve.ensures.ok, c.in_ok-reserve-2.ensures.ok) in (
      rw c.in_ok-push.ensures.items
          (IsSound-pinned r.acknowledged r.pinned.items one files own r.counts _ _ _ c.self.invariant.0 tt each (rw c.self.view_is c.requires.unpinned) raised c.count_each.ensures.range fits
          (rw c.self.view_is small)),
      c.self.invariant.1,
      c.self.invariant.2,
    )

pub returns-clause-ok : goal.returns-clause-ok
returns-clause-ok c =
    let one : Pinner = record { id = c.args.id; pins = Files c.in_ok-own.own } in
    let own : c.in_ok-own.own.items ≡ c.args.files.now = c.in_ok-own.ensures.items ∙ c.as_slice-files.ensures.files in
    rw (c.in_ok-push.ensures.items, ← c.self.view_is) (in_use-pinned c.self.inside.uses.acknowledged c.self.inside.uses.pinned.items one c.args.files.now own)

pub invariant_of-self-in_err-push : goal.invariant_of-self-in_err-push
invariant_of-self-in_err-push c =
    let s = c.self.invariant.0.parts in
    let entries : index_map_len c.reserve.new.map ≡ index_map_len c.self.inside.uses.counts = ap (λ (es : List (ℕ × ℕ)). length es) c.in_ok-reserve.ensures.entries in
    let parts : AreCounted c.self.inside.uses.acknowledged c.self.inside.uses.pinned.items c.reserve.new.map = record {
      ordered = s.ordered;
      kept = s.kept;
      counted = λ f. counter-unchanged c.self.inside.uses.counts c.reserve.new.map c.in_ok-reserve.ensures.entries f ∙ s.counted f;
      range = AreInRange-unchanged c.self.inside.uses.counts c.reserve.new.map c.in_ok-reserve.ensures.entries s.range;
      below = s.below;
    } in (
      rw c.in_err-push.ensures.items
          (record { parts = parts; once = c.self.invariant.0.once; has_room = omega (arith, entries, c.in_ok-reserve.ensures.ok, c.in_ok-reserve-2.ensures.ok) }),
      c.self.invariant.1,
      c.self.invariant.2,
    )
