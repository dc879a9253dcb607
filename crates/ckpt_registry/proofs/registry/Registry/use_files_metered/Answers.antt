-- Answers the goals of `Registry::use_files_metered`.
use Rattle.ckpt_registry.proofs.{AreDistinct-left, IsSound-acknowledged, IsSound-kept, List, Subtask, Use, ap, arith, below-in_use, below_more, count, count-in_use, counter, counter-unchanged}
use Rattle.ckpt_registry.proofs.{in_use-added, in_use-kept, index_map_len, is_present, is_present-in_use, length, ltb-false, ltb-true, on_each_error, pins_in-extended, stored-acknowledged, sym, times}
use Rattle.ckpt_registry.proofs.{times-append, times_at_most_once, triples, true, vec_capacity, ℕ, ◌++◌, ◌+◌, ◌∙◌, ◌≡◌, ◌≤◌}
use Rattle.ckpt_registry.proofs.registry.Registry.use_files_metered.Goals as goal

pub count_fresh-requires-clause-each_once : goal.count_fresh-requires-clause-each_once
count_fresh-requires-clause-each_once c = rw c.as_slice-fresh.ensures.files (AreDistinct-left c.args.fresh.now c.args.reused.now c.requires.each_once)

pub count_fresh-requires-clause-absent : goal.count_fresh-requires-clause-absent
count_fresh-requires-clause-absent c = λ f h.
    let unused = ltb-false 0 (count c.args.self.now f) (c.requires.fresh_absent f (rw (← c.as_slice-fresh.ensures.files) h)) in
    omega (arith, rw (← c.self.view_is) at unused, counter-unchanged c.self.inside.uses.counts c.reserve.new.map c.in_ok-reserve.ensures.entries f, count-in_use _ _ _ _ c.self.invariant.0 f)

pub count_reused-requires-clause-present : goal.count_reused-requires-clause-present
count_reused-requires-clause-present c = λ f h.
    let there : is_present c.args.self.now f ≡ true = c.requires.reused_present f (rw (← c.as_slice-reused.ensures.files) h) in
    let used = ltb-true 0 (counter c.self.inside.uses.counts f) (is_present-in_use _ _ _ _ c.self.invariant.0 f ∙ rw c.self.view_is there) in
    omega (arith, used, c.count_fresh.ensures.counted f, counter-unchanged c.self.inside.uses.counts c.reserve.new.map c.in_ok-reserve.ensures.entries f)

pub count_reused-requires-clause-fits : goal.count_reused-requires-clause-fits
count_reused-requires-clause-fits c = λ f h.
    let small = c.requires.below f (rw (← c.as_slice-reused.ensures.files) h) in
    omega (
      arith,
      small,
      ap (λ (us : List Use). count us f) c.self.view_is,
      ap (times f) c.as_slice-fresh.ensures.files,
      ap (times f) c.as_slice-reused.ensures.files,
      times_at_most_once f (c.args.fresh.now ++ c.args.reused.now) c.requires.each_once,
      times-append f c.args.fresh.now c.args.reused.now,
      c.count_fresh.ensures.counted f,
      counter-unchanged c.self.inside.uses.counts c.reserve.new.map c.in_ok-reserve.ensures.entries f,
      count-in_use _ _ _ _ c.self.invariant.0 f,
    )

pub invariant_of-self-in_err-hold : goal.invariant_of-self-in_err-hold
invariant_of-self-in_err-hold c =
    let e = c.in_err-hold.ensures in (
      IsSound-kept _ _ _ _ _ _ _ c.self.invariant.0 e.ordered e.extends e.err c.in_ok-reserve.ensures.entries
          (omega (arith, c.in_ok-reserve.ensures.ok, c.in_ok-reserve-2.ensures.ok)),
      e.spare,
      c.self.invariant.2,
    )

pub returns-in_err-hold-clause-err : goal.returns-in_err-hold-clause-err
returns-in_err-hold-clause-err c =
    let e = c.in_err-hold.ensures in
    on_each_error c.from_residual-in_err-hold.result _
    (in_use-kept c.self.inside.uses.acknowledged c.self.inside.uses.pinned.items c.hold.new.acknowledged c.self.invariant.0.parts.kept e.extends e.err ∙ c.self.view_is)

pub invariant_of-self-2 : goal.invariant_of-self-2
invariant_of-self-2 c =
    let files = c.args.fresh.now ++ c.args.reused.now in
    let named : (f : ℕ) → times f c.as_slice-fresh.result.now + times f c.as_slice-reused.result.now ≡ times f files = λ f.
    rw (c.as_slice-fresh.ensures.files, c.as_slice-reused.ensures.files) (sym (times-append f c.args.fresh.now c.args.reused.now)) in
    let raised : (f : ℕ) → counter c.count_reused.new.counts f ≡ counter c.self.inside.uses.counts f + times f files = λ f.
    omega (arith, named f, c.count_reused.ensures.counted f, c.count_fresh.ensures.counted f, counter-unchanged c.self.inside.uses.counts c.reserve.new.map c.in_ok-reserve.ensures.entries f) in
    let fits : index_map_len c.count_reused.new.counts ≤ vec_capacity c.reserve-2.new.list =
    omega (arith, ap (λ (xs : List ℕ). length xs) c.as_slice-fresh.ensures.files, c.count_reused.ensures.len, c.count_fresh.ensures.len, c.in_ok-reserve.ensures.ok, c.in_ok-reserve-2.ensures.ok) in
    let small = below_more c.args.self.now c.args.fresh.now c.args.reused.now
    (rw (← c.self.view_is) (below-in_use _ _ _ _ c.self.invariant.0)) c.requires.each_once c.requires.fresh_absent c.requires.below in
    let held = c.in_ok-hold.ensures in (
      IsSound-acknowledged _ _ c.hold.new.acknowledged _ _ _ _ c.args.id c.args.subtask files c.self.invariant.0 held.ordered held.extends held.ok c.requires.each_once
          (rw c.self.view_is c.requires.unused) raised c.count_reused.ensures.range fits (rw c.self.view_is small),
      held.spare,
      c.self.invariant.2,
    )

pub returns-clause-ok : goal.returns-clause-ok
returns-clause-ok c =
    let r = c.self.inside.uses in
    let files = c.args.fresh.now ++ c.args.reused.now in
    let pins = pins_in-extended r.acknowledged c.hold.new.acknowledged r.pinned.items c.in_ok-hold.ensures.extends c.self.invariant.0.parts.kept in
    let added = stored-acknowledged r.acknowledged r.pinned.items c.hold.new.acknowledged (triples c.args.id (Subtask c.args.subtask) files) pins c.in_ok-hold.ensures.ok in
    rw (← c.self.view_is) (in_use-added r.acknowledged r.pinned.items c.hold.new.acknowledged r.pinned.items c.args.id (Subtask c.args.subtask) files added)
