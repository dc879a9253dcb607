-- Answers the goals of `Registry::hold_files_metered`.
use Rattle.ckpt_registry.proofs.{IsSound-acknowledged, IsSound-kept, List, Subtask, [], ap, append-nil, arith, below-in_use, below_more, count-in_use, counter, counter-unchanged, in_use-added}
use Rattle.ckpt_registry.proofs.{in_use-kept, index_map_len, length, on_each_error, pins_in-extended, stored-acknowledged, times, times_at_most_once, triples, vec_capacity, ℕ, ◌++◌, ◌+◌, ◌∙◌, ◌≡◌}
use Rattle.ckpt_registry.proofs.{◌≤◌}
use Rattle.ckpt_registry.proofs.registry.Registry.hold_files_metered.Goals as goal

pub count_each-requires-clause-fits : goal.count_each-requires-clause-fits
count_each-requires-clause-fits c = λ f h.
    let small = c.requires.below f (rw (← c.as_slice.ensures.files) h) in
    let same = counter-unchanged c.self.inside.uses.counts c.reserve.new.map c.in_ok-reserve.ensures.entries f in
    rw c.as_slice.ensures.files (omega (arith, same, rw (← c.self.view_is) at small, times_at_most_once f c.args.files.now c.requires.each_once, count-in_use _ _ _ _ c.self.invariant.0 f))

pub invariant_of-self-in_err-hold : goal.invariant_of-self-in_err-hold
invariant_of-self-in_err-hold c =
    let e = c.in_err-hold.ensures in (
      IsSound-kept _ _ _ _ _ _ _ c.self.invariant.0 e.ordered e.extends e.err c.in_ok-reserve.ensures.entries
          (omega (arith, c.in_ok-reserve.ensures.ok, c.in_ok-reserve-2.ensures.ok)),
      e.spare,
      c.self.invariant.2,
    )

pub returns-in_err-hold-clause-err : goal.returns-in_err-hold-clause-err
returns-in_err-hold-clause-err c =
    let e = c.in_err-hold.ensures in
    on_each_error c.from_residual-in_err-hold.result _
    (in_use-kept c.self.inside.uses.acknowledged c.self.inside.uses.pinned.items c.hold.new.acknowledged c.self.invariant.0.parts.kept e.extends e.err ∙ c.self.view_is)

pub invariant_of-self-2 : goal.invariant_of-self-2
invariant_of-self-2 c =
    let files : List ℕ = c.args.files.now in
    let held = c.in_ok-hold.ensures in
    let all : files ++ c.of-none.result ≡ files = rw (c.of-none.ensures, c.new.ensures.items, append-nil) in
    let raised : (f : ℕ) → counter c.count_each.new.counts f ≡ counter c.self.inside.uses.counts f + times f files = λ f.
    omega (arith, ap (times f) c.as_slice.ensures.files, c.count_each.ensures.counted f, counter-unchanged c.self.inside.uses.counts c.reserve.new.map c.in_ok-reserve.ensures.entries f) in
    let fits : index_map_len c.count_each.new.counts ≤ vec_capacity c.reserve-2.new.list =
    omega (arith, ap (λ (xs : List ℕ). length xs) c.as_slice.ensures.files, c.count_each.ensures.len, c.in_ok-reserve.ensures.ok, c.in_ok-reserve-2.ensures.ok) in
    let small = below_more c.args.self.now [] files (rw (← c.self.view_is) (below-in_use _ _ _ _ c.self.invariant.0)) c.requires.each_once (λ f h. absurd h) c.requires.below in (
      IsSound-acknowledged _ _ c.hold.new.acknowledged _ _ _ _ c.args.id c.args.subtask files c.self.invariant.0 held.ordered held.extends (rw all at held.ok) c.requires.each_once
          (rw c.self.view_is c.requires.unused) raised c.count_each.ensures.range fits (rw c.self.view_is small),
      held.spare,
      c.self.invariant.2,
    )

pub returns-clause-ok : goal.returns-clause-ok
returns-clause-ok c =
    let r = c.self.inside.uses in
    let files : List ℕ = c.args.files.now in
    let all : files ++ c.of-none.result ≡ files = rw (c.of-none.ensures, c.new.ensures.items, append-nil) in
    let pins = pins_in-extended r.acknowledged c.hold.new.acknowledged r.pinned.items c.in_ok-hold.ensures.extends c.self.invariant.0.parts.kept in
    let added = stored-acknowledged r.acknowledged r.pinned.items c.hold.new.acknowledged (triples c.args.id (Subtask c.args.subtask) files) pins (rw all at c.in_ok-hold.ensures.ok) in
    rw (← c.self.view_is) (in_use-added r.acknowledged r.pinned.items c.hold.new.acknowledged r.pinned.items c.args.id (Subtask c.args.subtask) files added)
