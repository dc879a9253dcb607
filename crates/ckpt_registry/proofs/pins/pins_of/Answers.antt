-- Answers the goals of `pins_of`.
use Rattle.ckpt_registry.proofs.{Acknowledged, FirstParts, Global, IsKept-at, IsLook, Look, Pinner, Record, Vec, ap, arith, each_file, files_in, first_of, one_if, one_if-false, one_if-true}
use Rattle.ckpt_registry.proofs.{parts_pinned, rules, sum_by-take-le, sum_by_more, times, times-ascending_set, ℕ, ◌+◌, ◌<◌, ◌^◌, ◌≡◌}
use Rattle.ckpt_registry.proofs.pins.pins_of.Goals as goal
use Rattle.ckpt_registry.proofs.pins.pins_of.Goals.{in-Record+then-last, in-Record+else-last, in_default}

-- what a look says of a pinner
pins_by_look : (m : Acknowledged) (f : ℕ) (one : Pinner) (first : FirstParts) (room : Vec ℕ Global) (look : Look) → one.pins ≡ Record first room → IsLook m f look → look.first ≡ first
    → times f (each_file (parts_pinned m one.pins)) ≡ one_if look.found
pins_by_look m f one first room look is says same = rw (is, ← same, says) (times-ascending_set f (files_in (first_of m look.first)))

pub looked-last-requires-clause-within : goal.looked-last-requires-clause-within
looked-last-requires-clause-within c =
    let kept = IsKept-at c.args.acknowledged.now c.args.pinned.now c.loop-one.one-index c.one-item.result c.requires.kept c.loop-one-test.true c.one-item.is in
    (rw c.in-Record.is at kept).0

pub overflow_add-pins : goal.overflow_add-pins
overflow_add-pins c =
    let held : Pinner → ℕ = λ o. times c.args.file (each_file (parts_pinned c.args.acknowledged.now o.pins)) in
    let look = c.looked-last.ensures in
    let here = pins_by_look c.args.acknowledged.now c.args.file c.one-item.result c.in-Record.first c.in-Record.room c.looked-last.result c.in-Record.is look.look look.first in
    let more = sum_by_more held c.args.pinned.now c.loop-one.one-index c.one-item.result c.loop-one-test.true in
    let most = sum_by-take-le held c.args.pinned.now (c.loop-one.one-index + 1) in
    let small : c.loop-one.pins + 1 < 2 ^ 32 = omega
    (arith, here, one_if-true c.looked-last.result.found c.if-last.true, ap held c.one-item.is, c.loop-one.invariant.0, c.requires.below, more, most) in
    search rules

pub loop-one-preserved : goal.loop-one-preserved
loop-one-preserved c =
    let m = c.args.acknowledged.now in
    let f = c.args.file in
    let one = c.one-item.result in
    let held : Pinner → ℕ = λ o. times f (each_file (parts_pinned m o.pins)) in
    let same = ap held c.one-item.is in
    let more = sum_by_more held c.args.pinned.now c.loop-one.one-index one c.loop-one-test.true in
    elim c.match-one.branch [
      | in-Record+then-last w ↦
          let here = pins_by_look m f one w.in-Record.first w.in-Record.room w.looked-last.result w.in-Record.is w.looked-last.ensures.look w.looked-last.ensures.first in
          (omega (arith, here, same, more, c.loop-one.invariant.0, one_if-true w.looked-last.result.found w.if-last.true, w.pins-is), rw w.last-is w.looked-last.ensures.look)
      | in-Record+else-last w ↦
          let here = pins_by_look m f one w.in-Record.first w.in-Record.room w.looked-last.result w.in-Record.is w.looked-last.ensures.look w.looked-last.ensures.first in
          (omega (arith, here, same, more, c.loop-one.invariant.0, one_if-false w.looked-last.result.found w.if-last.false, w.pins-is), rw w.last-is w.looked-last.ensures.look)
      | in_default w ↦
          let none : held one ≡ 0 = ap (λ p. times f (each_file (parts_pinned m p))) w.in_default.is in
          (omega (arith, none, same, more, c.loop-one.invariant.0, w.pins-is), rw w.last-is c.loop-one.invariant.1)
    ]
