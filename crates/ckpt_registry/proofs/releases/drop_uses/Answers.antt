-- Answers the goals of `drop_uses`.
use Rattle.ckpt_registry.proofs.{Acknowledged, AreCounted-gone, AreCounted-unchanged, AreRising-gone, ap, arith, count-gone, count-parts_of, counted_once-settled, files_in, own_in-settled, parts_of}
use Rattle.ckpt_registry.proofs.{parts_of-gone, pins_in-settled, sym, times, uses_in-gone, ◌≡◌}
use Rattle.ckpt_registry.proofs.releases.drop_uses.Goals as goal

pub settle-requires : goal.settle-requires
settle-requires c = (c.args.uses.now.acknowledged, sym c.in-Some.ensures.parts, c.requires.counted)

pub lower_each-requires-clause-counted : goal.lower_each-requires-clause-counted
lower_each-requires-clause-counted c = λ f.
    let m : Acknowledged = c.args.uses.now.acknowledged in
    let own = own_in-settled m c.args.id f c.args.uses.now.pinned.items c.settle.new.pinned.items (rw c.in-Some.ensures.parts at c.settle.ensures.settled) in
    rw (c.files.ensures, c.in-Some.ensures.parts) (omega (arith, own.0, count-parts_of m c.args.id f, c.requires.counted.counted f, c.settle.ensures.counted f))

pub returns-in-Some-clause-counted : goal.returns-in-Some-clause-counted
returns-in-Some-clause-counted c =
    let m : Acknowledged = c.args.uses.now.acknowledged in
    let n : Acknowledged = c.remove.new.acknowledged in
    let id = c.args.id in
    let gone = c.remove.ensures.gone in
    let files : c.files.result.now ≡ files_in (parts_of m id) = rw (c.files.ensures, c.in-Some.ensures.parts) in
    AreCounted-gone m n id c.args.uses.now.pinned.items c.settle.new.pinned.items c.args.uses.now.counts c.lower_each.new.counts c.requires.counted (parts_of-gone m n id gone)
    (rw c.in-Some.ensures.parts at c.settle.ensures.settled)
    (AreRising-gone m n id gone c.requires.counted.ordered) (uses_in-gone m n id gone) (count-gone m n id gone)
    (λ f. omega (arith, ap (times f) files, c.lower_each.ensures.lowered f, c.settle.ensures.counted f)) c.lower_each.ensures.range

pub returns-in-Some-clause-uses : goal.returns-in-Some-clause-uses
returns-in-Some-clause-uses c = uses_in-gone c.args.uses.now.acknowledged c.remove.new.acknowledged c.args.id c.remove.ensures.gone

pub returns-in-Some-clause-pins : goal.returns-in-Some-clause-pins
returns-in-Some-clause-pins c =
    let m : Acknowledged = c.args.uses.now.acknowledged in
    let n : Acknowledged = c.remove.new.acknowledged in
    pins_in-settled m n c.args.id (parts_of-gone m n c.args.id c.remove.ensures.gone) _ _ (rw c.in-Some.ensures.parts at c.settle.ensures.settled)

pub returns-in-Some-clause-released : goal.returns-in-Some-clause-released
returns-in-Some-clause-released c =
    let e = c.lower_each.ensures.released in
    let settled = rw c.in-Some.ensures.parts at c.settle.ensures.settled in
    record {
      each = λ f. omega (arith, e.each f, counted_once-settled _ _ _ c.args.uses.now.counts c.settle.new.counts c.args.id f c.requires.counted settled (c.settle.ensures.counted f));
      len = omega (arith, c.settle.ensures.len, e.len);
      capacity = e.capacity;
    }

pub returns-in_default-clause-counted : goal.returns-in_default-clause-counted
returns-in_default-clause-counted c = AreCounted-unchanged c.args.uses.now.acknowledged c.remove.new.acknowledged _ _ c.in_default.ensures.none c.requires.counted

pub returns-in_default-clause-uses : goal.returns-in_default-clause-uses
returns-in_default-clause-uses c = uses_in-gone c.args.uses.now.acknowledged c.remove.new.acknowledged c.args.id c.remove.ensures.gone
