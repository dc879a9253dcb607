-- Answers the goals of `Registry::pin_record_metered`.
use Rattle.ckpt_registry.proofs.{Acknowledged, Global, IsEachOnce-files_by, IsIn, IsSound-pinned, List, Pin, Pinner, Use, Vec, [], ap, arith, below-in_use, below_more, count, count-in_use}
use Rattle.ckpt_registry.proofs.{count-parts_of, each_file, files_by, files_by-in_use, files_in, in_order_once, in_use, in_use-none, in_use-pinned, parts_of, pinned_by, subst, sym, times}
use Rattle.ckpt_registry.proofs.{times-from_IsIn, triples, use_before, vec_capacity, ℕ, ◌++◌, ◌+◌, ◌-◌, ◌<◌, ◌^◌, ◌∙◌, ◌≡◌}
use Rattle.ckpt_registry.proofs.registry.Registry.pin_record_metered.Goals as goal

-- no file of the record has as many uses as a counter can have
fits : (a : Acknowledged) (p : List Pinner) (us : List Use) (chosen : ℕ) → in_use a p ≡ us → ((f : ℕ) → count (in_use a p) f < 2 ^ 32)
    → ((f : ℕ) → IsIn f (files_by chosen us) → count us f < 2 ^ 32 - 1) → (f : ℕ) → count (in_use a p) f + times f (files_by chosen us) < 2 ^ 32
fits a p us chosen view was below = rw view (below_more us [] (files_by chosen us) (rw (← view) was) (IsEachOnce-files_by chosen us) (λ f h. absurd h) below)

-- a record without parts has no file to pin
none_pinned : (a : Acknowledged) (p : List Pinner) (us : List Use) (id chosen : ℕ) → in_use a p ≡ us → parts_of a chosen ≡ []
    → us ≡ in_order_once use_before (us ++ triples id Pin (files_by chosen us))
none_pinned a p us id chosen view empty =
    let none : files_by chosen us ≡ [] = rw (← view, files_by-in_use a p chosen, empty) in
    subst (λ vs. vs ≡ in_order_once use_before (vs ++ triples id Pin (files_by chosen us))) view (in_use-none a p id Pin (files_by chosen us) none)

pub returns-in_default-clause-ok : goal.returns-in_default-clause-ok
returns-in_default-clause-ok c = none_pinned c.self.inside.uses.acknowledged c.self.inside.uses.pinned.items c.args.self.now c.args.id c.args.chosen c.self.view_is c.in_default.ensures.none

pub pin_all-pins-requires-clause-present : goal.pin_all-pins-requires-clause-present
pin_all-pins-requires-clause-present c = λ f h.
    let there = times-from_IsIn f (files_in c.in-Some.parts.now) h in
    omega (arith, rw c.in-Some.ensures.some at there, count-parts_of c.self.inside.uses.acknowledged c.args.chosen f, c.self.invariant.0.parts.counted f)

pub pin_all-pins-requires-clause-fits : goal.pin_all-pins-requires-clause-fits
pin_all-pins-requires-clause-fits c = λ f.
    let r = c.self.inside.uses in
    let is : files_by c.args.chosen c.args.self.now ≡ each_file c.in-Some.parts.now = rw (← c.self.view_is, files_by-in_use r.acknowledged r.pinned.items c.args.chosen, c.in-Some.ensures.some) in
    let small = fits r.acknowledged r.pinned.items c.args.self.now c.args.chosen c.self.view_is (below-in_use _ _ _ _ c.self.invariant.0) c.requires.below f in
    omega (arith, rw is at small, count-in_use _ _ _ _ c.self.invariant.0 f)

pub invariant_of-self-2 : goal.invariant_of-self-2
invariant_of-self-2 c =
    let r = c.self.inside.uses in
    let a : Acknowledged = r.acknowledged in
    let p : List Pinner = r.pinned.items in
    let chosen = c.args.chosen in
    let room = vec_capacity c.self.inside.released in
    let named : List ℕ = files_by chosen c.args.self.now in
    let one : Pinner = record { id = c.args.id; pins = c.pin_all-pins.result } in
    let e = c.pin_all-pins.ensures in
    let some : parts_of a chosen ≡ c.in-Some.parts.now = sym c.in-Some.ensures.some in
    let pins : pinned_by a one.pins ≡ named = e.pinned a some ∙ rw (c.in-Some.ensures.some, ← c.self.view_is) (sym (files_by-in_use a p chosen)) in
    let small = fits a p c.args.self.now chosen c.self.view_is (below-in_use _ _ _ _ c.self.invariant.0) c.requires.below in (
      rw (c.push_reserved.ensures.items, c.reserve-2.ensures.items)
          (IsSound-pinned a p one named pins r.counts _ room room c.self.invariant.0 (e.kept a some) (IsEachOnce-files_by chosen c.args.self.now)
          (rw c.self.view_is c.requires.unpinned) e.counted e.range (omega (arith, c.self.invariant.0.has_room, e.len)) small),
      c.self.invariant.1,
      ap (λ (v : Vec ℕ Global). v.items) c.replace-room.ensures.after ∙ c.new.ensures.items,
    )

pub returns-clause-ok : goal.returns-clause-ok
returns-clause-ok c =
    let a : Acknowledged = c.self.inside.uses.acknowledged in
    let p : List Pinner = c.self.inside.uses.pinned.items in
    let one : Pinner = record { id = c.args.id; pins = c.pin_all-pins.result } in
    let pins : pinned_by a one.pins ≡ files_by c.args.chosen (in_use a p) = c.pin_all-pins.ensures.pinned a (sym c.in-Some.ensures.some) ∙ rw c.in-Some.ensures.some
    (sym (files_by-in_use a p c.args.chosen)) in
    rw (c.push_reserved.ensures.items, c.reserve-2.ensures.items, ← c.self.view_is) (in_use-pinned a p one (files_by c.args.chosen (in_use a p)) pins)
