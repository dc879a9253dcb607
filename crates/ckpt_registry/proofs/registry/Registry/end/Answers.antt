-- Answers the goals of `Registry::end`.
use Rattle.ckpt_registry.proofs.{AreCounted-unpinned, IsSound, IsSound-filtered, List, Use, [], after_end, arith, counted_once, counter, in_use, in_use-filtered, index_map_len, is_ended, is_present}
use Rattle.ckpt_registry.proofs.{is_present-in_use, ltb, not, pins_in, pins_in-filter, refl, released-sorted, stored-after_end, times, vec_capacity, without, ℕ, ◌+◌, ◌∙◌, ◌∷◌, ◌≡◌, ◌≤◌}
use Rattle.ckpt_registry.proofs.registry.Registry.end.Goals as goal

pub release_each-requires-clause-counted : goal.release_each-requires-clause-counted
release_each-requires-clause-counted c =
    let e = c.unpin.ensures in
    AreCounted-unpinned _ _ _ (c.args.id ∷ []) _ _ c.self.invariant.0.parts e.kept e.lowered.lowered e.lowered.range

pub invariant_of-self : goal.invariant_of-self
invariant_of-self c =
    let r = c.self.inside.uses in
    let after = c.release_each.new.uses in
    let e = c.release_each.ensures in
    let u = c.unpin.ensures.lowered.released in
    let owners = c.args.owners.now in
    let pins : pins_in after.acknowledged after.pinned.items ≡ without owners (without (c.args.id ∷ []) (pins_in r.acknowledged r.pinned.items)) = rw
    (e.pins, c.unpin.ensures.kept, pins_in-filter r.acknowledged (c.args.id ∷ []) r.pinned.items) in
    let fits : index_map_len after.counts ≤ vec_capacity c.sort.new.files = omega (arith, c.self.invariant.0.has_room, e.released.len, e.released.capacity, u.len, u.capacity) in (
      IsSound-filtered _ _ _ _ _ _ _ _ (λ u. not (is_ended c.args.id owners u)) c.self.invariant.0 e.counted
          (stored-after_end r.acknowledged r.pinned.items after.acknowledged after.pinned.items c.args.id owners e.uses pins) fits,
      e.spare,
      e.no_files,
    )

pub returns : goal.returns
returns c =
    let r = c.self.inside.uses in
    let e = c.release_each.ensures in
    let u = c.unpin.ensures.lowered.released in
    let after = c.release_each.new.uses in
    let owners = c.args.owners.now in
    let uses : List Use = c.args.self.now in
    let left : List Use = after_end c.args.id owners uses in
    let pins : pins_in after.acknowledged after.pinned.items ≡ without owners (without (c.args.id ∷ []) (pins_in r.acknowledged r.pinned.items)) = rw
    (e.pins, c.unpin.ensures.kept, pins_in-filter r.acknowledged (c.args.id ∷ []) r.pinned.items) in
    let kept = stored-after_end r.acknowledged r.pinned.items after.acknowledged after.pinned.items c.args.id owners e.uses pins in
    let fits : index_map_len after.counts ≤ vec_capacity c.sort.new.files = omega (arith, c.self.invariant.0.has_room, e.released.len, e.released.capacity, u.len, u.capacity) in
    let sound : IsSound after.acknowledged after.pinned.items after.counts (vec_capacity c.sort.new.files) = IsSound-filtered _ _ _ _ _ _ _ _
    (λ u. not (is_ended c.args.id owners u)) c.self.invariant.0 e.counted kept fits in
    let view : in_use after.acknowledged after.pinned.items ≡ left = rw (← c.self.view_is)
    (in_use-filtered r.acknowledged r.pinned.items after.acknowledged after.pinned.items (λ u. not (is_ended c.args.id owners u)) kept) in
    let had : (f : ℕ) → ltb 0 (counter r.counts f) ≡ is_present uses f = λ f. rw (← c.self.view_is) (is_present-in_use _ _ _ _ c.self.invariant.0 f) in
    let has : (f : ℕ) → ltb 0 (counter after.counts f) ≡ is_present left f = λ f. rw (← view) (is_present-in_use _ _ _ _ sound f) in
    let moved : (f : ℕ) → times f c.release_each.new.released.items + counted_once after.counts f ≡ times f c.clear.new.self.items + counted_once r.counts f = λ f.
    omega (arith, e.released.each f, u.each f) in (
      (refl, λ _. tt, view),
      record {
        after = tt;
        files = c.as_slice.ensures.value
            ∙ released-sorted _ _ _ r.counts after.counts uses left c.sort.ensures.permutation c.sort.ensures.sorted c.clear.ensures.items moved had has;
      },
    )
