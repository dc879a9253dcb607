-- Answers the goals of `Registry::release`.
use Rattle.ckpt_registry.proofs.{IsSound, IsSound-filtered, List, Use, arith, counter, in_use, in_use-filtered, index_map_len, is_owned, is_present, is_present-in_use, ltb, not, refl, released-sorted}
use Rattle.ckpt_registry.proofs.{stored-without, vec_capacity, without, ℕ, ◌∙◌, ◌≡◌, ◌≤◌}
use Rattle.ckpt_registry.proofs.registry.Registry.release.Goals as goal

pub invariant_of-self : goal.invariant_of-self
invariant_of-self c =
    let r = c.self.inside.uses in
    let after = c.release_each.new.uses in
    let e = c.release_each.ensures in
    let owners = c.args.owners.now in
    let fits : index_map_len after.counts ≤ vec_capacity c.sort.new.files = omega (arith, c.self.invariant.0.has_room, e.released.len, e.released.capacity, c.sort.ensures.capacity) in
    let kept = stored-without r.acknowledged r.pinned.items after.acknowledged after.pinned.items owners e.uses e.pins in
    (IsSound-filtered _ _ _ _ _ _ _ _ (λ u. not (is_owned owners u)) c.self.invariant.0 e.counted kept fits, e.spare, e.no_files)

pub returns : goal.returns
returns c =
    let r = c.self.inside.uses in
    let e = c.release_each.ensures in
    let after = c.release_each.new.uses in
    let owners = c.args.owners.now in
    let uses : List Use = c.args.self.now in
    let kept = stored-without r.acknowledged r.pinned.items after.acknowledged after.pinned.items owners e.uses e.pins in
    let fits : index_map_len after.counts ≤ vec_capacity c.sort.new.files = omega (arith, c.self.invariant.0.has_room, e.released.len, e.released.capacity, c.sort.ensures.capacity) in
    let sound : IsSound after.acknowledged after.pinned.items after.counts (vec_capacity c.sort.new.files) = IsSound-filtered _ _ _ _ _ _ _ _
    (λ u. not (is_owned owners u)) c.self.invariant.0 e.counted kept fits in
    let view : in_use after.acknowledged after.pinned.items ≡ without owners uses = rw (← c.self.view_is)
    (in_use-filtered r.acknowledged r.pinned.items after.acknowledged after.pinned.items (λ u. not (is_owned owners u)) kept) in
    let had : (f : ℕ) → ltb 0 (counter r.counts f) ≡ is_present uses f = λ f. rw (← c.self.view_is) (is_present-in_use _ _ _ _ c.self.invariant.0 f) in
    let has : (f : ℕ) → ltb 0 (counter after.counts f) ≡ is_present (without owners uses) f = λ f. rw (← view) (is_present-in_use _ _ _ _ sound f) in (
      (refl, λ _. tt, view),
      record {
        after = tt;
        files = c.as_slice.ensures.value ∙ released-sorted _ _ _ r.counts after.counts uses
            (without owners uses) c.sort.ensures.permutation c.sort.ensures.sorted c.clear.ensures.items e.released.each had has;
      },
    )
