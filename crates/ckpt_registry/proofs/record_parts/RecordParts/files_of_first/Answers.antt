-- Answers the goals of `RecordParts::files_of_first`.
use Rattle.ckpt_registry.proofs.{Cut, List, ap, arith, end_of, end_of-more, ends_within, files_of_first, get_or, length, length-take-le, places, sym, take, ℕ, ◌+◌, ◌-◌, ◌<◌, ◌∙◌, ◌≡◌, ◌≤◌}
use Rattle.ckpt_registry.proofs.record_parts.RecordParts.files_of_first.Goals as goal

-- where the last of the first n parts ends
last_end : (cuts : List Cut) (n : ℕ) (cut : Cut) → 0 < n → n ≤ length cuts → cut ≡ get_or cuts (n - 1) cut → end_of 0 (take n cuts) ≡ cut.end
last_end cuts n cut some within at = let same : n ≡ (n - 1) + 1 = omega arith in ap (λ k. end_of 0 (take k cuts)) same ∙ end_of-more 0 cuts (n - 1) cut (omega arith) at

pub index-requires : goal.index-requires
index-requires c =
    let r = c.self.inside in
    omega (arith, r.cuts.ok.0, places c.args.self.now r.cuts.items r.files.items c.args.parts c.self.view_is c.requires)

pub slice_bounds-result-end-2 : goal.slice_bounds-result-end-2
slice_bounds-result-end-2 c =
    let r = c.self.inside in
    let end = last_end r.cuts.items c.args.parts c.index.result.now (omega arith) (places c.args.self.now r.cuts.items r.files.items c.args.parts c.self.view_is c.requires) c.index.ensures in
    let within = (ends_within c.args.parts 0 r.cuts.items r.files.items c.self.invariant).1 in
    sym (length-take-le c.index.result.now.end c.deref.result.now (rw c.deref.ensures.value (omega (arith, end, within))))

pub returns : goal.returns
returns c =
    let r = c.self.inside in
    let n = c.args.parts in
    let end = last_end r.cuts.items n c.index.result.now (omega arith) (places c.args.self.now r.cuts.items r.files.items n c.self.view_is c.requires) c.index.ensures in
    rw (c.deref.ensures.value, ← end, ← c.self.view_is) (sym (files_of_first n r.cuts.items r.files.items c.self.invariant))
