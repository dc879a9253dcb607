-- Dropping the noted records is a drop by number; the done ones stay, since none of them is noted.
use Rattle.ckpt_core.proofs.Names.{drop}
use Rattle.ckpt_core.proofs.{Drops, is_noted, state_of, State, kept, unpinned, map_itself, grouped, nothing_released, left, staying, drops_from, staying_done, ◌≡◌, ℕ, not, List, [], length, refl, sym}
use Rattle.ckpt_core.proofs.{ap, ◌∙◌, None, filter, vec_len, eqb-true, append-nil, nil_from_length, Record, released, uses, filter-all, Parts, AreTied, Records.Grouped.apart-from_in_order}
use Rattle.ckpt_core.proofs.parts.Parts.drop_noted.Goals as goal

-- if no number is noted, all records stay
kept_all : (rs : List Record) → kept (is_noted []) None rs ≡ rs
kept_all rs = map_itself (unpinned None) (filter (λ r. not (is_noted [] r)) rs) (λ r h. refl) ∙ filter-all (λ r. not (is_noted [] r)) rs (λ r h. refl)

drop_none : (m : State) → drop m (is_noted []) None ≡ m
unfolding drop
drop_none m = rw (kept_all m.records, nothing_released (uses m.records), append-nil m.waiting)

drops_none : (p : Parts) (ids : List ℕ) → AreTied p → p.ended.items ≡ ids → ids ≡ [] → Drops p p (is_noted ids) 0
drops_none p ids tied noted none =
    rw none (record {
      state_is = sym (drop_none (state_of p));
      count_is = sym (ap length (ap (λ rs. released (uses (state_of p).records) (uses rs)) (kept_all (state_of p).records) ∙ nothing_released (uses (state_of p).records)));
      tied = tied;
      none_ended = noted ∙ none;
    })

pub returns-then-is_empty : goal.returns-then-is_empty
returns-then-is_empty c =
    let ended = c.args.self.now.ended in
    drops_none c.args.self.now ended.items c.requires.tied refl (nil_from_length ended.items (sym ended.ok.0 ∙ eqb-true (vec_len ended) 0 (sym c.if-is_empty.ensures)))

pub returns : goal.returns
returns c =
    let p = c.args.self.now in
    let q = c.hand_out.new.self in
    let ids = p.ended.items in
    let apart = apart-from_in_order (grouped p.registry p.pending p.store.checkpoints p.store.savepoints) c.requires.in_order in
    let is : q ≡ left p ids p.store.spare q.ended = c.hand_out.ensures.parts ∙ ap (λ rs. record (left p ids p.store.spare q.ended) { pending = rs; store = p.store })
    (c.remove_all.ensures ∙ ap (λ xs. staying xs p.pending) c.deref.ensures.value) ∙ ap (λ s. record (left p ids p.store.spare q.ended) { store = s })
    (sym (staying_done p ids c.requires.pending_only)) in
    drops_from p q ids p.store.spare c.hand_out.result c.requires.tied apart is c.hand_out.ensures.cleared c.hand_out.ensures.capacity c.hand_out.ensures.count
