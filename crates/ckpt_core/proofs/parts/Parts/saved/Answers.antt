-- Answers the goals of `Parts::saved`.
use Rattle.ckpt_core.proofs.{◌≡◌, ℕ, ◌+◌, ◌<◌, ◌^◌, List, [], ◌∷◌, ◌++◌, map, take, refl, sym, ap, ◌∙◌, arith, count_by, map-append, Record, Parts, Live, record_in, records_in, state_of, record_of}
use Rattle.ckpt_core.proofs.{found_from, found_next, saved_all, saved_next, some_there, is_below, live_bound, live_in_order, none_below_zero}
use Rattle.ckpt_core.proofs.parts.Parts.saved.Goals as goal

pub first_from-requires : goal.first_from-requires
first_from-requires c = live_in_order c.args.self.now c.requires

pub loop-live-init : goal.loop-live-init
loop-live-init c =
    let rs : List Record = records_in c.args.self.now in
    record {
      saved = ap (map record_in) c.new-saved.ensures.items ∙ sym (ap (λ (k : ℕ). take k rs) (none_below_zero rs));
      bound = omega arith;
      none = refl;
    }

pub save-requires-clause-there : goal.save-requires-clause-there
save-requires-clause-there c =
    let q = found_next c.args.self.now c.loop-live.lowest c.in-Some.live c.requires (sym c.in-Some.is ∙ c.first_from.ensures) in
    some_there (record_of (state_of c.args.self.now) c.in-Some.live.id) q.0 q.1

pub number_after-lowest-requires : goal.number_after-lowest-requires
number_after-lowest-requires c = live_bound c.args.self.now c.loop-live.lowest c.in-Some.live c.requires.sound (sym c.in-Some.is ∙ c.first_from.ensures)

pub loop-live-preserved : goal.loop-live-preserved
loop-live-preserved c =
    let rs : List Record = records_in c.args.self.now in
    let q = found_next c.args.self.now c.loop-live.lowest c.in-Some.live c.requires (sym c.in-Some.is ∙ c.first_from.ensures) in
    let one : record_in c.in_ok-one.one ≡ q.0 = c.in_ok-one.ensures.saved q.0 q.1 q.2 in
    let end : c.in-Some.live.id < 2 ^ 62 = live_bound c.args.self.now c.loop-live.lowest c.in-Some.live c.requires.sound (sym c.in-Some.is ∙ c.first_from.ensures) in
    let next : c.number_after-lowest.result ≡ q.0.id + 1 = c.number_after-lowest.ensures ∙ ap (λ (i : ℕ). i + 1) q.4 in
    record {
      saved = ap (map record_in) c.in_ok-push.ensures.items
          ∙ map-append record_in c.loop-live.saved.items (c.in_ok-one.one ∷ [])
          ∙ ap (λ (xs : List Record). xs ++ record_in c.in_ok-one.one ∷ []) c.loop-live.invariant.saved
          ∙ ap (λ (x : Record). take (count_by (is_below c.loop-live.lowest) rs) rs ++ x ∷ []) one
          ∙ sym (saved_next rs c.loop-live.lowest q.0 (live_in_order c.args.self.now c.requires) q.3)
          ∙ sym (ap (λ (i : ℕ). take (count_by (is_below i) rs) rs) next);
      bound = omega (arith, end, c.number_after-lowest.ensures);
      none = c.in_ok-push.ensures.none ∙ c.in_ok-one.ensures.none ∙ c.loop-live.invariant.none;
    }

pub loop-live-smaller : goal.loop-live-smaller
loop-live-smaller c =
    let n : ℕ = c.loop-live.lowest in
    let live : Live = c.in-Some.live in
    let q = found_next c.args.self.now n live c.requires (sym c.in-Some.is ∙ c.first_from.ensures) in
    omega (arith, live_bound c.args.self.now n live c.requires.sound (sym c.in-Some.is ∙ c.first_from.ensures), found_from (records_in c.args.self.now) n q.0 q.3, q.4, c.number_after-lowest.ensures)

pub returns-clause-saved : goal.returns-clause-saved
returns-clause-saved c = let p : Parts = c.args.self.now in c.loop-live.invariant.saved ∙ saved_all (records_in p) c.loop-live.lowest (live_in_order p c.requires) (sym c.in_default.is ∙ c.first_from.ensures)
