-- At each turn as many records are below the number as turns were made.
use Rattle.ckpt_core.proofs.{rules, ◌≡◌, ◌∙◌, ◌+◌, ◌<◌, ◌^◌, Some, sym, ap, arith, find, option_map, Live, records_in, live_of, is_from, live_bound, live_in_order, none_below_zero, walk_ended}
use Rattle.ckpt_core.proofs.{walk_goes_on, walk_stopped}
use Rattle.ckpt_core.proofs.parts.Parts.live.Goals as goal

pub loop-init : goal.loop-init
loop-init c = none_below_zero (records_in c.args.self.now)

pub returns-in_err-live : goal.returns-in_err-live
returns-in_err-live c =
    let p = c.args.self.now in
    let turn : c.loop.counter < c.args.place = search rules in
    c.from_residual.ensures ∙ walk_stopped c.loop.lowest c.loop.counter c.args.place (records_in p) (live_in_order p c.requires) c.loop.invariant turn (sym c.in_err-live.was ∙ c.first_from.ensures)

found : (c : goal.After-struct_known-1) → Some c.in_ok-live.live ≡ option_map live_of (find (is_from c.loop.lowest) (records_in c.args.self.now))
found c = sym c.in_ok-live.was ∙ c.first_from.ensures

its_number : (c : goal.After-struct_known-1) → c.live.inside.0.0.0 ≡ c.in_ok-live.live.id
its_number c = ap (λ (l : Live). l.id) c.live.view_is

pub overflow_add-lowest : goal.overflow_add-lowest
overflow_add-lowest c =
    let bound : c.in_ok-live.live.id < 2 ^ 62 = live_bound c.args.self.now c.loop.lowest c.in_ok-live.live c.requires.sound (found c) in
    let same : c.live.inside.0.0.0 ≡ c.in_ok-live.live.id = its_number c in
    let small : c.live.inside.0.0.0 + 1 < 2 ^ 64 = omega arith in
    search rules

pub loop-preserved : goal.loop-preserved
loop-preserved c = let p = c.args.self.now in rw (its_number c, walk_goes_on c.loop.lowest c.loop.counter c.in_ok-live.live (records_in p) (live_in_order p c.requires) c.loop.invariant (found c))

pub returns : goal.returns
returns c =
    let all : c.loop.counter ≡ c.args.place = search rules in
    walk_ended c.loop.lowest c.args.place (records_in c.args.self.now) c.first_from-2.result (live_in_order c.args.self.now c.requires) (c.loop.invariant ∙ all) c.first_from-2.ensures

pub first_from-requires : goal.first_from-requires
first_from-requires c = live_in_order c.args.self.now c.requires

pub first_from-requires-2 : goal.first_from-requires-2
first_from-requires-2 c = live_in_order c.args.self.now c.requires
