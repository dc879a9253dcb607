-- Answers the goals of `Locked::call`.
use Rattle.ckpt_locked.proofs.{View, called_is, fits, length, made, rules, still_idle, subst, ◌+◌, ◌<◌, ◌^◌, ◌∙◌}
use Rattle.ckpt_locked.proofs.lock.Locked.call.Goals as goal

pub overflow_add-calls : goal.overflow_add-calls
overflow_add-calls g c =
    let room = subst (λ (v : View). length v.found + 1 < 2 ^ 64) c.in-Ok.ensures.made.0 c.in-Ok.ensures.made.3 in
    let small : c.pass.inside.calls + 1 < 2 ^ 64 = fits _ _ c.pass.inside.number _ _ c.pass.invariant c.enter-ticket.ensures.turn room in
    search rules

pub invariant_of-result : goal.invariant_of-result
invariant_of-result g c =
    let was = c.pass.invariant in
    let came = c.enter-ticket.ensures.turn in
    let is = called_is c.pass.inside.seat.me _ c.pass.inside.number _ _ was came _ _ _ c.args.call _ c.of-told.ensures c.in-Ok.ensures.made c.commit.ensures.idle in
    still_idle c.pass.inside.seat.me _ c.pass.inside.number _ _ was came _ c.args.call is

pub returns-in-Ok-clause-made : goal.returns-in-Ok-clause-made
returns-in-Ok-clause-made g c =
    let came = c.enter-ticket.ensures.turn in
    let is = called_is c.pass.inside.seat.me _ c.pass.inside.number _ _ c.pass.invariant came _ _ _ c.args.call _ c.of-told.ensures c.in-Ok.ensures.made c.commit.ensures.idle in
    made c.args.pass _ _ c.pass.inside.seat.me _ _ c.args.call _ _ c.pass.view_is (c.commit.ensures.same ∙ c.ask.ensures.same ∙ c.enter-ticket.ensures.same) came is c.in-Ok.ensures.made.1
