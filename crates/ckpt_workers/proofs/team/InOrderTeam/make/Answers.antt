-- Answers the goals of `InOrderTeam::make`.
use Rattle.ckpt_workers.proofs.{IsTally, IsTeamwork-none, IsTeamwork-push, [], ap, arith, in_order-none, in_order-push, length-append, refl, ◌%◌, ◌∷◌}
use Rattle.ckpt_workers.specs.declared.team.Made.{Made}
use Rattle.ckpt_workers.proofs.team.InOrderTeam.make.Goals as goal

pub loop-call-init : goal.loop-call-init
loop-call-init c =
    let made : Made = c.none-made.result in
    let is = c.none-made.ensures in
    let tally : IsTally made [] = record { accepted = ap (λ (m : Made). m.accepted) is; refused = ap (λ (m : Made). m.refused) is; completed = ap (λ (m : Made). m.completed) is } in
    let book = ap (λ (m : Made). m.book) is in
    (tt, tt, refl, IsTeamwork-none c.args.book c.args.threads made book tally, in_order-none c.args.book made book)

pub loop-call-preserved : goal.loop-call-preserved
loop-call-preserved c =
    let at = c.loop-call.invariant.2 in (
      tt,
      tt,
      omega (arith, length-append c.loop-call.yielded (c.in-Some.call ∷ [])),
      IsTeamwork-push c.args.book c.loop-call.yielded c.args.threads c.loop-call.made c.enter.new.self c.in-Some.call (c.loop-call.place % c.args.threads) c.requires.threads.0
          (ap (λ k. k % c.args.threads) at) c.loop-call.invariant.3 c.in_ok-enter.ensures,
      in_order-push c.args.book c.loop-call.yielded c.loop-call.made c.enter.new.self c.in-Some.call (c.loop-call.place % c.args.threads) c.loop-call.invariant.4 c.in_ok-enter.ensures,
    )
