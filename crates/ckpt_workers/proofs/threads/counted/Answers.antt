-- Answers the goals of `counted`.
use Rattle.ckpt_workers.proofs.{IsCounted, IsCounting-all, IsCounting-none, IsCounting-push, arith, map, turn_within, ◌≡◌}
use Rattle.ckpt_workers.proofs.threads.counted.Goals as goal

pub loop-place-init : goal.loop-place-init
loop-place-init c = IsCounting-none (map (λ a. a.items) c.args.answers.now) c.args.book c.none-made.result c.none-made.ensures

pub index-requires : goal.index-requires
index-requires c =
    let within = turn_within (λ a. a.items) c.args.answers.now c.args.count c.loop-place.place _ c.requires.some c.requires.dealt c.loop-place-test.true c.index-answers-place.is in
    omega (arith, within, c.index-answers-place.result.ok)

pub loop-place-preserved : goal.loop-place-preserved
loop-place-preserved c =
    let told = c.count.ensures in
    let counted : IsCounted c.loop-place.made c.count.new.self c.index.result.now = record { accepted = told.accepted; refused = told.refused; completed = told.completed } in
    IsCounting-push (λ a. a.items) c.args.answers.now c.args.count c.loop-place.place _ c.requires.some c.requires.dealt c.loop-place-test.true c.index-answers-place.is c.args.book _ _
    c.index.result.now c.index.result.now c.index.ensures c.loop-place.invariant told.book counted

pub returns-clause-tallied : goal.returns-clause-tallied
returns-clause-tallied c =
    let end : c.loop-place.place ≡ c.args.count = omega arith in
    IsCounting-all _ c.args.book c.args.count c.loop-place.made c.requires.dealt (rw end at c.loop-place.invariant)
