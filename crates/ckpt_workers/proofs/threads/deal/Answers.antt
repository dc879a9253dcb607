-- Answers the goals of `deal`.
use Rattle.ckpt_workers.proofs.{All-map, IsDeal-given, IsDeal-none, Share, [], ap, arith, length, length-append, length-map, map, refl, ◌%◌, ◌<◌, ◌∙◌, ◌∷◌, ◌≡◌}
use Rattle.std.proofs.Math.Seq.{map-set_same}
use Rattle.ckpt_workers.proofs.threads.deal.Goals as goal

pub loop-call-init : goal.loop-call-init
loop-call-init c =
    let shares = c.in_ok-shares.shares.items in (
      tt,
      tt,
      refl,
      c.in_ok-shares.ensures.passes,
      IsDeal-none (map (λ (s : Share). s.calls.items) shares) (All-map (λ l. l ≡ []) (λ (s : Share). s.calls.items) shares c.in_ok-shares.ensures.calls),
    )

pub loop-call-preserved : goal.loop-call-preserved
loop-call-preserved c =
    let shares = c.loop-call.shares.items in
    let old : Share = c.index_mut.result.now in
    let new : Share = c.give.new.share in
    let at = c.loop-call.invariant.2 in
    let passes = c.loop-call.invariant.3 in
    let long : length (map (λ (s : Share). s.pass) shares) ≡ length shares = length-map shares (λ (s : Share). s.pass) in
    let many : length (map (λ (s : Share). s.pass) shares) ≡ length c.args.passes.items = ap length passes in
    let some : 0 < length c.args.passes.items = c.requires.some in
    let counts : c.len.result ≡ length shares = omega (arith, c.len.ensures, c.loop-call.shares.ok) in
    let given = c.in_ok-give.ensures in (
      tt,
      tt,
      omega (arith, at, length-append c.loop-call.yielded (c.in-Some.call ∷ [])),
      map-set_same (λ (s : Share). s.pass) shares (c.loop-call.place % c.len.result) new old (given.pass ∙ ap (λ (s : Share). s.pass) c.index_mut.ensures.value) ∙ passes,
      IsDeal-given (λ (s : Share). s.calls.items) shares c.loop-call.place c.len.result c.loop-call.yielded c.in-Some.call old new (omega arith) counts at c.index_mut.ensures.value given.calls
          c.loop-call.invariant.4,
    )
