-- Answers the goals of `work`.
use Rattle.ckpt_workers.proofs.{Exchange, IsShift-push, [], ap, map-append, sym, ◌++◌, ◌∙◌, ◌∷◌}
use Rattle.ckpt_workers.proofs.shares.work.Goals as goal

pub loop-call-preserved : goal.loop-call-preserved
loop-call-preserved g c =
    let h = c.loop-call.invariant.2 in
    let t : Exchange = record { call = c.in-Some.call; answer = c.in-Ok.answer } in (
      tt,
      tt,
      (
        h.0 ++ t ∷ [],
        IsShift-push c.args.share.pass h.0 c.loop-call.pass c.in-Some.call c.in-Ok.answer c.in-Ok.next h.1 c.in-Ok.ensures.made,
        map-append (λ (x : Exchange). x.call) h.0 (t ∷ []) ∙ ap (λ l. l ++ c.in-Some.call ∷ []) h.2,
        map-append (λ (x : Exchange). x.answer) h.0 (t ∷ []) ∙ ap (λ l. l ++ c.in-Ok.answer ∷ []) h.3 ∙ sym c.in_ok-push-in-Ok.ensures.items,
      ),
    )
