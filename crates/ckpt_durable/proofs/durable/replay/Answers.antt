-- Answers the goals of `replay`.
use Rattle.ckpt_durable.proofs.Names.{◌≡◌, ◌∙◌, ◌+◌, ◌++◌, ◌∷◌, [], ℕ, List, take, ap, sym, take_more, FencedCall, FencedAnswer, Fenced, fenced_replay, fenced_step, fenced_replay-append}
use Rattle.ckpt_durable.proofs.durable.replay.Goals as goal

pub loop-call-preserved : goal.loop-call-preserved
loop-call-preserved c = let calls : List FencedCall = c.args.calls.now in let i : ℕ = c.loop-call.call-index in let call : FencedCall = c.call-item.result in
    let more : take (i + 1) calls ≡ take i calls ++ call ∷ [] = take_more calls i call c.loop-call-test.true ∙ ap (λ z. take i calls ++ z ∷ []) (sym c.call-item.is) in
    ap (λ (x : Fenced × FencedAnswer). x.0) (sym c.in_ok-apply.ensures.done) ∙ (ap (λ (k : Fenced). (fenced_step k call).0) c.loop-call.invariant ∙ (sym (fenced_replay-append c.args.terms.now (take i calls) (call ∷ [])) ∙ ap (fenced_replay c.args.terms.now) (sym more)))
