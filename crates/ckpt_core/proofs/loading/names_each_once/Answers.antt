-- Answers the goals of `names_each_once`.
use Rattle.ckpt_core.proofs.{◌≡◌, ℕ, ◌+◌, List, [], ◌∷◌, ◌++◌, take, sym, ap, ◌∙◌, ⊎_elim, take_all, take_more, both_ways, Acked, IsAscendingSet, IsIn, IsIn-append_cases, IsIn-at, only_one}
use Rattle.ckpt_core.proofs.loading.names_each_once.Goals as goal

pub loop-acked-init : goal.loop-acked-init
loop-acked-init c = λ a h. absurd h

pub loop-acked-preserved : goal.loop-acked-preserved
loop-acked-preserved c = λ a h. let items : List Acked = c.as_slice-acked-items.result.now in let i : ℕ = c.loop-acked.acked-index in let b : Acked = c.acked-item.result in
    let next : take (i + 1) items ≡ take i items ++ b ∷ [] = take_more items i b c.loop-acked-test.true ∙ ap (λ z. take i items ++ z ∷ []) (sym c.acked-item.is) in
    let set : IsAscendingSet b.files = c.rises.ensures.0 c.if-not-rises.false in
    ⊎_elim (λ (k : IsIn a (take i items)). c.loop-acked.invariant a k) (λ (k : IsIn a (b ∷ [])). rw (only_one a b k) set) (IsIn-append_cases a (take i items) (b ∷ []) (rw next at h))

pub returns-then-not-rises-clause-no : goal.returns-then-not-rises-clause-no
returns-then-not-rises-clause-no c = λ e once. let items : List Acked = c.as_slice-acked-items.result.now in let b : Acked = c.acked-item.result in
    let there : IsIn b c.args.saved.now.metadata.acks = rw c.as_slice-acked-items.ensures.acks at (IsIn-at items c.loop-acked.acked-index b c.loop-acked-test.true c.acked-item.is) in
    both_ways c.rises.result c.if-not-rises.true (c.rises.ensures.1 (once.files b there))

pub returns-clause-yes : goal.returns-clause-yes
returns-clause-yes c = λ yes. record {
  files = λ a h. c.loop-acked.invariant a (rw (take_all c.loop-acked.acked-index c.as_slice-acked-items.result.now c.loop-acked-test.false ∙ c.as_slice-acked-items.ensures.acks) h);
  pins = c.rises-2.ensures.0 yes;
}

pub returns-clause-no : goal.returns-clause-no
returns-clause-no c = λ no once. both_ways c.rises-2.result no (c.rises-2.ensures.1 once.pins)
