-- Answers the goals of `has_acknowledged`.
use Rattle.ckpt_session.proofs.{◌∙◌, rules, tests, IsBinarySearchResult, Acked, by_subtask, found_by_search}
use Rattle.std.proofs.lemmas.Fn.{always_returns_same}
use Rattle.ckpt_session.proofs.all.has_acknowledged.Goals as goal

pub returns : goal.returns
returns c =
    let searched : IsBinarySearchResult (λ (a : Acked). by_subtask a.subtask c.args.subtask) c.as_slice.result.now c.binary_search_by_key.result =
    c.binary_search_by_key.ensures.position (λ a. a.subtask) (always_returns_same _ _ _ (λ a r f k. search (rules, tests))) in
    c.is_ok.ensures.value ∙ found_by_search c.args.acks.now c.args.subtask c.binary_search_by_key.result c.as_slice.ensures.order
    (rw c.as_slice.ensures.acks at c.binary_search_by_key.ensures.bound) (rw c.as_slice.ensures.acks at searched)
