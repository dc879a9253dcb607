-- Answers the goals of `PendingRecords::remove_all`.
use Rattle.ckpt_core.proofs.{◌≡◌, ◌∙◌, ◌+◌, ◌++◌, ◌∷◌, [], ℕ, List, not, filter, take, eqb, refl, ap, sym, list_any, take_more, Record, has_id, filter-all, filter-one_more}
use Rattle.ckpt_core.proofs.pending_records.PendingRecords.remove_all.Goals as goal

pub loop-id-init : goal.loop-id-init
loop-id-init c = sym (filter-all (λ r. not (list_any (λ i. eqb r.id i) [])) c.args.self.now (λ r h. refl))

pub loop-id-preserved : goal.loop-id-preserved
loop-id-preserved c = let ids : List ℕ = c.args.ids.now in let i : ℕ = c.loop-id.id-index in let id : ℕ = c.id-item.result in
    let without : List ℕ → List Record = λ xs. filter (λ r. not (list_any (λ k. eqb r.id k) xs)) c.args.self.now in
    let more : take (i + 1) ids ≡ take i ids ++ id ∷ [] = take_more ids i id c.loop-id-test.true ∙ ap (λ z. take i ids ++ z ∷ []) (sym c.id-item.is) in
    c.remove.ensures.rest ∙ (ap (filter (λ r. not (has_id id r))) c.loop-id.invariant ∙ (filter-one_more (take i ids) id c.args.self.now ∙ ap without (sym more)))
