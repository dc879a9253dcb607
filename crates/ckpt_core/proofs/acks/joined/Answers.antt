-- Answers the goals of `joined`.
use Rattle.ckpt_core.proofs.{◌≡◌, ◌++◌, ◌∙◌, [], ℕ, List, ap, sym, Result, Ok, Err, IfOk, append-nil, IsAscending, ascending, ascending-swapped, ascending_already}
use Rattle.ckpt_core.proofs.acks.joined.Goals as goal

-- with no reused file the fresh ones are all
alone : {E : Type 0} (copy : Result (List ℕ) E) (fresh reused : List ℕ) → IfOk copy (λ files. files ≡ fresh) → IsAscending fresh → reused ≡ [] →
    IfOk copy (λ files. files ≡ ascending (fresh ++ reused))
alone (Ok files) fresh reused is in_order none = is ∙ ascending_already fresh in_order ∙ ap ascending (sym (append-nil fresh) ∙ ap (λ xs. fresh ++ xs) (sym none))
alone (Err _) fresh reused is in_order none = tt

pub returns-then-is_empty-clause-files : goal.returns-then-is_empty-clause-files
returns-then-is_empty-clause-files c = alone c.copy_metered.result c.args.fresh.now c.args.reused.now c.copy_metered.ensures.value c.as_slice-written.ensures.ascending (c.is_empty.ensures.0 c.if-is_empty.true)

pub returns-clause-files : goal.returns-clause-files
returns-clause-files c =
    let first : c.extend_from_slice.new.list.items ≡ c.args.reused.now =
    c.in_ok-extend_from_slice.ensures.items ∙ ap (λ xs. xs ++ c.as_slice.result.now) c.in_ok-files.ensures.items ∙ c.as_slice.ensures.files in
    let both : c.extend_from_slice-2.new.list.items ≡ c.args.reused.now ++ c.args.fresh.now =
    c.in_ok-extend_from_slice-2.ensures.items ∙ ap (λ xs. xs ++ c.as_slice-written.result.now) first ∙ ap (λ xs. c.args.reused.now ++ xs) c.as_slice-written.ensures.files in
    c.of.ensures ∙ ap ascending both ∙ ascending-swapped c.args.reused.now c.args.fresh.now
