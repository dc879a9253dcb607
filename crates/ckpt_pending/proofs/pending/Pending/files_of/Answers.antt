-- The acknowledgement at the place that the search finds.
use Rattle.ckpt_pending.proofs.{◌≡◌, ◌∙◌, ℕ, List, Some, None, Result, Ok, Err, IfOk, IfErr, sym, ap, find, option_copied, option_map, result_ok, SubtaskId, Acked, same_subtask, is_before, BelongsAt}
use Rattle.ckpt_pending.proofs.{LiesAt, find-none, files_from, subtask_of, acked_nowhere, found_at}
use Rattle.ckpt_pending.proofs.pending.Pending.files_of.Goals as goal

absent : (s : SubtaskId) (acks : List Acked) (r : Result ℕ ℕ) → IfErr r (BelongsAt is_before subtask_of s acks) → result_ok r ≡ None → find (λ a. same_subtask s a.subtask) acks ≡ None
absent s acks (Ok place) h e = absurd (cc)
absent s acks (Err place) h e = find-none (λ a. same_subtask s a.subtask) acks (acked_nowhere s acks place h)

there : (s : SubtaskId) (acks : List Acked) (r : Result ℕ ℕ) (place : ℕ) → IfOk r (LiesAt subtask_of s acks) → result_ok r ≡ Some place → LiesAt subtask_of s acks place
there s acks (Ok at) place h e = let same : place ≡ at = cc in rw same h
there s acks (Err at) place h e = absurd (cc)

pub returns-in_err-place : goal.returns-in_err-place
returns-in_err-place c =
    let acks : List Acked = c.self.inside.acks.items in
    let none = absent c.args.subtask acks c.place_of.result c.place_of.ensures.absent (sym c.ok.ensures.value ∙ c.in_err-place.was) in
    ap option_copied c.from_residual.ensures ∙ ap (option_map (λ (a : Acked). a.files)) (sym none) ∙ ap (λ r. files_from r c.args.subtask) c.self.view_is

pub returns : goal.returns
returns c =
    let acks : List Acked = c.self.inside.acks.items in
    let lies = there c.args.subtask acks c.place_of.result c.in_ok-place.place c.place_of.ensures.found (sym c.ok.ensures.value ∙ c.in_ok-place.was) in
    rw (c.as_slice.ensures.files, ← c.self.view_is, found_at c.args.subtask acks c.in_ok-place.place c.in_ok-acked.acked.now c.self.invariant.pending.in_order lies c.in_ok-acked.ensures.lookup)
