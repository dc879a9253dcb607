-- Answers the goals of `Pending::retract`.
use Rattle.ckpt_pending.proofs.{Acked, AreInSubtaskOrder, BelongsAt, Err, IfErr, IfOk, IsCounted-without, IsOk, IsSome, LiesAt, List, Ok, OnSome, Option, Result, SubtaskId, acked, acked_nowhere}
use Rattle.ckpt_pending.proofs.{arith, both_ways, filter, is_before, length, missing-without_ack, missing_bound, not, on_some, pending_record, refl, remove, remove_at, rules, same_subtask, subtask_of}
use Rattle.ckpt_pending.proofs.{sym, true, ℕ, ◌<◌, ◌∙◌, ◌≡◌, ◌≤◌, ◌↔◌}
use Rattle.ckpt_pending.proofs.pending.Pending.retract.Goals as goal

there : (s : SubtaskId) (acks : List Acked) (r : Result ℕ ℕ) → acked acks s ≡ true → IfErr r (BelongsAt is_before subtask_of s acks) → IsOk r
there s acks (Ok place) h k = refl
there s acks (Err place) h k = absurd (both_ways (acked acks s) (acked_nowhere s acks place k) h)

removed : (s : SubtaskId) (acks left : List Acked) (place : ℕ) (found : Result ℕ ℕ) (r : Option Acked) → AreInSubtaskOrder acks → found ≡ Ok place → IfOk found (LiesAt subtask_of s acks)
    → (IsSome r ↔ (place < length acks)) → OnSome r (left ≡ remove acks place) → left ≡ filter (λ a. not (same_subtask s a.subtask)) acks
removed s acks left place found r a e lies some is = let at : LiesAt subtask_of s acks place = rw e at lies in on_some r _ (some.1 at.0) is ∙ remove_at s acks place a at

pub unwrap-place-requires : goal.unwrap-place-requires
unwrap-place-requires c = there c.args.subtask c.self.inside.acks.items c.place_of.result (rw (← c.self.view_is) at c.requires) c.place_of.ensures.absent

pub overflow_add-self : goal.overflow_add-self
overflow_add-self c =
    let i = c.self.inside in
    let small : i.missing ≤ 4096 = omega (arith, c.self.invariant.counted, missing_bound (pending_record i.id i.kind i.shape i.started i.acks.items) c.self.invariant.pending) in
    search rules

pub invariant_of-self : goal.invariant_of-self
invariant_of-self c =
    let i = c.self.inside in
    let gone = removed c.args.subtask i.acks.items _ _ c.place_of.result _ c.self.invariant.pending.in_order c.unwrap-place.ensures c.place_of.ensures.found
    (rw (← i.acks.ok.0) c.remove.ensures.variant) c.remove.ensures.items in
    rw gone (IsCounted-without (pending_record i.id i.kind i.shape i.started i.acks.items) c.args.subtask i.missing c.self.invariant (rw (← c.self.view_is) at c.requires))

pub returns-clause-value : goal.returns-clause-value
returns-clause-value c =
    let i = c.self.inside in
    let gone = removed c.args.subtask i.acks.items _ _ c.place_of.result _ c.self.invariant.pending.in_order c.unwrap-place.ensures c.place_of.ensures.found
    (rw (← i.acks.ok.0) c.remove.ensures.variant) c.remove.ensures.items in
    rw (← c.self.view_is, gone)

pub returns-clause-one_more : goal.returns-clause-one_more
returns-clause-one_more c =
    let i = c.self.inside in
    let gone = removed c.args.subtask i.acks.items _ _ c.place_of.result _ c.self.invariant.pending.in_order c.unwrap-place.ensures c.place_of.ensures.found
    (rw (← i.acks.ok.0) c.remove.ensures.variant) c.remove.ensures.items in
    rw (← c.self.view_is, gone) (sym (missing-without_ack (pending_record i.id i.kind i.shape i.started i.acks.items) c.args.subtask c.self.invariant.pending (rw (← c.self.view_is) at c.requires)))
