-- Answers the goals of `Pending::ack_expected_metered`.
use Rattle.ckpt_pending.proofs.{Acked, BelongsAt, Err, Expects, IfErr, IfOk, IsCounted-put, IsErr, LiesAt, List, Ok, Record}
use Rattle.ckpt_pending.proofs.{Result, SubtaskId, acked, acked_at, arith, both_ways, false, insert, insert_at}
use Rattle.ckpt_pending.proofs.{is_before, missing-with_ack, pending_record, put_ack, refl, subtask_of, without-with_ack, ℕ, ◌∙◌, ◌≡◌}
use Rattle.ckpt_pending.proofs.pending.Pending.ack_expected_metered.Goals as goal

nowhere : (s : SubtaskId) (acks : List Acked) (r : Result ℕ ℕ) → acked acks s ≡ false → IfOk r (LiesAt subtask_of s acks) → IsErr r
nowhere s acks (Ok place) h k = absurd (both_ways (acked acks s) h (acked_at s acks place k))
nowhere s acks (Err place) h k = refl

-- an acknowledgement was put where there was none
added : (s : SubtaskId) (files : List ℕ) (acks left : List Acked) (place : ℕ) (found : Result ℕ ℕ) → found ≡ Err place → IfErr found (BelongsAt is_before subtask_of s acks)
    → left ≡ insert acks place (record { subtask = s; files = files }) → left ≡ put_ack (record { subtask = s; files = files }) acks
added s files acks left place found e absent is = is ∙ insert_at (record { subtask = s; files = files }) acks place (rw e at absent)

pub unwrap_err-place-requires : goal.unwrap_err-place-requires
unwrap_err-place-requires c = nowhere c.args.subtask c.self.inside.acks.items c.place_of.result (rw (← c.self.view_is) at c.requires).1 c.place_of.ensures.found

pub overflow_sub-self : goal.overflow_sub-self
overflow_sub-self c =
    let i = c.self.inside in let old : Record = pending_record i.id i.kind i.shape i.started i.acks.items in
    let expects : Expects old c.args.subtask = rw (← c.self.view_is) at c.requires in
    omega (arith, c.self.invariant.counted, missing-with_ack old c.args.subtask c.args.files expects.0 expects.1)

pub invariant_of-self-2 : goal.invariant_of-self-2
invariant_of-self-2 c =
    let i = c.self.inside in let old : Record = pending_record i.id i.kind i.shape i.started i.acks.items in
    let expects : Expects old c.args.subtask = rw (← c.self.view_is) at c.requires in
    rw (added c.args.subtask c.args.files i.acks.items _ _ c.place_of.result c.unwrap_err-place.ensures c.place_of.ensures.absent c.in_ok-add.ensures.ok)
    (IsCounted-put old c.args.subtask c.args.files i.missing c.self.invariant expects.0 expects.1)

pub returns-clause-ok : goal.returns-clause-ok
returns-clause-ok c =
    rw (← c.self.view_is, added c.args.subtask c.args.files c.self.inside.acks.items _ _ c.place_of.result c.unwrap_err-place.ensures c.place_of.ensures.absent c.in_ok-add.ensures.ok)

pub returns-clause-one_less : goal.returns-clause-one_less
returns-clause-one_less c =
    let i = c.self.inside in let old : Record = pending_record i.id i.kind i.shape i.started i.acks.items in
    let expects : Expects old c.args.subtask = rw (← c.self.view_is) at c.requires in
    rw (← c.self.view_is, added c.args.subtask c.args.files i.acks.items _ _ c.place_of.result c.unwrap_err-place.ensures c.place_of.ensures.absent c.in_ok-add.ensures.ok)
    (missing-with_ack old c.args.subtask c.args.files expects.0 expects.1)

pub returns-clause-undone_by_retract : goal.returns-clause-undone_by_retract
returns-clause-undone_by_retract c =
    let i = c.self.inside in let old : Record = pending_record i.id i.kind i.shape i.started i.acks.items in
    let expects : Expects old c.args.subtask = rw (← c.self.view_is) at c.requires in
    rw (← c.self.view_is, added c.args.subtask c.args.files i.acks.items _ _ c.place_of.result c.unwrap_err-place.ensures c.place_of.ensures.absent c.in_ok-add.ensures.ok)
    (without-with_ack old c.args.subtask c.args.files expects.1)
