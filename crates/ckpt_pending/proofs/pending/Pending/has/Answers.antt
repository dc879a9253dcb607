-- Answers the goals of `Pending::has`.
use Rattle.ckpt_pending.proofs.{◌≡◌, ℕ, List, Result, Ok, Err, IfOk, IfErr, sym, is_ok, SubtaskId, Acked, is_before, BelongsAt, LiesAt, subtask_of, acked, acked_at, acked_nowhere}
use Rattle.ckpt_pending.proofs.pending.Pending.has.Goals as goal

found : (s : SubtaskId) (acks : List Acked) (r : Result ℕ ℕ) → IfOk r (LiesAt subtask_of s acks) → IfErr r (BelongsAt is_before subtask_of s acks) → is_ok r ≡ acked acks s
found s acks (Ok place) h k = sym (acked_at s acks place h)
found s acks (Err place) h k = sym (acked_nowhere s acks place k)

pub returns : goal.returns
returns c =
    rw (c.is_ok.ensures.value, ← c.self.view_is) (found c.args.subtask c.self.inside.acks.items c.place_of.result c.place_of.ensures.found c.place_of.ensures.absent)
