-- The accepted acknowledgements of a done record: one per subtask.
use Rattle.ckpt_locked.proofs.Names.{Acknowledgements, History, IsSound, List, ap, calls_of, subst, sym, ◌∙◌, ◌≡◌}
use Rattle.ckpt_ids.proofs.CountLemmas.{count_by-in_order}
use Rattle.ckpt_ids.proofs.OrderedLemmas.{IsIn-in_order}
use Rattle.ckpt_ids.specs.Acknowledged.{acknowledges_before}
use Rattle.ckpt_ids.specs.Counting.{one_if}
use Rattle.ckpt_ids.specs.Ordered.{IsIn, in_order}
use Rattle.ckpt_ids.specs.Shapes.{is_subtask, same_subtask}
use Rattle.ckpt_ids.specs.declared.ack.Acked.{Acked}
use Rattle.ckpt_ids.specs.declared.subtask.SubtaskId.{SubtaskId}
use Rattle.ckpt_locked.specs.Books.{state_of_book}
use Rattle.ckpt_locked.specs.Promises.{ExactlyOne, accepted_in}
use Rattle.ckpt_model.proofs.Records.Once.{times_of-in_order}
use Rattle.ckpt_model.specs.Laws.{times_of}
use Rattle.std.specs.List.{list_any}

pub exactly_one : (h : History) → IsSound (state_of_book h) → Acknowledgements h.opening (calls_of h.entries) → ExactlyOne h
unfolding state_of_book
exactly_one h sound law r there done =
    let accepted : List Acked = accepted_in h r.id in
    let acks_are : r.acks ≡ in_order acknowledges_before accepted = (law r there).0 in
    let once : (s : SubtaskId) → times_of s accepted ≡ one_if (is_subtask r.shape s) = λ s.
    sym (count_by-in_order (λ (a : Acked). same_subtask s a.subtask) acknowledges_before accepted) ∙ ap (times_of s) (sym acks_are)
    ∙ times_of-in_order s r.acks ((sound.records.each r there).acks_in_order) ∙ ap (λ ss. one_if (list_any (same_subtask s) ss)) ((law r there).1 done) in
    (once, λ a k. subst (λ (acks : List Acked). IsIn a acks) (sym acks_are) (IsIn-in_order acknowledges_before a accepted k))
