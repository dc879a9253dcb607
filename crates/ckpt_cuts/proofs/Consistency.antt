-- A completed record has an accepted acknowledgement of each subtask, so each receiver has cut it.
use Rattle.std.proofs.Common.{◌≡◌, true, List, sym, subst}
use Rattle.ckpt_ids.specs.declared.ack.Acked.{Acked}
use Rattle.ckpt_ids.specs.declared.call.Call.{Call}
use Rattle.ckpt_ids.specs.declared.subtask.SubtaskId.{SubtaskId}
use Rattle.ckpt_ids.specs.Ordered.{IsIn}
use Rattle.ckpt_ids.specs.Records.{Record}
use Rattle.ckpt_ids.specs.Shapes.{subtasks}
use Rattle.ckpt_ids.specs.Acknowledged.{acknowledges_before}
use Rattle.ckpt_ids.proofs.OrderedLemmas.{IsIn-from_in_order, IsIn-from_map}
use Rattle.ckpt_align.specs.Laws.{HasCut, Network}
use Rattle.ckpt_align.proofs.Carrying.{global_cut}
use Rattle.ckpt_model.specs.State.{Opening, opened}
use Rattle.ckpt_model.specs.Histories.{replay}
use Rattle.ckpt_model.specs.Laws.{AreCalls, CanOpen, accepted_by, along}
use Rattle.ckpt_model.proofs.Histories.Acknowledgements.{acknowledgements}
use Rattle.ckpt_cuts.specs.Laws.{AcknowledgesCuts, DoneIsConsistent}

-- what holds of the subtask of each accepted acknowledgement of a completed record holds of each of its subtasks
pub each-from_done : (P : SubtaskId → Type 0) (o : Opening) (calls : List Call) (r : Record) (s : SubtaskId) → CanOpen o → AreCalls calls → IsIn r (replay (opened o) calls).records → r.done ≡ true
    → ((a : Acked) → IsIn a (along (accepted_by r.id) (opened o) calls) → P a.subtask) → IsIn s (subtasks r.shape) → P s
each-from_done P o calls r s opens are has done acks member =
    let law = acknowledgements o calls opens are r has in
    let Of : List SubtaskId → Type 0 = λ ss. IsIn s ss in
    let one = IsIn-from_map (λ (a : Acked). a.subtask) s r.acks (subst Of (sym (law.1 done)) member) in
    let Among : List Acked → Type 0 = λ xs. IsIn one.0 xs in
    let accepted = IsIn-from_in_order acknowledges_before one.0 (along (accepted_by r.id) (opened o) calls) (subst Among law.0 one.1) in
    subst P (sym one.2) (acks one.0 accepted)

-- each subtask of a completed record has cut it
pub has_cut-from_done : (o : Opening) (calls : List Call) (w : Network) (r : Record) (s : SubtaskId) → CanOpen o → AreCalls calls → IsIn r (replay (opened o) calls).records → r.done ≡ true
    → AcknowledgesCuts r.id o calls w → IsIn s (subtasks r.shape) → HasCut r.id (w.task s)
has_cut-from_done o calls w r s = each-from_done (λ t. HasCut r.id (w.task t)) o calls r s

pub consistent : (o : Opening) (calls : List Call) (w : Network) → CanOpen o → AreCalls calls → DoneIsConsistent o calls w
consistent o calls w opens are r has done channels acks =
    (global_cut r.id w (λ c among. let of_it = channels c among in (of_it.1, of_it.2, has_cut-from_done o calls w r c.receiver opens are has done acks of_it.0))).0
