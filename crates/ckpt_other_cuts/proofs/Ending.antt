-- Tasks that have ended have their part of a record, too.
use Rattle.ckpt_other_cuts.proofs.Names.{common_steps, arith, ◌≡◌, ℕ, ◌<◌, true, List, ◌++◌, ◌∙◌, sym, ap, inl, inr, append_assoc, Call, SubtaskId, IsIn, Record, subtasks, Alignment, Item}
use Rattle.ckpt_other_cuts.proofs.Names.{Action, before, before_cut, elements, processed, replay, sent, taken, Channel, IsConnected, IsInOrder, Network, Task, processed_before, sent_before}
use Rattle.ckpt_other_cuts.proofs.Names.{AreCalls, CanOpen, Opening, each-from_done, before_begins, taken-append, AcknowledgesParts, DoneIsConsistent, FinishedCut, HasFinished, HasItsPart}
use Rattle.ckpt_other_cuts.proofs.Stopping.{ends}
use Rattle.ckpt_align.specs.Alignment.{opened}
use Rattle.ckpt_model.specs.State as model
use Rattle.ckpt_model.specs.Histories as history

-- what a task that has ended processed is all that its input carries
finished_before : (n j inputs : ℕ) (actions : List Action) (rest : List Item) → HasFinished n (record { inputs = inputs; actions = actions }) → j < inputs
    → processed j (opened inputs) (before_cut n (opened inputs) actions) ≡ before n (taken j (opened inputs) actions ++ rest)
finished_before n j inputs actions rest finished within =
    let a : Alignment = opened inputs in
    let part : List Action = before_cut n a actions in
    let k = before_begins n a actions in
    let later : List Item = taken j (replay a part) k.0 in
    sym (
    ap (λ l. before n (taken j a l ++ rest)) k.1
    ∙ ap (λ l. before n (l ++ rest)) (taken-append j a part k.0)
    ∙ ap (before n) (append_assoc (taken j a part) later rest)
    ∙ ends n (taken j a part) (later ++ rest) (finished j within)
    )

part_before : (n j : ℕ) (t : Task) (rest : List Item) → HasItsPart n t → j < t.inputs → processed j (opened t.inputs) (before_cut n (opened t.inputs) t.actions) ≡ before n (taken j (opened t.inputs) t.actions ++ rest)
part_before n j t rest (inl cut) within = processed_before n j t.inputs t.actions rest within cut
part_before n j t rest (inr finished) within = finished_before n j t.inputs t.actions rest finished within

channel : (n : ℕ) (w : Network) (c : Channel) → IsConnected w c → IsInOrder w c → HasItsPart n (w.task c.receiver)
    → processed c.input (opened (w.task c.receiver).inputs) (before_cut n (opened (w.task c.receiver).inputs) (w.task c.receiver).actions)
    ≡ elements (sent c.output (opened (w.task c.sender).inputs) (before_cut n (opened (w.task c.sender).inputs) (w.task c.sender).actions))
channel n w c connected in_order part =
    let from : Task = w.task c.sender in
    part_before n c.input (w.task c.receiver) in_order.0 part connected
    ∙ ap (before n) (sym in_order.1)
    ∙ sym (sent_before n c.output (opened from.inputs) from.actions)

pub finished_cut : (n : ℕ) (w : Network) → FinishedCut n w
finished_cut n w all c has = let its = all c has in channel n w c its.0 its.1 its.2

-- each subtask of a completed record was acknowledged for
acknowledged : (o : Opening) (calls : List Call) (w : Network) (r : Record) (s : SubtaskId) → CanOpen o → AreCalls calls → IsIn r (history.replay (model.opened o) calls).records → r.done ≡ true
    → AcknowledgesParts r.id o calls w → IsIn s (subtasks r.shape) → HasItsPart r.id (w.task s)
acknowledged o calls w r s = each-from_done (λ t. HasItsPart r.id (w.task t)) o calls r s

pub done_is_consistent : (o : Opening) (calls : List Call) (w : Network) → CanOpen o → AreCalls calls → DoneIsConsistent o calls w
done_is_consistent o calls w opens are r has done channels acks c among = grind (arith, common_steps, acknowledged, channel)
