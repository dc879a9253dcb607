-- The call was accepted, so the acknowledgement can be taken; taken back, nothing has changed.
use Rattle.ckpt_core.proofs.{◌≡◌, ◌∙◌, List, ap, rules, subst, sym, IsInOrder, LiesAt, Record, id_of, find-place, id_before, taken_in, acked, retracted, retracted-acked}
use Rattle.ckpt_core.proofs.Acknowledging.Takes.{CanTake, IsFoundAcked, acked_in_order, can_take, is_found_acked, lies_in_new}
use Rattle.ckpt_core.proofs.parts.Parts.take_ack.Goals as goal

pub joined-requires : goal.joined-requires
joined-requires c = (can_take _ _ _ _ _ _ c.requires.sound c.requires.accepted c.recall.ensures.pending c.recall_store.ensures c.requires.there).few

taken : (c : goal.After-ack-arg-2-1) → CanTake c.args.self.now c.args.now c.args.id c.args.subtask c.args.fresh.now c.args.reused.now
taken c = can_take _ _ _ _ _ _ c.requires.sound c.requires.accepted c.recall.ensures.pending c.recall_store.ensures c.requires.there

pub ack-requires-clause-expected : goal.ack-requires-clause-expected
ack-requires-clause-expected c = λ r e. (taken c).expected r (sym (find-place c.args.id c.args.self.now.pending c.args.place c.recall.ensures.in_order c.requires.place) ∙ e)

pub use_files_metered-requires : goal.use_files_metered-requires
use_files_metered-requires c =
    let t = can_take _ _ _ _ _ _ c.requires.sound c.requires.accepted c.recall.ensures.pending c.recall_store.ensures c.requires.there in
    record { fresh_absent = t.fresh_absent; reused_present = t.reused_present; each_once = t.each_once; below = t.below; unused = t.unused }

acked_there : (c : goal.After-retract-arg-1) → IsFoundAcked c.args.id c.args.subtask c.ack.new.self
acked_there c = is_found_acked c.args.id c.args.subtask c.in_ok-files.files c.args.self.now.pending c.ack.new.self c.requires.there (c.in_ok-ack.ensures.ok c.args.id c.requires.place)

lies_still : (c : goal.After-retract-arg-1) → LiesAt id_of c.args.id c.ack.new.self c.args.place
lies_still c = lies_in_new c.args.id c.args.subtask c.in_ok-files.files c.args.self.now.pending c.ack.new.self c.args.place c.requires.place (c.in_ok-ack.ensures.ok c.args.id c.requires.place)

pub retract-requires-clause-there : goal.retract-requires-clause-there
retract-requires-clause-there c = (lies_still c).0

pub retract-requires-clause-acknowledged : goal.retract-requires-clause-acknowledged
retract-requires-clause-acknowledged c =
    λ r e.
    let order : IsInOrder id_before c.ack.new.self =
    subst (λ (rs : List Record). IsInOrder id_before rs) (sym (c.in_ok-ack.ensures.ok c.args.id c.requires.place)) (acked_in_order c.args.id c.args.subtask c.in_ok-files.files c.args.self.now.pending
    c.recall.ensures.in_order) in
    (acked_there c).acknowledged r (sym (find-place c.args.id c.ack.new.self c.args.place order (lies_still c)) ∙ e)

pub returns-in-Err-clause-err : goal.returns-in-Err-clause-err
returns-in-Err-clause-err c =
    let p = c.args.self.now in
    let t = can_take _ _ _ _ _ _ c.requires.sound c.requires.accepted c.recall.ensures.pending c.recall_store.ensures c.requires.there in
    let acked_is = c.in_ok-ack.ensures.ok c.args.id c.requires.place in
    let back : c.retract.new.self ≡ p.pending = c.retract.ensures c.args.id (lies_in_new c.args.id c.args.subtask c.in_ok-files.files p.pending c.ack.new.self c.args.place c.requires.place acked_is)
    ∙ ap (retracted c.args.id c.args.subtask) acked_is ∙ retracted-acked c.args.id c.args.subtask c.in_ok-files.files p.pending c.recall.ensures.in_order (λ q h. (t.expected q h).1) in
    ap (λ ps. record p { pending = ps; registry = c.use_files_metered.new.self }) back ∙ ap (λ us. record p { registry = us }) c.in-Err.ensures.err

pub see-requires : goal.see-requires
see-requires c = (can_take _ _ _ _ _ _ c.requires.sound c.requires.accepted c.recall.ensures.pending c.recall_store.ensures c.requires.there).moment

pub returns-clause-ok : goal.returns-clause-ok
returns-clause-ok c =
    let taken : c.ack.new.self ≡ (taken_in c.args.self.now c.args.now c.args.id c.args.subtask c.args.fresh.now c.args.reused.now).pending =
    c.in_ok-ack.ensures.ok c.args.id c.requires.place ∙ ap (λ fs. acked c.args.id c.args.subtask fs c.args.self.now.pending) c.in_ok-files.ensures.files in
    rw (taken) (search rules)
