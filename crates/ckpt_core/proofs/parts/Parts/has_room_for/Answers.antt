-- Answers the goals of `Parts::has_room_for`.
use Rattle.ckpt_core.proofs.{rules, ◌+◌, ◌<◌, not, eqb, sym, ap, ◌∙◌, arith, both_ways, ltb-true, ltb-false, and_from, Record, Parts, record_in, opening_of, records_in, is_checkpoint, is_pending}
use Rattle.ckpt_core.proofs.{is_checkpoint-kind, is_savepoint-kind, groups_of, done_checkpoints-groups, room_done, room_pending, room_savepoint, pending_checkpoints-groups, savepoints-groups}
use Rattle.ckpt_core.proofs.parts.Parts.has_room_for.Goals as goal

pub overflow_add-savepoints : goal.overflow_add-savepoints
overflow_add-savepoints c =
    let counted = savepoints-groups c.args.self.now.registry _ _ _ (groups_of c.args.self.now c.recall_groups.ensures.pending c.savepoints-2.ensures.stored) in
    let small : c.savepoints.result + c.savepoints-2.result < 18446744073709551616 = omega (arith, counted, c.requires.savepoints_to, c.savepoints.ensures, c.savepoints-2.ensures.value) in
    search rules

pub returns-in-Savepoint-clause-yes : goal.returns-in-Savepoint-clause-yes
returns-in-Savepoint-clause-yes c = λ yes.
    let p : Parts = c.args.self.now in
    let r : Record = record_in c.args.saved.now in
    let counted = savepoints-groups p.registry _ _ _ (groups_of p c.recall_groups.ensures.pending c.savepoints-2.ensures.stored) in
    let few = ltb-true (c.savepoints.result + c.savepoints-2.result) 1000 yes in
    room_savepoint (opening_of p.opened) (records_in p) r (is_savepoint-kind r c.in-Savepoint.is) (omega (arith, counted, few, c.savepoints.ensures, c.savepoints-2.ensures.value))

pub returns-in-Savepoint-clause-no : goal.returns-in-Savepoint-clause-no
returns-in-Savepoint-clause-no c = λ no room.
    let r : Record = record_in c.args.saved.now in
    let counted = savepoints-groups c.args.self.now.registry _ _ _ (groups_of c.args.self.now c.recall_groups.ensures.pending c.savepoints-2.ensures.stored) in
    let many = ltb-false (c.savepoints.result + c.savepoints-2.result) 1000 no in
    omega (arith, counted, many, c.savepoints.ensures, c.savepoints-2.ensures.value, room.savepoints (ap not (is_savepoint-kind r c.in-Savepoint.is)))

pub returns-then-pending-eq0-clause-yes : goal.returns-then-pending-eq0-clause-yes
returns-then-pending-eq0-clause-yes c = λ yes.
    let r : Record = record_in c.args.saved.now in
    let groups = groups_of c.args.self.now c.recall_groups.ensures.pending c.savepoints-2.ensures.stored in
    let waits = pending_checkpoints-groups c.args.self.now.registry _ _ _ groups in
    let stands = done_checkpoints-groups c.args.self.now.registry _ _ _ groups in
    let few = ltb-true c.checkpoints-checkpoints.result c.retained.result yes in
    room_done (opening_of c.args.self.now.opened) (records_in c.args.self.now) r (is_checkpoint-kind r c.in-Checkpoint.is) c.if-saved.true
    (omega (arith, waits, c.if-pending-eq0.true, c.checkpoints-pending.ensures))
    (omega (arith, stands, few, c.checkpoints-checkpoints.ensures.value, c.retained.ensures.value))

pub returns-then-pending-eq0-clause-no : goal.returns-then-pending-eq0-clause-no
returns-then-pending-eq0-clause-no c = λ no room.
    let r : Record = record_in c.args.saved.now in
    let stands = done_checkpoints-groups c.args.self.now.registry _ _ _ (groups_of c.args.self.now c.recall_groups.ensures.pending c.savepoints-2.ensures.stored) in
    let many = ltb-false c.checkpoints-checkpoints.result c.retained.result no in
    let kept = room.retained (and_from r.done (is_checkpoint r) c.if-saved.true (is_checkpoint-kind r c.in-Checkpoint.is)) in
    omega (arith, stands, many, c.checkpoints-checkpoints.ensures.value, c.retained.ensures.value, kept)

pub returns-else-pending-eq0-clause-no : goal.returns-else-pending-eq0-clause-no
returns-else-pending-eq0-clause-no c = λ no room.
    let r : Record = record_in c.args.saved.now in
    let waits = pending_checkpoints-groups c.args.self.now.registry _ _ _ (groups_of c.args.self.now c.recall_groups.ensures.pending c.savepoints-2.ensures.stored) in
    let none = room.newer (and_from r.done (is_checkpoint r) c.if-saved.true (is_checkpoint-kind r c.in-Checkpoint.is)) in
    both_ways (eqb c.checkpoints-pending.result 0) no (ap (λ n. eqb n 0) (c.checkpoints-pending.ensures ∙ sym waits ∙ none))

pub returns-else-saved-clause-yes : goal.returns-else-saved-clause-yes
returns-else-saved-clause-yes c = λ yes.
    let p : Parts = c.args.self.now in
    let r : Record = record_in c.args.saved.now in
    let groups = groups_of p c.recall_groups.ensures.pending c.savepoints-2.ensures.stored in
    let waits = pending_checkpoints-groups p.registry _ _ _ groups in
    let few = ltb-true c.checkpoints-pending.result c.limit_of.result yes in
    room_pending (opening_of p.opened) (records_in p) r (is_checkpoint-kind r c.in-Checkpoint.is) c.if-saved.false (omega (arith, waits, few, c.checkpoints-pending.ensures, c.limit_of.ensures))

pub returns-else-saved-clause-no : goal.returns-else-saved-clause-no
returns-else-saved-clause-no c = λ no room.
    let r : Record = record_in c.args.saved.now in
    let waits = pending_checkpoints-groups c.args.self.now.registry _ _ _ (groups_of c.args.self.now c.recall_groups.ensures.pending c.savepoints-2.ensures.stored) in
    let many = ltb-false c.checkpoints-pending.result c.limit_of.result no in
    let most = room.at_once (and_from (is_pending r) (is_checkpoint r) (ap not c.if-saved.false) (is_checkpoint-kind r c.in-Checkpoint.is)) in
    omega (arith, waits, many, c.checkpoints-pending.ensures, c.limit_of.ensures, most)
