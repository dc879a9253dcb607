-- The parts after each call are those of the lemmas.
use Rattle.ckpt_core.proofs.parts.Parts.ack_last.Goals.{After-finish-arg-1, After-kind}
use Rattle.ckpt_core.proofs.{id_before, AckCompleted, Parts, Stays, Completing.Answers.checkpoint_answers, Completing.Answers.savepoint_answers}
use Rattle.ckpt_core.proofs.{last_above, last_made, last_new, lies_taken, ◌≡◌, ◌∙◌, ap, sym, subst, same_Some, find, slice_get, IsInOrder, LiesAt, missing, has_id, id_of, find-place, IsMissing}
use Rattle.ckpt_core.proofs.{made_place, none_missing, order_taken, on_each_error, IsRoomier, roomier_accepted, roomier_sound, roomier_stays, taking_from, IsLast, CanComplete, can_complete}
use Rattle.ckpt_core.proofs.{accepted_ack, state_of, arith}
use Rattle.ckpt_core.proofs.parts.Parts.ack_last.Goals as goal

pub make_room_for_files-requires : goal.make_room_for_files-requires
make_room_for_files-requires c =
    let few = (accepted_ack (state_of c.args.self.now) c.args.now c.args.id c.args.subtask c.args.fresh.now c.args.reused.now c.requires.accepted).few in
    omega (arith, few, c.len.ensures)

pub returns-in_err-reserve_metered-clause-err : goal.returns-in_err-reserve_metered-clause-err
returns-in_err-reserve_metered-clause-err c =
    on_each_error c.from_residual-in_err-reserve_metered.result (Stays c.args.self.now (record c.make_room_for_files.new.self { store = c.reserve_metered.new.self }))
    (roomier_stays (made_place c.args.self.now c.make_room_for_files.new.self c.len.result c.reserve_metered.new.self c.in_ok-make_room_for_files.ensures.ok c.in_err-reserve_metered.ensures.kept) c.requires.sound)

-- room was made
roomier_first : (c : goal.After-take_ack-arg-2-1) → IsRoomier c.args.self.now (record c.make_room_for_files.new.self { store = c.reserve_metered.new.self })
roomier_first c = made_place c.args.self.now c.make_room_for_files.new.self c.len.result c.reserve_metered.new.self c.in_ok-make_room_for_files.ensures.ok c.in_ok-reserve_metered.ensures.kept

pub take_ack-requires-clause-sound : goal.take_ack-requires-clause-sound
take_ack-requires-clause-sound c = roomier_sound (roomier_first c) c.requires.sound

pub take_ack-requires-clause-place : goal.take_ack-requires-clause-place
take_ack-requires-clause-place c = subst (λ (p : Parts). LiesAt id_of c.args.id p.pending c.args.place) (sym c.in_ok-make_room_for_files.ensures.ok) c.requires.place

pub take_ack-requires-clause-accepted : goal.take_ack-requires-clause-accepted
take_ack-requires-clause-accepted c = roomier_accepted _ _ _ _ _ (roomier_first c) c.requires.accepted

pub returns-in_err-take_ack-clause-err : goal.returns-in_err-take_ack-clause-err
returns-in_err-take_ack-clause-err c =
    on_each_error c.from_residual-in_err-take_ack.result (Stays c.args.self.now c.take_ack.new.self)
    (rw c.in_err-take_ack.ensures.err (roomier_stays (made_place c.args.self.now c.make_room_for_files.new.self c.len.result c.reserve_metered.new.self c.in_ok-make_room_for_files.ensures.ok
    c.in_ok-reserve_metered.ensures.kept) c.requires.sound))

-- and is there once the acknowledgement is taken
roomier : (c : goal.After-finish-arg-1) → IsRoomier c.args.self.now (record c.make_room_for_files.new.self { store = c.reserve_metered.new.self })
roomier c = made_place c.args.self.now c.make_room_for_files.new.self c.len.result c.reserve_metered.new.self c.in_ok-make_room_for_files.ensures.ok c.in_ok-reserve_metered.ensures.kept

-- the record lies where it lay
lies : (c : goal.After-finish-arg-1) → LiesAt id_of c.args.id c.take_ack.new.self.pending c.args.place
lies c =
    let lay : LiesAt id_of c.args.id c.make_room_for_files.new.self.pending c.args.place = subst (λ (p : Parts). LiesAt id_of c.args.id p.pending c.args.place)
    (sym c.in_ok-make_room_for_files.ensures.ok) c.requires.place in
    lies_taken (record c.make_room_for_files.new.self { store = c.reserve_metered.new.self }) c.take_ack.new.self c.args.now c.args.subtask c.args.fresh.now c.args.reused.now lay c.in_ok-take_ack.ensures.ok

-- and is the one of its number
found : (c : goal.After-finish-arg-1) → slice_get c.take_ack.new.self.pending c.args.place ≡ find (has_id c.args.id) c.take_ack.new.self.pending
found c =
    let order : IsInOrder id_before c.take_ack.new.self.pending = order_taken c.args.id (record c.make_room_for_files.new.self { store = c.reserve_metered.new.self }) c.take_ack.new.self c.args.now
    c.args.subtask c.args.fresh.now c.args.reused.now c.in_ok-take_ack.ensures.in_order c.in_ok-take_ack.ensures.ok in
    find-place c.args.id c.take_ack.new.self.pending c.args.place order (lies c)

pub finish-done-requires-clause-there : goal.finish-done-requires-clause-there
finish-done-requires-clause-there c = (lies (goal.at.finish-done-requires-clause-there c).After-finish-arg-1).0

pub finish-done-requires-clause-full : goal.finish-done-requires-clause-full
finish-done-requires-clause-full c = λ r e.
    let at = (goal.at.finish-done-requires-clause-full c).After-finish-arg-1 in
    let none : IsMissing c.take_ack.new.self.pending c.args.id 0 =
    none_missing c.take_ack.new.self
    (taking_from _ _ _ _ (roomier at) c.requires.sound c.requires.accepted
    c.in_ok-take_ack.ensures.pending c.in_ok-take_ack.ensures.in_order c.in_ok-take_ack.ensures.stored c.requires.last)
    c.requires.last.counted c.in_ok-take_ack.ensures.ok in
    ap missing (sym (same_Some none.lacking r (sym none.found ∙ sym (found at) ∙ e))) ∙ none.counted

-- the record is complete once its last acknowledgement is taken and it is taken out
last : (c : After-kind) → LiesAt id_of c.args.id c.take_ack.new.self.pending c.args.place → slice_get c.take_ack.new.self.pending c.args.place ≡ find (has_id c.args.id) c.take_ack.new.self.pending →
    IsLast (record c.make_room_for_files.new.self { store = c.reserve_metered.new.self }) c.finish-done.new.self c.args.now c.args.id c.args.subtask c.args.fresh.now c.args.reused.now c.requires.last.lacking
    c.finish-done.result
last c lies found =
    last_made c.args.self.now c.make_room_for_files.new.self c.take_ack.new.self c.finish-done.new.self c.finish-done.result c.args.now c.args.subtask c.args.fresh.now c.args.reused.now c.len.result
    c.reserve_metered.new.self c.requires.sound c.requires.accepted c.requires.last c.len.ensures c.in_ok-make_room_for_files.ensures.ok c.in_ok-reserve_metered.ensures.kept c.in_ok-reserve_metered.ensures.ok
    c.in_ok-take_ack.ensures.pending c.in_ok-take_ack.ensures.in_order c.in_ok-take_ack.ensures.stored c.in_ok-take_ack.ensures.ok (λ x e. c.finish-done.ensures.value x (found ∙ e))
    (c.finish-done.ensures.rest c.args.id lies)

pub complete_checkpoint-dropped-requires : goal.complete_checkpoint-dropped-requires
complete_checkpoint-dropped-requires c =
    let at = goal.at.complete_checkpoint-dropped-requires c in
    let l = last at.After-kind (lies at.After-finish-arg-1) (found at.After-finish-arg-1) in
    let can : CanComplete c.finish-done.new.self = can_complete l in
    record {
      room = can.room;
      checkpoint = sym c.in-Checkpoint.ensures;
      above = last_above l (sym c.in-Checkpoint.ensures);
      unknown = can.unknown;
      spare = can.spare;
      none_ended = can.none_ended;
      places = can.places;
      few = can.few;
    }

pub complete_savepoint-released-requires : goal.complete_savepoint-released-requires
complete_savepoint-released-requires c =
    let at = goal.at.complete_savepoint-released-requires c in
    let l = last at.After-kind (lies at.After-finish-arg-1) (found at.After-finish-arg-1) in
    let can : CanComplete c.finish-done.new.self = can_complete l in
    record {
      room = can.room;
      savepoint = sym c.in-Savepoint.ensures;
      new = last_new l;
      few = can.few_savepoints;
      unknown = can.unknown;
      spare = can.spare;
      none_ended = can.none_ended;
    }

pub returns-in-Checkpoint-clause-ok : goal.returns-in-Checkpoint-clause-ok
returns-in-Checkpoint-clause-ok c =
    let at = goal.at.returns-in-Checkpoint-clause-ok c in
    let l = last at.After-kind (lies at.After-finish-arg-1) (found at.After-finish-arg-1) in
    let done = c.complete_checkpoint-dropped.ensures in
    checkpoint_answers c.complete_checkpoint-dropped.new.self (AckCompleted c.complete_checkpoint-dropped.result.0 c.complete_checkpoint-dropped.result.1) (roomier at.After-finish-arg-1) l
    (sym c.in-Checkpoint.ensures) done.parts done.none_ended done.capacity done.reply

pub returns-in-Savepoint-clause-ok : goal.returns-in-Savepoint-clause-ok
returns-in-Savepoint-clause-ok c =
    let at = goal.at.returns-in-Savepoint-clause-ok c in
    let l = last at.After-kind (lies at.After-finish-arg-1) (found at.After-finish-arg-1) in
    savepoint_answers c.complete_savepoint-released.new.self (AckCompleted 0 c.complete_savepoint-released.result) (roomier at.After-finish-arg-1) l (sym c.in-Savepoint.ensures)
    c.complete_savepoint-released.ensures.parts c.complete_savepoint-released.ensures.none_ended c.complete_savepoint-released.ensures.capacity c.complete_savepoint-released.ensures.reply
