-- Making room leaves the state as it is, and so does what fails; what was taken is the step.
use Rattle.ckpt_core.proofs.{◌+◌, ◌≤◌, sym, subst, length, arith, LiesAt, id_of, Parts, Stays, present_in, on_each_error, made_room, room_made, roomier_accepted, roomier_sound, roomier_stays}
use Rattle.ckpt_core.proofs.{taking_from, waiting_answers}
use Rattle.ckpt_core.proofs.{accepted_ack, state_of}
use Rattle.ckpt_core.proofs.parts.Parts.ack_waiting.Goals as goal

pub make_room_for_files-requires : goal.make_room_for_files-requires
make_room_for_files-requires c =
    let few = (accepted_ack (state_of c.args.self.now) c.args.now c.args.id c.args.subtask c.args.fresh.now c.args.reused.now c.requires.accepted).few in
    omega (arith, few, c.len.ensures)

pub take_ack-requires-clause-sound : goal.take_ack-requires-clause-sound
take_ack-requires-clause-sound c = roomier_sound (made_room c.args.self.now c.make_room_for_files.new.self c.len.result c.in_ok-make_room_for_files.ensures.ok) c.requires.sound

pub take_ack-requires-clause-place : goal.take_ack-requires-clause-place
take_ack-requires-clause-place c = subst (λ (p : Parts). LiesAt id_of c.args.id p.pending c.args.place) (sym c.in_ok-make_room_for_files.ensures.ok) c.requires.place

pub take_ack-requires-clause-accepted : goal.take_ack-requires-clause-accepted
take_ack-requires-clause-accepted c = roomier_accepted _ _ _ _ _ (made_room c.args.self.now c.make_room_for_files.new.self c.len.result c.in_ok-make_room_for_files.ensures.ok) c.requires.accepted

pub returns-in_err-take_ack-clause-err : goal.returns-in_err-take_ack-clause-err
returns-in_err-take_ack-clause-err c =
    on_each_error c.from_residual-in_err-take_ack.result (Stays c.args.self.now c.take_ack.new.self)
    (rw c.in_err-take_ack.ensures.err (roomier_stays (made_room c.args.self.now c.make_room_for_files.new.self c.len.result c.in_ok-make_room_for_files.ensures.ok) c.requires.sound))

pub returns-clause-ok : goal.returns-clause-ok
returns-clause-ok c =
    let roomier = made_room c.args.self.now c.make_room_for_files.new.self c.len.result c.in_ok-make_room_for_files.ensures.ok in
    let room : present_in c.make_room_for_files.new.self.registry + length c.args.fresh.now ≤ c.make_room_for_files.new.self.outbox.spare =
    omega (arith, room_made c.args.self.now c.make_room_for_files.new.self c.len.result c.in_ok-make_room_for_files.ensures.ok, c.len.ensures) in
    waiting_answers c.take_ack.new.self c.args.missing roomier (taking_from _ _ _ _ roomier c.requires.sound c.requires.accepted c.in_ok-take_ack.ensures.pending c.in_ok-take_ack.ensures.in_order
    c.in_ok-take_ack.ensures.stored c.requires.waiting) room c.requires.waiting.counted c.requires.others c.in_ok-take_ack.ensures.ok
