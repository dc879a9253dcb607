-- All numbers but those of the savepoints are noted, and each of these records is gone.
use Rattle.ckpt_core.proofs.{◌+◌, ◌++◌, length, ap, ◌∙◌, arith, length-map, Record, numbers, staying, groups_of, none_known, room_to_note, down_to_savepoints, others_dropped}
use Rattle.std.proofs.Common.{length-append}
use Rattle.ckpt_core.proofs.parts.Parts.drop_all_but_savepoints.Goals as goal

pub note_all-requires : goal.note_all-requires
note_all-requires c = record { room = omega (arith, room_to_note c.args.self.now (length c.args.self.now.pending) c.requires (omega arith)) }

pub note_and_pop_checkpoints-requires : goal.note_and_pop_checkpoints-requires
note_and_pop_checkpoints-requires c =
    let p = c.args.self.now in
    let room = room_to_note p (length p.pending + length p.store.checkpoints) c.requires (omega arith) in
    let noted = length-append p.ended.items (numbers p.pending) in
    record { room = omega (arith, room, ap length c.note_all.ensures.items, noted, length-map p.pending (λ (r : Record). r.id), c.note_all.ensures.capacity) }

pub hand_out-requires-clause-unknown : goal.hand_out-requires-clause-unknown
hand_out-requires-clause-unknown c = rw c.note_and_pop_checkpoints.ensures.parts (none_known c.args.self.now c.requires.tied c.requires.sound)

pub returns : goal.returns
returns c =
    let p = c.args.self.now in
    let a = c.note_and_pop_checkpoints.new.self in
    let noted = c.note_all.new.ended.items in
    others_dropped p a c.hand_out.new.self noted c.hand_out.result c.requires.tied c.requires.sound (groups_of p c.recall_groups.ensures.pending c.recall_groups.ensures.stored)
    (c.note_all.ensures.items ∙ ap (λ ids. ids ++ numbers p.pending) c.requires.none_ended) (c.note_and_pop_checkpoints.ensures.parts ∙ ap
    (λ rs. record (down_to_savepoints p noted a.store.spare a.ended) { pending = rs }) (c.remove_all.ensures ∙ ap (λ ids. staying ids p.pending) c.deref.ensures.value))
    c.note_and_pop_checkpoints.ensures.noted c.hand_out.ensures.parts c.hand_out.ensures.cleared (c.hand_out.ensures.capacity ∙ c.note_and_pop_checkpoints.ensures.capacity
    ∙ c.note_all.ensures.capacity) c.hand_out.ensures.count
