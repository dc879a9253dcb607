-- The numbers that are noted are those of the oldest checkpoints, and no other record has one of them.
use Rattle.ckpt_core.proofs.{◌++◌, List, length, ap, ◌∙◌, arith, length-map, Parts, Record, numbers, groups_of, none_known, room_to_note}
use Rattle.ckpt_core.specs.Inside.Settings.{oldest}
use Rattle.ckpt_core.proofs.Ending.Counts.{few_done}
use Rattle.ckpt_core.proofs.Ending.Past.{old_number, new_number, past_counted, past_dropped}
use Rattle.ckpt_core.proofs.parts.Parts.drop_past.Goals as goal

pub note_and_pop_past-requires : goal.note_and_pop_past-requires
note_and_pop_past-requires c = omega (arith, room_to_note c.args.self.now (length c.args.self.now.store.checkpoints) c.requires.sound (omega arith))

pub hand_out-requires-clause-unknown : goal.hand_out-requires-clause-unknown
hand_out-requires-clause-unknown c = rw c.note_and_pop_past.ensures.parts (none_known c.args.self.now c.requires.sound.tied c.requires.sound.sound)

pub overflow_cast-dropped : goal.overflow_cast-dropped
overflow_cast-dropped c =
    let p = c.args.self.now in
    let old : List Record = oldest c.args.retained p.store.checkpoints in
    let noted = c.note_and_pop_past.ensures.noted ∙ ap (λ ids. ids ++ numbers old) c.requires.sound.none_ended in
    omega (arith, few_done p c.requires.sound c.recall_groups.ensures.stored, ap length noted, length-map old (λ (r : Record). r.id), old_number c.args.retained p.store.checkpoints)

pub returns : goal.returns
returns c =
    let p = c.args.self.now in
    let n = c.args.retained in
    let groups = groups_of p c.recall_groups.ensures.pending c.recall_groups.ensures.stored in
    let old : List Record = oldest n p.store.checkpoints in
    let noted = c.note_and_pop_past.ensures.noted ∙ ap (λ ids. ids ++ numbers old) c.requires.sound.none_ended in
    let left = ap (λ (w : Parts). length w.store.checkpoints) c.hand_out.ensures.parts ∙ ap (λ (w : Parts). length w.store.checkpoints) c.note_and_pop_past.ensures.parts in
    record {
      drops = past_dropped p n c.requires.sound.sound groups c.recall_groups.ensures.stored c.note_and_pop_past.new.self c.hand_out.new.self c.hand_out.result c.requires.sound.tied
          c.note_and_pop_past.ensures.parts noted c.hand_out.ensures.parts c.hand_out.ensures.cleared (c.hand_out.ensures.capacity ∙ c.note_and_pop_past.ensures.capacity) c.hand_out.ensures.count;
      dropped = omega (arith, past_counted p n c.requires.sound.sound groups c.recall_groups.ensures.stored, ap length noted, length-map old (λ (r : Record). r.id), old_number n p.store.checkpoints);
      few = omega (arith, left, new_number n p.store.checkpoints);
    }
