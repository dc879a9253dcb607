-- The numbers that are noted are those of the pending records, and no done record has one of them.
use Rattle.ckpt_core.proofs.{◌++◌, length, ap, ◌∙◌, arith, is_noted, numbers, groups_of, none_known, noted_tied, done_not_noted, room_to_note, pending_dropped, Names.state_of}
use Rattle.ckpt_core.proofs.parts.Parts.drop_all_pending.Goals as goal

pub note_all-requires : goal.note_all-requires
note_all-requires c = record { room = omega (arith, room_to_note c.args.self.now (length c.args.self.now.pending) c.requires (omega arith)) }

pub drop_noted-requires-clause-tied : goal.drop_noted-requires-clause-tied
drop_noted-requires-clause-tied c = noted_tied c.args.self.now c.note_all.new.ended c.requires.tied c.note_all.ensures.capacity

pub drop_noted-requires-clause-in_order : goal.drop_noted-requires-clause-in_order
unfolding state_of
drop_noted-requires-clause-in_order c = c.requires.sound.records.in_order

pub drop_noted-requires-clause-unknown : goal.drop_noted-requires-clause-unknown
drop_noted-requires-clause-unknown c = none_known c.args.self.now c.requires.tied c.requires.sound

pub drop_noted-requires-clause-pending_only : goal.drop_noted-requires-clause-pending_only
drop_noted-requires-clause-pending_only c = λ r h.
    ap (λ ids. is_noted ids r) (c.note_all.ensures.items ∙ ap (λ ids. ids ++ numbers c.args.self.now.pending) c.requires.none_ended) ∙ done_not_noted c.args.self.now c.requires.sound r h

pub returns : goal.returns
returns c =
    pending_dropped c.args.self.now c.drop_noted.new.self c.note_all.new.ended c.drop_noted.result c.requires.sound (groups_of c.args.self.now c.recall_groups.ensures.pending
    c.recall_groups.ensures.stored) (c.note_all.ensures.items ∙ ap (λ ids. ids ++ numbers c.args.self.now.pending) c.requires.none_ended) c.drop_noted.ensures
