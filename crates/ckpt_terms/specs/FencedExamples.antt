-- Worked examples: the answers of a fenced coordinator, computed by the definitions. The expected answers were written by
-- hand, from the rules.
use Rattle.std.specs.Prelude.{◌≡◌, ℕ, ◌^◌, ◌+◌, ◌-◌, List, refl, map, true, false, [], ◌∷◌, None}
use Rattle.ckpt_ids.specs.declared.call.Target.TheVariants as target
use Rattle.ckpt_ids.specs.declared.reply.Choice.TheVariants as choice
use Rattle.ckpt_ids.specs.declared.call.Call.TheVariants.{Tick, Ack, Decline, Restore, Cancel, Take}
use Rattle.ckpt_ids.specs.declared.reply.TickEnd.TheVariants as end
use Rattle.ckpt_ids.specs.declared.reply.Refusal.TheVariants as refusal
use Rattle.ckpt_ids.specs.declared.reply.Reply.TheVariants as reply
use Rattle.ckpt_ids.specs.{declared.reply.Answer.TheVariants.Done, declared.reply.Answer.TheVariants.Refused, declared.subtask.SubtaskId.SubtaskId}
use Rattle.ckpt_model.specs.Steps.{step_computes}
use Rattle.ckpt_terms.specs.{declared.call.FencedCall.FencedCall, declared.call.FencedAnswer.FencedAnswer}
use Rattle.ckpt_terms.specs.declared.call.FencedCall.TheVariants.{Reserve, Forfeit, Make, Advance}
use Rattle.ckpt_terms.specs.declared.call.FencedRefusal.TheVariants.{OldTerm, Ended, BadCount, NamesUsedUp, TermsUsedUp, BadName, Spent, NeverReserved}
use Rattle.ckpt_terms.specs.declared.call.FencedAnswer.TheVariants.{Reserved, Forfeited, Made, Fenced}
use Rattle.ckpt_terms.specs.Fencing as fencing

-- a checkpoint each second, of which one is kept; the names begin at this one
abbrev layer : ℕ → fencing.Fenced
layer first_name =
    fencing.fenced (record {
      config = record { interval = 1000; pause = 0; at_once = 1; timeout = 600000; tolerable = 0; retained = 1; keep_on_cancel = false };
      shape = 1 ∷ [];
      start = 0;
      first = 1;
    }) first_name

abbrev subtask : SubtaskId
subtask = record { vertex = 0; index = 0 }

abbrev answers : fencing.Fenced → List FencedCall → List FencedAnswer
answers m [] = []
answers m (call ∷ calls) = (fencing.fenced_step m call).1 ∷ answers (fencing.fenced_step m call).0 calls

-- A task reserves three names, acknowledges with two, and the acknowledgement comes a second time. The job is restored. The
-- old task's late acknowledgement, with the third name, is fenced, and file 7 is garbage from the restore on. The new task
-- reserves from 8 on.
abbrev zombie : List FencedCall
zombie =
    Reserve 1 3 ∷ Make 0 (Tick 1000) ∷ Make 1 (Ack 1000 1 subtask (5 ∷ 6 ∷ []) []) ∷ Make 1 (Ack 1000 1 subtask (5 ∷ 6 ∷ []) [])
    ∷ Make 0 (Tick 2000) ∷ Make 0 (Restore 2100 target.Latest None) ∷ Make 1 (Ack 2200 2 subtask (7 ∷ []) []) ∷ Reserve 1 1 ∷ Reserve 2 1
    ∷ Make 2 (Ack 2300 2 subtask (7 ∷ []) []) ∷ Make 2 (Ack 2300 2 subtask (8 ∷ []) []) ∷ Make 0 (Take 9) ∷ []

pub a_zombie_is_fenced : answers (layer 5) zombie ≡ (
    Reserved 5 ∷ Made 1 (Done (reply.Ticked 0 (end.Triggered 1))) ∷ Made 1 (Done (reply.AckCompleted 0 0)) ∷ Fenced (Spent 5)
    ∷ Made 1 (Done (reply.Ticked 0 (end.Triggered 2))) ∷ Made 2 (Done (reply.Restored (choice.Checkpoint 1) 0)) ∷ Fenced OldTerm ∷ Fenced OldTerm ∷ Reserved 8
    ∷ Fenced (Spent 7) ∷ Made 2 (Done (reply.AckLate 1)) ∷ Made 2 (Done (reply.Taken (8 ∷ []))) ∷ []
    )
unfolding fencing.fenced_step step_computes
a_zombie_is_fenced = refl

-- Names 4 to 9 after it: 4 is below the first, and counts as given out before; 5 and 6 are in use, 8 was fetched, and 9
-- was not given out. So 4 and 7 are garbage.
pub garbage_is_four_and_seven : map (fencing.is_garbage (fencing.fenced_replay (layer 5) zombie)) (4 ∷ 5 ∷ 6 ∷ 7 ∷ 8 ∷ 9 ∷ []) ≡ true ∷ false ∷ false ∷ true ∷ false ∷ false ∷ []
unfolding fencing.fenced_step step_computes
garbage_is_four_and_seven = refl

-- and these may be deleted
pub deletable_are : map (fencing.may_be_deleted (fencing.fenced_replay (layer 5) zombie)) (4 ∷ 5 ∷ 6 ∷ 7 ∷ 8 ∷ 9 ∷ []) ≡ true ∷ false ∷ false ∷ true ∷ true ∷ false ∷ []
unfolding fencing.fenced_step step_computes
deletable_are = refl

-- The first fresh file that is not held decides. 7 was never given out, 4 was before the first, and 5 is spent by an
-- acknowledgement that then comes a second time. Of a refused one nothing is spent.
pub spent_or_never_reserved : answers (layer 5) (
    Reserve 1 2 ∷ Make 0 (Tick 1000) ∷ Make 1 (Ack 1000 1 subtask (5 ∷ 7 ∷ []) []) ∷ Make 1 (Ack 1000 1 subtask (4 ∷ 7 ∷ []) [])
    ∷ Make 1 (Ack 1000 1 subtask (5 ∷ []) []) ∷ Make 1 (Ack 1000 1 subtask (5 ∷ []) []) ∷ Make 1 (Ack 1000 1 subtask (7 ∷ []) []) ∷ []
    ) ≡ (
    Reserved 5 ∷ Made 1 (Done (reply.Ticked 0 (end.Triggered 1))) ∷ Fenced (NeverReserved 7) ∷ Fenced (Spent 4)
    ∷ Made 1 (Done (reply.AckCompleted 0 0)) ∷ Fenced (Spent 5) ∷ Fenced (NeverReserved 7) ∷ []
    )
unfolding fencing.fenced_step step_computes
spent_or_never_reserved = refl

-- the rows of the layer's table; a name that is given up can't be acknowledged
pub rows : answers (layer (2 ^ 62 - 1)) (
    Reserve 1 0 ∷ Reserve 1 65537 ∷ Reserve 1 2 ∷ Reserve 1 1 ∷ Reserve 1 1 ∷ Make 0 (Tick 1000)
    ∷ Forfeit 1 ((2 ^ 62 - 1) ∷ 7 ∷ []) ∷ Make 1 (Ack 1000 1 subtask ((2 ^ 62 - 1) ∷ []) []) ∷ Make 0 (Decline 1000 1 subtask)
    ∷ Make 0 (Cancel 2000) ∷ Reserve 1 1 ∷ Reserve 2 1 ∷ Make 0 (Cancel 2000) ∷ []
    ) ≡ (
    Fenced BadCount ∷ Fenced BadCount ∷ Fenced NamesUsedUp ∷ Reserved (2 ^ 62 - 1) ∷ Fenced NamesUsedUp ∷ Made 1 (Done (reply.Ticked 0 (end.Triggered 1)))
    ∷ Forfeited ∷ Fenced (Spent (2 ^ 62 - 1)) ∷ Fenced OldTerm
    ∷ Made 2 (Done (reply.Cancelled 1 0)) ∷ Fenced OldTerm ∷ Fenced Ended ∷ Made 2 (Refused refusal.NotRunning) ∷ []
    )
unfolding fencing.fenced_step step_computes
rows = refl

-- A job goes on from an older image, in term 1 with the next name 8 and the name 7 held. Tasks were told terms up to 9 since then, and
-- names up to 19 were given out. An advance that is given less raises the term by 1, and leaves the next name.
abbrev older : List FencedCall
older = Reserve 1 3 ∷ Make 0 (Tick 1000) ∷ Make 1 (Ack 1000 1 subtask (5 ∷ 6 ∷ []) []) ∷ []

abbrev from_older : fencing.Fenced
from_older = fencing.fenced_replay (layer 5) older

pub goes_on_above : answers from_older (
    Advance 1500 9 20 ∷ Reserve 9 1 ∷ Reserve 10 2 ∷ Make 1 (Ack 1600 2 subtask (7 ∷ []) []) ∷ Make 10 (Ack 1600 2 subtask (19 ∷ []) [])
    ∷ Advance 1600 3 7 ∷ Reserve 11 1 ∷ Make 0 (Cancel 2000) ∷ Advance 2100 50 50 ∷ []
    ) ≡ (
    Made 10 (Done (reply.Restored (choice.Checkpoint 1) 0)) ∷ Fenced OldTerm ∷ Reserved 20 ∷ Fenced OldTerm ∷ Fenced (Spent 19)
    ∷ Made 11 (Done (reply.Restored (choice.Checkpoint 1) 0)) ∷ Reserved 22 ∷ Made 12 (Done (reply.Cancelled 1 2)) ∷ Made 12 (Refused refusal.NotRunning) ∷ []
    )
unfolding fencing.fenced_step step_computes
goes_on_above = refl

-- The names that were passed over are spent, and so is the one that was held: 4 is below the first, 5 and 6 are in use, and 20 was not
-- given out yet.
pub passed_over_are_garbage : map (fencing.is_garbage (fencing.fenced_replay from_older (Advance 1500 9 20 ∷ []))) (4 ∷ 5 ∷ 6 ∷ 7 ∷ 8 ∷ 19 ∷ 20 ∷ [])
    ≡ true ∷ false ∷ false ∷ true ∷ true ∷ true ∷ false ∷ []
unfolding fencing.fenced_step step_computes
passed_over_are_garbage = refl

-- its refusals, in their order, and the last term and name that it can reach
pub advance_rows : answers from_older (
    Advance 1500 (2 ^ 62) 0 ∷ Advance 1500 9 (2 ^ 62 + 1) ∷ Advance 1500 (2 ^ 62) 20 ∷ Reserve 1 1
    ∷ Advance 1500 (2 ^ 62 - 1) (2 ^ 62) ∷ Reserve (2 ^ 62) 1 ∷ Advance 1600 1 1 ∷ []
    ) ≡ (
    Fenced BadName ∷ Fenced BadName ∷ Fenced TermsUsedUp ∷ Reserved 8
    ∷ Made (2 ^ 62) (Done (reply.Restored (choice.Checkpoint 1) 0)) ∷ Fenced NamesUsedUp ∷ Fenced TermsUsedUp ∷ []
    )
unfolding fencing.fenced_step step_computes
advance_rows = refl
