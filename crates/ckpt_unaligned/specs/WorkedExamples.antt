-- Worked examples: a recorder's answers to lists of actions, and the parts of a record, computed by the definitions. The expected values
-- were written by hand, from the rules.
use Rattle.std.specs.Prelude.{ℕ, if◌then◌else◌, ◌==◌, ◌≡◌, List, [], ◌∷◌, refl, Result, Ok, Err}
use Rattle.ckpt_ids.specs.declared.subtask.SubtaskId.{SubtaskId}
use Rattle.ckpt_align.specs.declared.event.Refusal.{Refusal}
use Rattle.ckpt_align.specs.declared.event.Refusal.TheVariants.{UnknownInput, HeldInput, EndedInput}
use Rattle.ckpt_align.specs.Histories.{Element, Barrier, End}
use Rattle.ckpt_align.specs.Laws.{Channel}
use Rattle.ckpt_unaligned.specs.declared.answer.Answer.{Answer}
use Rattle.ckpt_unaligned.specs.declared.answer.Answer.TheVariants.{Process, Record, Hold, Nothing, Wait, Late, Cut, Snap, Complete, Abandon}
use Rattle.ckpt_unaligned.specs.Histories.{Action, Reads, Overtakes, GivesUp, Sends, after, answer_to, part_of}
use Rattle.ckpt_unaligned.specs.Laws.{HasPart, IsInOrder, Network, sent_before}
use Rattle.ckpt_unaligned.specs.Recording.{Recorder, opened}
use Rattle.ckpt_unaligned.specs.Steps.{barrier, give_up, overtake, settled, step}

abbrev answers : Recorder → List Action → List (Result Answer Refusal)
answers r [] = []
answers r (action ∷ actions) = answer_to r action ∷ answers (after r action) actions

-- At once: the snapshot is taken when the first barrier is seen. Elements before the others are recorded, and those behind are not.
abbrev at_once : List Action
at_once =
    Reads 0 (Element 11) ∷ Overtakes 7 ∷ Reads 0 (Element 12) ∷ Reads 0 (Barrier 7) ∷ Reads 0 (Element 13) ∷ Reads 1 (Element 21) ∷ []

pub overtakes_at_once : answers (opened 2) at_once ≡ (Ok Process ∷ Ok (Snap 7) ∷ Ok Record ∷ Ok Wait ∷ Ok Process ∷ Ok Record ∷ [])
unfolding step overtake barrier settled
overtakes_at_once = refl

pub is_whole_at_last : answers (opened 2) (Overtakes 7 ∷ Reads 0 (Barrier 7) ∷ Reads 1 (Barrier 7) ∷ Reads 0 (Element 14) ∷ Overtakes 7 ∷ [])
    ≡ (Ok (Snap 7) ∷ Ok Wait ∷ Ok (Complete 7) ∷ Ok Process ∷ Ok Late ∷ [])
unfolding step overtake barrier settled
is_whole_at_last = refl

pub first_part : part_of 0 2 at_once (Reads 1 (Barrier 7)) ≡ 11 ∷ 12 ∷ []
unfolding step overtake barrier settled
first_part = refl

pub second_part : part_of 1 2 at_once (Reads 1 (Barrier 7)) ≡ 21 ∷ []
unfolding step overtake barrier settled
second_part = refl

-- After a timeout: the record is aligned first, and what was held goes on once it has overtaken.
pub after_a_timeout : answers (opened 2) (
    Reads 0 (Barrier 7) ∷ Reads 0 (Element 12) ∷ Overtakes 7 ∷ Reads 0 (Element 12) ∷ Reads 1 (Element 21) ∷ Reads 1 (Barrier 7) ∷ []
    ) ≡ (Ok Wait ∷ Ok Hold ∷ Ok (Snap 7) ∷ Ok Process ∷ Ok Record ∷ Ok (Complete 7) ∷ [])
unfolding step overtake barrier settled
after_a_timeout = refl

-- Nobody overtakes: it is an aligner.
pub aligned : answers (opened 2) (
    Reads 0 (Barrier 7) ∷ Reads 0 (Element 12) ∷ Reads 1 (Element 21) ∷ Reads 1 (Barrier 7) ∷ Reads 0 (Element 12) ∷ Reads 1 (Barrier 7) ∷ []
    ) ≡ (Ok Wait ∷ Ok Hold ∷ Ok Process ∷ Ok (Cut 7) ∷ Ok Process ∷ Ok Late ∷ [])
unfolding step barrier settled
aligned = refl

-- A later record comes while one is open. On an input that has delivered, its barrier waits; on another one it ends the earlier record,
-- and is asked again.
pub replaced : answers (opened 2) (
    Overtakes 7 ∷ Reads 0 (Barrier 7) ∷ Reads 0 (Barrier 8) ∷ Overtakes 8 ∷ Reads 1 (Barrier 8) ∷ Reads 1 (Barrier 8) ∷ Reads 0 (Barrier 8) ∷ []
    ) ≡ (Ok (Snap 7) ∷ Ok Wait ∷ Err HeldInput ∷ Ok Nothing ∷ Ok (Abandon 7) ∷ Ok Wait ∷ Ok (Cut 8) ∷ [])
unfolding step overtake barrier settled
replaced = refl

-- A record is given up while it is recorded; an input that ends counts as one that has delivered.
pub given_up : answers (opened 3) (
    Overtakes 7 ∷ GivesUp 7 ∷ Reads 0 (Barrier 7) ∷ Overtakes 8 ∷ Reads 0 End ∷ Reads 1 End ∷ Reads 2 (Barrier 8) ∷ Reads 0 (Element 1) ∷ GivesUp 8 ∷ []
    ) ≡ (Ok (Snap 7) ∷ Ok (Abandon 7) ∷ Ok Late ∷ Ok (Snap 8) ∷ Ok Wait ∷ Ok Wait ∷ Ok (Complete 8) ∷ Err EndedInput ∷ Ok Nothing ∷ [])
unfolding step overtake barrier settled give_up
given_up = refl

pub refused : answers (opened 1) (Reads 1 (Barrier 7) ∷ Reads 1 End ∷ Reads 1 (Element 1) ∷ Reads 0 End ∷ Overtakes 7 ∷ Reads 0 (Barrier 7) ∷ [])
    ≡ (Err UnknownInput ∷ Err UnknownInput ∷ Err UnknownInput ∷ Ok Nothing ∷ Ok Nothing ∷ Err EndedInput ∷ [])
unfolding step overtake barrier settled
refused = refl

-- A source and a task that reads it, after a restart at which the channel had element 10 to give again: the premises of `global_part`
-- hold for record 7, and element 12 is in the channel's part.
abbrev source : List Action
source = Sends 0 11 ∷ Sends 0 12 ∷ Reads 0 (Barrier 7) ∷ Sends 0 13 ∷ []

abbrev reader : List Action
reader = Reads 0 (Element 10) ∷ Reads 0 (Element 11) ∷ Overtakes 7 ∷ Reads 0 (Element 12) ∷ Reads 0 (Barrier 7) ∷ []

abbrev subtask : ℕ → SubtaskId
subtask vertex = record { vertex = vertex; index = 0 }

abbrev pub channel : Channel
channel = record { sender = subtask 0; output = 0; receiver = subtask 1; input = 0 }

abbrev pub network : Network
network = record {
  task = λ s. if s.vertex == 0 then record { inputs = 1; actions = source } else record { inputs = 1; actions = reader };
  channels = channel ∷ [];
  first = λ c. 10 ∷ [];
}

pub network_in_order : IsInOrder network channel
unfolding step overtake barrier settled
network_in_order = (Element 13 ∷ [], refl)

pub network_has_part : HasPart 7 (network.task channel.receiver)
unfolding step overtake barrier settled
network_has_part = record {
  earlier = Reads 0 (Element 10) ∷ Reads 0 (Element 11) ∷ Overtakes 7 ∷ Reads 0 (Element 12) ∷ [];
  action = Reads 0 (Barrier 7);
  later = [];
  are_its = refl;
  is_whole = refl;
}

pub network_sent : sent_before 7 network channel ≡ 11 ∷ 12 ∷ []
unfolding step overtake barrier settled
network_sent = refl

pub network_part : part_of 0 1 (Reads 0 (Element 10) ∷ Reads 0 (Element 11) ∷ Overtakes 7 ∷ Reads 0 (Element 12) ∷ []) (Reads 0 (Barrier 7)) ≡ 10 ∷ 11 ∷ 12 ∷ []
unfolding step overtake barrier settled
network_part = refl
