-- Worked examples: an aligner's answers to lists of events, and the cuts of small networks, computed by the definitions.
-- The expected values were written by hand, from the rules.
use Rattle.std.specs.Prelude.{ℕ, if◌then◌else◌, ◌==◌, ◌≡◌, List, [], ◌∷◌, refl, true, Result, Ok, Err}
use Rattle.ckpt_ids.specs.declared.subtask.SubtaskId.{SubtaskId}
use Rattle.ckpt_align.specs.declared.event.Event.{Event}
use Rattle.ckpt_align.specs.declared.event.Event.TheVariants as event
use Rattle.ckpt_align.specs.declared.event.Answer.{Answer}
use Rattle.ckpt_align.specs.declared.event.Answer.TheVariants.{Process, Hold, Nothing, Wait, Late, Cut, Abandon}
use Rattle.ckpt_align.specs.declared.event.Refusal.{Refusal}
use Rattle.ckpt_align.specs.declared.event.Refusal.TheVariants.{UnknownInput, HeldInput, EndedInput}
use Rattle.ckpt_align.specs.Alignment.{Alignment, opened}
use Rattle.ckpt_align.specs.Histories.{Element, Barrier, Action, Reads, Sends, taken, sent, processed, before_cut, has_cut, elements}
use Rattle.ckpt_align.specs.Laws.{Channel, HasCut, IsInOrder, Network}
use Rattle.ckpt_align.specs.Steps.{step, settled, barrier, give_up}

abbrev answers : Alignment → List Event → List (Result Answer Refusal)
answers a [] = []
answers a (event ∷ events) = (step a event).1 ∷ answers (step a event).0 events

-- Two inputs: the one that delivered the barrier is held until the other delivers it, too.
pub two_inputs : answers (opened 2) (
    event.Element 0 ∷ event.Barrier 0 7 ∷ event.Element 0 ∷ event.Element 1 ∷ event.Barrier 1 7 ∷ event.Element 0 ∷ event.Barrier 1 7 ∷ []
    ) ≡ (Ok Process ∷ Ok Wait ∷ Ok Hold ∷ Ok Process ∷ Ok (Cut 7) ∷ Ok Process ∷ Ok Late ∷ [])
unfolding step barrier settled
two_inputs = refl

-- One input: its barrier is the cut.
pub one_input : answers (opened 1) (event.Barrier 0 1 ∷ event.Barrier 0 3 ∷ event.Barrier 0 2 ∷ []) ≡ (Ok (Cut 1) ∷ Ok (Cut 3) ∷ Ok Late ∷ [])
unfolding step barrier settled
one_input = refl

-- A later record takes the place of one that is not complete, and the input held for that one is released.
pub replaced : answers (opened 2) (
    event.Barrier 0 7 ∷ event.Barrier 1 8 ∷ event.Element 0 ∷ event.Element 1 ∷ event.Barrier 0 8 ∷ event.Barrier 1 7 ∷ []
    ) ≡ (Ok Wait ∷ Ok (Abandon 7) ∷ Ok Process ∷ Ok Hold ∷ Ok (Cut 8) ∷ Ok Late ∷ [])
unfolding step barrier settled
replaced = refl

-- An input that ends counts as one that has delivered.
pub ended : answers (opened 3) (
    event.End 0 ∷ event.Barrier 1 7 ∷ event.End 2 ∷ event.Element 1 ∷ event.Element 2 ∷ event.End 1 ∷ event.End 1 ∷ []
    ) ≡ (Ok Nothing ∷ Ok Wait ∷ Ok (Cut 7) ∷ Ok Process ∷ Err EndedInput ∷ Ok Nothing ∷ Err EndedInput ∷ [])
unfolding step barrier settled
ended = refl

-- A record is given up while it is being aligned. Of one that is not, nothing is kept.
pub given_up : answers (opened 2) (
    event.GiveUp 7 ∷ event.Barrier 0 7 ∷ event.GiveUp 8 ∷ event.GiveUp 7 ∷ event.Element 0 ∷ event.Barrier 1 7 ∷ event.GiveUp 7 ∷ []
    ) ≡ (Ok Nothing ∷ Ok Wait ∷ Ok Nothing ∷ Ok (Abandon 7) ∷ Ok Process ∷ Ok Late ∷ Ok Nothing ∷ [])
unfolding step barrier settled give_up
given_up = refl

-- What an engine must not ask.
pub refused : answers (opened 2) (
    event.Element 2 ∷ event.Barrier 2 7 ∷ event.End 2 ∷ event.Barrier 0 7 ∷ event.Barrier 0 8 ∷ event.End 0 ∷ event.Barrier 1 7 ∷ event.End 0 ∷ []
    ) ≡ (
    Err UnknownInput ∷ Err UnknownInput ∷ Err UnknownInput ∷ Ok Wait ∷ Err HeldInput ∷ Err HeldInput ∷ Ok (Cut 7) ∷ Ok Nothing ∷ []
    )
unfolding step barrier settled
refused = refl

-- A source and a task that reads it. The source has one input: the coordinator's orders, which are barriers.
abbrev source : List Action
source = Sends 0 11 ∷ Sends 0 12 ∷ Reads 0 (Barrier 7) ∷ Sends 0 13 ∷ []

-- In order: the task takes the barrier after what was sent before it. Element 13 is on the way.
abbrev in_order : List Action
in_order = Reads 0 (Element 11) ∷ Reads 0 (Element 12) ∷ Reads 0 (Barrier 7) ∷ []

pub source_sends : sent 0 (opened 1) source ≡ (Element 11 ∷ Element 12 ∷ Barrier 7 ∷ Element 13 ∷ [])
unfolding step barrier settled
source_sends = refl

pub source_part : elements (sent 0 (opened 1) (before_cut 7 (opened 1) source)) ≡ 11 ∷ 12 ∷ []
unfolding step barrier settled
source_part = refl

pub in_order_part : processed 0 (opened 1) (before_cut 7 (opened 1) in_order) ≡ 11 ∷ 12 ∷ []
unfolding step barrier settled
in_order_part = refl

-- The two as a network: the premises of `global_cut` hold for record 7.
abbrev subtask : ℕ → SubtaskId
subtask vertex = record { vertex = vertex; index = 0 }

abbrev channel : Channel
channel = record { sender = subtask 0; output = 0; receiver = subtask 1; input = 0 }

abbrev network : List Action → Network
network receiver = record {
  task = λ s. if s.vertex == 0 then record { inputs = 1; actions = source } else record { inputs = 1; actions = receiver };
  channels = channel ∷ [];
}

pub network_in_order : IsInOrder (network in_order) channel
unfolding step barrier settled
network_in_order = (Element 13 ∷ [], refl)

pub network_has_cut : HasCut 7 ((network in_order).task channel.receiver)
unfolding step barrier settled
network_has_cut = refl

-- The barrier comes past the channel, as from an engine that sends it to each task at once: the task's part lacks
-- element 12, and the source's part has sent it. A restart from these parts would lose it.
abbrev at_once : List Action
at_once = Reads 0 (Element 11) ∷ Reads 0 (Barrier 7) ∷ Reads 0 (Element 12) ∷ []

pub at_once_part : processed 0 (opened 1) (before_cut 7 (opened 1) at_once) ≡ 11 ∷ []
unfolding step barrier settled
at_once_part = refl

-- Two sources and a task that joins them: the source that is ahead waits at the join.
abbrev joined : List Action
joined = Reads 0 (Element 11) ∷ Reads 0 (Barrier 7) ∷ Reads 0 (Element 13) ∷ Reads 1 (Element 21) ∷ Reads 1 (Barrier 7) ∷ Reads 0 (Element 13) ∷ []

pub joined_takes : taken 0 (opened 2) joined ≡ (Element 11 ∷ Barrier 7 ∷ Element 13 ∷ [])
unfolding step barrier settled
joined_takes = refl

pub joined_first : processed 0 (opened 2) (before_cut 7 (opened 2) joined) ≡ 11 ∷ []
unfolding step barrier settled
joined_first = refl

pub joined_second : processed 1 (opened 2) (before_cut 7 (opened 2) joined) ≡ 21 ∷ []
unfolding step barrier settled
joined_second = refl

pub joined_has_cut : has_cut 7 (opened 2) joined ≡ true
unfolding step barrier settled
joined_has_cut = refl
