-- What an image has of a fenced state: everything but the order in which files were fetched, which no call returns.
use Rattle.std.specs.Prelude.{◌≡◌, List, [], ◌∷◌, ◌++◌}
use Rattle.ckpt_model.specs.Images.{CanHold, settled, state_in}
use Rattle.ckpt_terms.specs.{declared.call.FencedCall.FencedCall, declared.call.FencedAnswer.FencedAnswer, declared.image.TermsImage.TermsImage, declared.machine.Machine.Machine}
use Rattle.ckpt_terms.specs.{FencedLaws.IsFenced, Spans.AreRanges, Spans.names_of}
use Rattle.ckpt_terms.specs.declared.machine.Machine.TheVariants as machine
use Rattle.ckpt_terms.specs.Fencing.{Fenced, FencedStepped, fenced_step, fenced_replay}

-- the answers to a list of calls
abbrev pub fenced_answers : Fenced → List FencedCall → List FencedAnswer
fenced_answers m [] = []
fenced_answers m (call ∷ calls) = let s : FencedStepped = fenced_step m call in s.1 ∷ fenced_answers s.0 calls

-- the state with the fetched files in ascending order
abbrev pub fenced_settled : Fenced → Fenced
fenced_settled m = record { core = settled m.core; term = m.term; next_name = m.next_name; unspent = m.unspent }

-- the two differ in that order alone
abbrev pub AreFencedAlike : Fenced → Fenced → Type 0
AreFencedAlike m n = fenced_settled m ≡ fenced_settled n

-- the same of a coordinator with names or without
abbrev pub machine_settled : Machine → Machine
machine_settled (machine.Plain m) = machine.Plain (settled m)
machine_settled (machine.Fenced m) = machine.Fenced (fenced_settled m)

-- both answer these calls in the same way, and are alike after them
pub record FencedGoesOnAs (m n : Fenced) (calls : List FencedCall) : Type 0 where
  pub answers : fenced_answers m calls ≡ fenced_answers n calls
  pub state : AreFencedAlike (fenced_replay m calls) (fenced_replay n calls)

-- A state that an image may have: the coordinator's is one that its image may have, and the layer is sound.
pub record CanHoldFenced (m : Fenced) : Type 0 where
  pub core : CanHold m.core
  pub fenced : IsFenced m

-- the state of an image
abbrev pub fenced_in : TermsImage → Fenced
fenced_in i = record { core = state_in i.core; term = i.term; next_name = i.next_name; unspent = names_of i.unspent.items }

-- An image that a coordinator can be made from: its ranges are in ascending order and none is empty, and its state is one
-- that an image may have.
pub record CanOpenFenced (i : TermsImage) : Type 0 where
  pub ranges : AreRanges i.unspent.items
  pub state : CanHoldFenced (fenced_in i)

-- The image after the first calls of a log, and the calls after it, give what the whole log gives: the same answers, and a
-- state that is alike.
pub record IsFencedCut (m : Fenced) (before after : List FencedCall) : Type 0 where
  pub answers : fenced_answers m (before ++ after) ≡ fenced_answers m before ++ fenced_answers (fenced_settled (fenced_replay m before)) after
  pub state : AreFencedAlike (fenced_replay m (before ++ after)) (fenced_replay (fenced_settled (fenced_replay m before)) after)
