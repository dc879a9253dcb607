-- Lists to which the members of one list were dealt out in turn.
use Rattle.std.specs.Prelude.{◌≡◌, ℕ, ◌+◌, ◌-◌, ◌/◌, ◌<◌, List, [], length, slice_index_or}
use Rattle.ckpt_ids.specs.declared.reply.Answer.{Answer}
use Rattle.ckpt_workers.specs.declared.team.Made.{Made}
use Rattle.ckpt_workers.specs.Teams.{IsTally, dealt_to}

-- list k has, in order, the members at the places that go to seat k
abbrev pub IsDeal : {A : Type 0} → List (List A) → List A → Type 0
IsDeal hands xs = (k : ℕ) → k < length hands → slice_index_or hands k [] ≡ dealt_to (length hands) k xs

-- how many of the places below `count` go to the seat
abbrev pub turns_of : ℕ → ℕ → ℕ → ℕ
turns_of threads seat count = (count + (threads - 1 - seat)) / threads

-- list k has as many members as places below `count` go to seat k
abbrev pub IsDealOf : {A : Type 0} → List (List A) → ℕ → Type 0
IsDealOf hands count = (k : ℕ) → k < length hands → length (slice_index_or hands k []) ≡ turns_of (length hands) k count

-- this many answers were dealt out, and counted in the order of the deal
pub record IsTallied (hands : List (List Answer)) (count : ℕ) (made : Made) : Type 0 where
  pub answers : List Answer
  pub as_many : length answers ≡ count
  pub dealt : IsDeal hands answers
  pub tally : IsTally made answers
