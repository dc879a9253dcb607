-- Calls that a worker makes with a pass, one after the other.
use Rattle.std.specs.Prelude.{◌≡◌, ℕ, ◌-◌, ◌^◌, min, List, [], ◌∷◌, ◌++◌, map, Option, Some, None}
use Rattle.ckpt_ids.specs.declared.call.Call.{Call}
use Rattle.ckpt_ids.specs.declared.reply.Answer.{Answer}
use Rattle.ckpt_locked.specs.Locks.{Hand, Made}

-- a call and its answer
pub record Exchange : Type 0 where
  pub call : Call
  pub answer : Answer

abbrev pub calls_in : List Exchange → List Call
calls_in told = map (λ t. t.call) told

abbrev pub answers_in : List Exchange → List Answer
answers_in told = map (λ t. t.answer) told

-- each call was made with the pass that the call before left
abbrev pub MadeAll : Hand → List Exchange → Hand → Type 0
MadeAll old [] new = new ≡ old
MadeAll old (t ∷ rest) new = (next : Hand) × Made old t.call next t.answer × MadeAll next rest new

-- these calls were made, with these answers, and they are the pass's new own calls
pub record IsShift (old : Hand) (told : List Exchange) (new : Hand) : Type 0 where
  pub same : (new.lock ≡ old.lock) × (new.seat ≡ old.seat)
  pub own : new.own ≡ old.own ++ calls_in told
  pub made : MadeAll old told new

-- Calls were made with the pass, one after the other, and nothing else was done with it: it has its seat, and its own
-- calls are those of before and then these.
pub record CallsOn (old new : Hand) : Type 0 where
  pub told : List Exchange
  pub shift : IsShift old told new

-- a call was made, or ran out of memory and left the pass as it was
abbrev pub IsAsked : Hand → Call → Hand → Option Answer → Type 0
IsAsked old call new None = new ≡ old
IsAsked old call new (Some answer) = Made old call new answer

-- a count of 64 bits, which stays at its greatest value
abbrev pub capped : ℕ → ℕ
capped n = min n (2 ^ 64 - 1)
