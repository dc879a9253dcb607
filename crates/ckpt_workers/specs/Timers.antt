-- What a timer worker does.
use Rattle.std.specs.Prelude.{◌≡◌, ℕ, Bool, false, not, List, [], ◌∷◌, ◌++◌, map, count_by, Option, Some, None, is_some}
use Rattle.std.specs.List.{flat_map}
use Rattle.ckpt_ids.specs.declared.call.Call.TheVariants.{Tick}
use Rattle.ckpt_ids.specs.declared.reply.Answer.{Answer}
use Rattle.ckpt_locked.specs.Locks.{Hand}
use Rattle.ckpt_workers.specs.declared.timer.TimerTally.{TimerTally}
use Rattle.ckpt_workers.specs.Shifts.{Exchange, IsShift, capped}
use Rattle.ckpt_workers.specs.Teams.{is_accepted}

-- a moment, and the answer to its tick: none if the tick ran out of memory
pub record Beat : Type 0 where
  pub moment : ℕ
  pub answer : Option Answer

abbrev pub tick_told : ℕ → Option Answer → List Exchange
tick_told moment None = []
tick_told moment (Some answer) = record { call = Tick moment; answer = answer } ∷ []

-- the ticks that were answered, in order
abbrev pub ticks_told : List Beat → List Exchange
ticks_told beats = flat_map (λ b. tick_told b.moment b.answer) beats

abbrev pub is_refused : Option Answer → Bool
is_refused None = false
is_refused (Some answer) = not (is_accepted answer)

-- There was a tick at each moment that was given since, in order, except for ticks that ran out of memory.
pub record IsTimed (given_before given_after : List ℕ) (old new : Hand) (tally : TimerTally) : Type 0 where
  pub beats : List Beat
  pub given : given_after ≡ given_before ++ map (λ b. b.moment) beats
  pub shift : IsShift old (ticks_told beats) new
  pub ticks : tally.ticks ≡ capped (count_by (λ b. is_some b.answer) beats)
  pub refused : tally.refused ≡ capped (count_by (λ b. is_refused b.answer) beats)
  pub unanswered : tally.unanswered ≡ capped (count_by (λ b. not (is_some b.answer)) beats)
