-- What a task worker does.
use Rattle.std.specs.Prelude.{◌≡◌, Bool, true, false, not, ◌||◌, List, count_by, All, Option, Some, None}
use Rattle.ckpt_ids.specs.declared.reply.Reply.TheVariants.{AckPending, AckCompleted, AckLate}
use Rattle.ckpt_ids.specs.declared.reply.Answer.{Answer}
use Rattle.ckpt_ids.specs.declared.reply.Answer.TheVariants.{Done}
use Rattle.ckpt_locked.specs.Locks.{Hand}
use Rattle.ckpt_workers.specs.declared.task.Tally.{Tally}
use Rattle.ckpt_workers.specs.Orders.{IsOrder}
use Rattle.ckpt_workers.specs.Shifts.{Exchange, IsShift, calls_in, capped}

abbrev pub is_taken_in : Answer → Bool
is_taken_in (Done (AckPending missing)) = true
is_taken_in (Done (AckCompleted dropped released)) = true
is_taken_in answer = false

abbrev pub is_late : Answer → Bool
is_late (Done (AckLate handed)) = true
is_late answer = false

-- neither pending, completed nor late
abbrev pub is_other : Answer → Bool
is_other answer = not (is_taken_in answer || is_late answer)

-- whether there is an answer of this kind
abbrev pub answers : (Answer → Bool) → Option Answer → Bool
answers kind None = false
answers kind (Some answer) = kind answer

-- Only orders were called, and the answers are counted by their kinds.
pub record IsTasked (old new : Hand) (tally : Tally) : Type 0 where
  pub told : List Exchange
  pub shift : IsShift old told new
  pub orders : All IsOrder (calls_in told)
  pub accepted : tally.accepted ≡ capped (count_by (λ t. is_taken_in t.answer) told)
  pub late : tally.late ≡ capped (count_by (λ t. is_late t.answer) told)
  pub refused : tally.refused ≡ capped (count_by (λ t. is_other t.answer) told)
