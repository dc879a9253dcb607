-- All calls through one lock stand in one sequence.
use Rattle.std.specs.Prelude.{◌≡◌, List, map}
use Rattle.ckpt_ids.specs.Ordered.{IsIn}
use Rattle.ckpt_locked.specs.Books.{History}
use Rattle.ckpt_locked.specs.Locks.{GivenBack, Hand, Lock, later_in, newcomer}
use Rattle.ckpt_locked.specs.Seats.{SeatsBelow, answers_by, calls_by}
use Rattle.ckpt_locked.specs.Turns.{kept}
use Rattle.ckpt_workers.specs.Shifts.{Exchange, MadeAll, answers_in, calls_in}

-- a pass as it is given back, and the calls that were made with it, with their answers
pub record Run : Type 0 where
  pub pass : Hand
  pub told : List Exchange

-- the calls were made with the first pass of its seat, one after the other
abbrev pub IsRun : Lock → Run → Type 0
IsRun lock r = MadeAll (newcomer lock r.pass.seat) r.told r.pass

-- Sequential consistency. The entries since the lock was made are one sequence of calls of its seats. In it the calls of each
-- pass stand in their order, and each was answered as the step at its place.
pub record IsSequential (lock : Lock) (book : History) (runs : List Run) : Type 0 where
  pub goes_on : book ≡ kept lock.base (later_in lock book)
  pub seats : SeatsBelow lock.base.seats (later_in lock book)
  pub calls : (r : Run) → IsIn r runs → calls_by r.pass.seat (later_in lock book) ≡ calls_in r.told
  pub answers : (r : Run) → IsIn r runs → answers_by r.pass.seat lock.base.book (later_in lock book) ≡ answers_in r.told

-- of the book that a lock gives back with its passes
abbrev pub AreInOneSequence : Lock → History → List Run → Type 0
AreInOneSequence lock book runs =
    ((r : Run) → IsIn r runs → IsRun lock r)
    → GivenBack lock book (map (λ r. r.pass) runs)
    → IsSequential lock book runs
