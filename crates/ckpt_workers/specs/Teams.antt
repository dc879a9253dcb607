-- What a team does with a list of calls.
use Rattle.std.specs.Prelude.{◌≡◌, ℕ, ◌+◌, ◌%◌, ◌<◌, ◌==◌, if◌then◌else◌, Bool, true, false, not, List, ◌++◌, map, filter, length, count_by}
use Rattle.std.specs.List.{enumerate_from}
use Rattle.std.specs.Option.{option_or}
use Rattle.ckpt_ids.specs.declared.call.Call.{Call}
use Rattle.ckpt_ids.specs.declared.reply.Answer.{Answer}
use Rattle.ckpt_ids.specs.declared.reply.Answer.TheVariants.{Done, Refused}
use Rattle.ckpt_model.specs.Interleavings.{completed_by, first_completed}
use Rattle.ckpt_locked.specs.declared.book.Entry.{Entry}
use Rattle.ckpt_locked.specs.Books.{History, answer_to, entered}
use Rattle.ckpt_locked.specs.Seats.{SeatsBelow, answers_by, calls_by}
use Rattle.ckpt_workers.specs.declared.team.Made.{Made}

-- the members at the places that go to this seat: place i goes to seat i modulo the number of threads
abbrev pub dealt_to : {A : Type 0} → ℕ → ℕ → List A → List A
dealt_to threads seat xs = map (λ p. p.1) (filter (λ p. p.0 % threads == seat) (enumerate_from 0 xs))

abbrev pub is_accepted : Answer → Bool
is_accepted (Done reply) = true
is_accepted (Refused why) = false

-- the counts of these answers
pub record IsTally (made : Made) (answers : List Answer) : Type 0 where
  pub accepted : made.accepted ≡ count_by is_accepted answers
  pub refused : made.refused ≡ count_by (λ a. not (is_accepted a)) answers
  pub completed : made.completed ≡ first_completed answers

-- one more call is entered, and its answer counted
pub record IsOneMore (old : Made) (seat : ℕ) (call : Call) (new : Made) : Type 0 where
  pub book : new.book ≡ entered old.book seat call
  pub accepted : new.accepted ≡ old.accepted + (if is_accepted (answer_to old.book call) then 1 else 0)
  pub refused : new.refused ≡ old.refused + (if is_accepted (answer_to old.book call) then 0 else 1)
  pub completed : new.completed ≡ option_or old.completed (completed_by (answer_to old.book call))

-- The calls of the list are entered, each with its seat, and the answers are counted. The calls of different seats may
-- be in any order.
pub record IsTeamwork (old : History) (calls : List Call) (threads : ℕ) (made : Made) : Type 0 where
  pub new : List Entry
  pub book_is : made.book ≡ record old { entries = old.entries ++ new }
  pub seats : SeatsBelow threads new
  pub calls_are : (seat : ℕ) → seat < threads → calls_by seat new ≡ dealt_to threads seat calls
  -- in the order of the list
  pub answers : List Answer
  pub one_each : length answers ≡ length calls
  pub answers_are : (seat : ℕ) → seat < threads → answers_by seat old new ≡ dealt_to threads seat answers
  pub accepted_is : made.accepted ≡ count_by is_accepted answers
  pub refused_is : made.refused ≡ count_by (λ a. not (is_accepted a)) answers
  pub completed_is : made.completed ≡ first_completed answers
