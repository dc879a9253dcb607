-- What the turns of a sink enter into its ledger.
use Rattle.std.specs.Prelude.{◌≡◌, ℕ, Bool, false, map, Option, Some, Result, Err}
use Rattle.ckpt_align.specs.{declared.event.Answer.Answer, declared.event.Refusal.Refusal}
use Rattle.ckpt_ledger.specs.Ledgers.{Acts, Cuts, Held, Writes, after_entries, after_entry, entries}
use Rattle.ckpt_once.specs.Programs.{Program, Turn, acts, on_output}
use Rattle.ckpt_task.specs.{declared.sink_task.SinkFault.SinkFault, declared.turn.Outcome.Outcome, declared.turn.Outcome.TheVariants.Moved, declared.turn.Outcome.TheVariants.Cut}
use Rattle.ckpt_task.specs.declared.sink_task.SinkFault.TheVariants as sink_fault
use Rattle.ckpt_task.specs.Turns.{At, answer_in, refusal_as}

-- the task of a sink, its ledger, its own output, and whether memory ran out in the middle of a turn
pub record SinkAt : Type 0 where
  pub task : At
  pub held : Held
  pub output : ℕ
  pub has_failed : Bool

-- if it says that the aligner refused the turn, the answer was that
abbrev pub IsRefusedAs : SinkFault → Option (Result Answer Refusal) → Type 0
IsRefusedAs why one = (r : Refusal) → why ≡ sink_fault.Refused r → refusal_as one ≡ Some r

-- a sink that has not failed says why the aligner refused the turn
abbrev pub SaysRefusal : SinkAt → Turn → Result Outcome SinkFault → Type 0
SaysRefusal m turn result = (why : Refusal) → m.has_failed ≡ false → refusal_as (answer_in m.task.alignment turn) ≡ Some why → result ≡ Err (sink_fault.Refused why)

-- the ledger after a turn: it is told each write and each cut
abbrev pub after_turn : Program → SinkAt → Turn → Held
after_turn p m turn = after_entries m.held (entries m.output m.task.alignment (map Acts (acts p m.task.state m.task.alignment turn)))

-- and after an outcome of the code
abbrev pub after_outcome : ℕ → Held → Outcome → Held
after_outcome o h (Moved ones) = after_entries h (map Writes (on_output o ones.items))
after_outcome o h (Cut n) = after_entry h (Cuts n)
after_outcome o h other = h
