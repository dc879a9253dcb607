-- What every book promises.
use Rattle.std.specs.Prelude.{◌≡◌, ℕ, true, List, ◌∷◌, ◌++◌}
use Rattle.ckpt_ids.specs.declared.ack.Acked.{Acked}
use Rattle.ckpt_ids.specs.declared.call.Call.{Call}
use Rattle.ckpt_ids.specs.declared.subtask.SubtaskId.{SubtaskId}
use Rattle.ckpt_ids.specs.Counting.{one_if}
use Rattle.ckpt_ids.specs.Ordered.{IsIn}
use Rattle.ckpt_ids.specs.Records.{Record, IsFull}
use Rattle.ckpt_ids.specs.Shapes.{is_subtask}
use Rattle.ckpt_model.specs.State.{State, opened}
use Rattle.ckpt_model.specs.Laws.{along, accepted_by, times_of, Pinned, Savepoints, UsedNoMore}
use Rattle.ckpt_locked.specs.Books.{History, calls_of, state_of_book}

-- each done record has exactly one acknowledgement of each subtask, and no other
abbrev pub AreDoneFull : State → Type 0
AreDoneFull m = (r : Record) → IsIn r m.records → r.done ≡ true → IsFull r

-- the acknowledgements of a number that were accepted, in the order of the calls
abbrev pub accepted_in : History → ℕ → List Acked
accepted_in h id = along (accepted_by id) (opened h.opening) (calls_of h.entries)

-- for a done record exactly one acknowledgement per subtask of its shape was accepted, and none from any other; they
-- are the record's. Source: Carbone et al. 2015: a snapshot is complete when each task has taken its part, once.
abbrev pub ExactlyOne : History → Type 0
ExactlyOne h =
    (r : Record) → IsIn r (state_of_book h).records → r.done ≡ true
    → ((s : SubtaskId) → times_of s (accepted_in h r.id) ≡ one_if (is_subtask r.shape s)) × ((a : Acked) → IsIn a (accepted_in h r.id) → IsIn a r.acks)

-- What holds between any moment of the book, after the calls `before`, and now. First: no live record uses a file that
-- was handed out by then, neither then nor now.
abbrev pub AreHandedForGood : History → Type 0
AreHandedForGood h = (before calls : List Call) → calls_of h.entries ≡ before ++ calls → UsedNoMore h.opening before calls

-- a savepoint that was done by then is still there, unless it was disposed of since
abbrev pub SavepointsStay : History → Type 0
SavepointsStay h = (before calls : List Call) → calls_of h.entries ≡ before ++ calls → Savepoints h.opening before calls

-- an acknowledgement for a record that `call` triggered is not refused FileGone for a file that the job would have been
-- restored from then
abbrev pub PinsHold : History → Type 0
PinsHold h = (before : List Call) (call : Call) (calls : List Call) → calls_of h.entries ≡ before ++ call ∷ calls → Pinned h.opening before call calls
