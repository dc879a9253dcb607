-- Shares of calls, each made by a thread of its own.
use Rattle.std.specs.Prelude.{◌≡◌, ℕ, ◌<◌, List, length, slice_index_or, Result, IfOk}
use Rattle.ckpt_workers.specs.declared.shares.Share.{Share}
use Rattle.ckpt_workers.specs.declared.shares.Report.{Report}
use Rattle.ckpt_locked.specs.Locks.{Hand}
use Rattle.ckpt_workers.specs.Shifts.{CallsOn, Exchange, IsShift, answers_in, calls_in}

-- the calls of the share were made in order with its pass, and these are their answers
pub record IsWorked (share : Share) (report : Report) : Type 0 where
  pub told : List Exchange
  pub shift : IsShift share.pass told report.pass
  pub calls_are : calls_in told ≡ share.calls.items
  pub answers_are : answers_in told ≡ report.answers.items

-- report i is that of share i
abbrev pub AreWorked : List Share → List Report → Type 0
AreWorked shares reports = (i : ℕ) (s : Share) (r : Report) → i < length shares → IsWorked (slice_index_or shares i s) (slice_index_or reports i r)

-- the result of share i, if it is a report, is that of share i
abbrev pub AreTried : {E : Type 0} → List Share → List (Result Report E) → Type 0
AreTried {E} shares outcomes =
    (i : ℕ) (s : Share) (o : Result Report E) → i < length shares → IfOk (slice_index_or outcomes i o) (IsWorked (slice_index_or shares i s))

-- the pass of result i is pass i, and more calls may have been made with it
abbrev pub AreUsed : {T : Type 0} → List Hand → List (Hand × T) → Type 0
AreUsed {T} passes results =
    (i : ℕ) (p : Hand) (r : Hand × T) → i < length passes → CallsOn (slice_index_or passes i p) (slice_index_or results i r).0
