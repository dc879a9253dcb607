-- What a discarder does in a round.
use Rattle.std.specs.Prelude.{◌≡◌, ◌≢◌, ℕ, ◌+◌, ◌<◌, ◌≤◌, Bool, true, false, not, if◌then◌else◌, List, [], ◌∷◌, ◌++◌, map, filter, take, length, count_by, Option, Some, None}
use Rattle.ckpt_ids.specs.declared.call.Call.{Call}
use Rattle.ckpt_ids.specs.declared.call.Call.TheVariants.{Take, Deleted, Undeleted}
use Rattle.ckpt_ids.specs.declared.reply.Reply.TheVariants.{Taken}
use Rattle.ckpt_ids.specs.declared.reply.Answer.{Answer}
use Rattle.ckpt_ids.specs.declared.reply.Answer.TheVariants.{Done}
use Rattle.ckpt_locked.specs.Locks.{Hand, Made}
use Rattle.ckpt_workers.specs.declared.discard.Round.{Round}
use Rattle.ckpt_workers.specs.Shifts.{Exchange, IsShift, calls_in}

-- what a storage has deleted, in order, and how often it failed
pub record Stored : Type 0 where
  pub deleted : List ℕ
  pub failures : ℕ

-- a file that was reported, and whether it is deleted
pub record Fate : Type 0 where
  pub file : ℕ
  pub deleted : Bool

abbrev pub report_of : ℕ → Bool → Call
report_of file deleted = if deleted then Deleted file else Undeleted file

abbrev pub reports_of : List Fate → List Call
reports_of fates = map (λ f. report_of f.file f.deleted) fates

abbrev pub deleted_in : List Fate → List ℕ
deleted_in fates = map (λ f. f.file) (filter (λ f. f.deleted) fates)

-- the first of the files, if storage has deleted it and that is not reported
abbrev pub gone_in : Bool → List ℕ → List ℕ
gone_in gone files = if gone then take 1 files else []

-- The file was deleted, or storage failed. A file that was gone before was not tried again.
abbrev pub IsTried : ℕ → Bool → Stored → Stored → Bool → Type 0
IsTried file true before after deleted = (deleted ≡ true) × (after ≡ before)
IsTried file false before after true = (after.deleted ≡ before.deleted ++ file ∷ []) × (before.failures ≤ after.failures)
IsTried file false before after false = (after.deleted ≡ before.deleted) × (before.failures < after.failures)

-- The files were reported in order, from the first on, each as what storage did with it. The others are left. `gone`
-- says whether storage had deleted the first file before: then it is reported and not deleted again. If the round runs
-- out of memory, or a file is gone, some files are left.
pub record IsReported (files : List ℕ) (gone : Bool) (before after : Stored) (old new : Hand) (round : Round) : Type 0 where
  pub fates : List Fate
  pub files_are : files ≡ map (λ f. f.file) fates ++ round.left
  pub told : List Exchange
  pub shift : IsShift old told new
  pub calls_are : calls_in told ≡ reports_of fates
  -- the files that storage's list gains
  pub gained : List ℕ
  pub storage_is : after.deleted ≡ before.deleted ++ gained
  pub gained_is : gone_in gone files ++ gained ≡ deleted_in fates ++ gone_in round.gone round.left
  pub taken_is : round.taken ≡ length files
  pub deleted_is : round.deleted ≡ count_by (λ f. f.deleted) fates
  pub failed_is : round.failed ≡ count_by (λ f. not f.deleted) fates
  pub failures : before.failures + round.failed ≤ after.failures
  pub memory_left : round.memory ≡ true → round.left ≢ []
  pub gone_left : round.gone ≡ true → round.left ≢ []

-- a round ends when all files are reported, or when it runs out of memory at the first that is left
pub record IsEnded (round : Round) : Type 0 where
  pub all : round.memory ≡ false → (round.left ≡ []) × (round.gone ≡ false)
  pub counted : round.deleted + round.failed + length round.left ≡ round.taken

abbrev pub taken_in : Answer → List ℕ
taken_in (Done (Taken files)) = files
taken_in answer = []

abbrev pub nothing_taken : Round
nothing_taken = record { taken = 0; deleted = 0; failed = 0; left = []; gone = false; memory = true }

-- One take, and then reports on its files. Nothing, if the take ran out of memory.
abbrev pub IsDiscarded : ℕ → Stored → Stored → Hand → Hand → Round → Option Answer → Type 0
IsDiscarded most before after old new round None = (new ≡ old) × (after ≡ before) × (round ≡ nothing_taken)
IsDiscarded most before after old new round (Some answer) =
    (taken : Hand) × Made old (Take most) taken answer × IsReported (taken_in answer) false before after taken new round
