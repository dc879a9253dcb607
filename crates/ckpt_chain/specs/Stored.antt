-- A job whose tasks are restored from files, over a coordinator and a storage.
use Rattle.std.specs.Prelude.{◌≡◌, ℕ, List, [], ◌∷◌, ◌++◌, if◌then◌else◌, map, Option, Some}
use Rattle.ckpt_ids.specs.{declared.ack.Acked.Acked, declared.subtask.SubtaskId.SubtaskId, Ordered.IsIn, Records.Record, Shapes.same_subtask}
use Rattle.ckpt_align.specs.Laws.{HasCut}
use Rattle.ckpt_model.specs.State.{record_of}
use Rattle.ckpt_terms.specs.{declared.machine.Machine.Machine, Machines.core_in}
use Rattle.ckpt_durable.specs.Groups.{synced}
use Rattle.ckpt_once.specs.Jobs.{Attempt, History, IsHistory, IsJob, Job, States, network, restored, snapshots, starts}
use Rattle.ckpt_once.specs.Restarts.{IsSeamless}
use Rattle.ckpt_chain.specs.{Since.acknowledgements_of, Told.NeverGoesBack, Told.WasRestored}
use Rattle.ckpt_chain.specs.Storages.{Act, AreAllowed, AreStored, Site, Storage, begun, site}

-- How a task's state is read from the contents of its files, which come in the order of their names. Nothing is said of what is read from
-- a file that is not there.
abbrev pub Reader : Type 0
Reader = SubtaskId → List (Option ℕ) → ℕ

-- the files that a subtask acknowledged
abbrev pub files_of : SubtaskId → List Acked → List ℕ
files_of t [] = []
files_of t (a ∷ acks) = if same_subtask a.subtask t then a.files else files_of t acks

-- an attempt; the record that the job was then restored to, as the restart found it; and what had been done when its files were read
pub record StoredAttempt : Type 0 where
  pub attempt : Attempt
  pub found : Record
  pub by_then : List Act

abbrev pub attempts_in : List StoredAttempt → List Attempt
attempts_in [] = []
attempts_in (k ∷ ks) = k.attempt ∷ attempts_in ks

-- a coordinator and a storage, what is done to them, and how states are read
pub record Place : Type 0 where
  pub begin : Machine
  pub storage : Storage
  pub acts : List Act
  pub reader : Reader

abbrev pub now_at : Place → Site
now_at p = site p.begin p.storage p.acts

-- The states that the job starts with: after a restart those that are read from what is in the storage.
abbrev pub read_from : Place → Job → List StoredAttempt → States
read_from p job [] = starts job
read_from p job (k ∷ ks) = λ t. p.reader t (map (site p.begin p.storage k.by_then).there (files_of t k.found.acks))

-- Each acknowledgement of the record that stands accepted in the log is of a task of the job that had cut it. What had been written under
-- the names of its files is its snapshot.
abbrev pub SavesSnapshots : Place → Job → States → History → ℕ → Type 0
SavesSnapshots p job from h n =
    (a : Acked)
    → IsIn a (acknowledgements_of n p.begin (synced (now_at p).world))
    → IsIn a.subtask job.tasks
    × HasCut n ((network job from h).task a.subtask)
    × (p.reader a.subtask (map (now_at p).ever a.files) ≡ snapshots n job from h a.subtask)

-- The program was told that the job was restored to the record. When its files are read it is live still.
pub record WasReadBack (p : Place) (job : Job) (from : States) (k : StoredAttempt) : Type 0 where
  pub later : List Act
  pub is_then : p.acts ≡ k.by_then ++ later
  pub restart : WasRestored (SavesSnapshots p job from k.attempt.history k.attempt.record_id) k.attempt.record_id k.attempt.earlier (now_at p).world job
  pub is_found : record_of (core_in restart.receipt.state) k.attempt.record_id ≡ Some k.found
  pub is_live : IsIn k.found (core_in (site p.begin p.storage k.by_then).world.life.now).records

-- attempts one after the other, each from the states that were read
abbrev pub AreReadBack : Place → Job → List StoredAttempt → Type 0
AreReadBack p job [] = Unit {0}
AreReadBack p job (k ∷ ks) =
    AreReadBack p job ks
    × IsHistory job (read_from p job ks) k.attempt.history
    × WasReadBack p job (read_from p job ks) k

-- What is read is what was saved; and failures are invisible, each element once.
pub record LosesNothing (p : Place) (job : Job) (ks : List StoredAttempt) (h : History) : Type 0 where
  pub reads_snapshots : (t : SubtaskId) → IsIn t job.tasks → read_from p job ks t ≡ restored job (attempts_in ks) t
  pub seamless : IsSeamless job (attempts_in ks) h

-- No lost file, no doubled output, whatever crashes.
abbrev pub NothingIsLost : Place → Job → List StoredAttempt → History → Type 0
NothingIsLost p job ks h =
    IsJob job
    → AreStored p.begin p.storage
    → AreAllowed (begun p.begin p.storage) p.acts
    → NeverGoesBack p.begin (synced (now_at p).world)
    → AreReadBack p job ks
    → IsHistory job (read_from p job ks) h
    → LosesNothing p job ks h
