-- Restarts from records whose tasks took their snapshots before each barrier had come: a job begins from their states, and from what
-- each channel had still to give. All lists of doings, moves and stretches have the newest first.
use Rattle.std.specs.Prelude.{◌≡◌, ℕ, Bool, false, ◌&&◌, ◌||◌, ◌==◌, ◌<◌, List, [], ◌∷◌, ◌++◌, if◌then◌else◌}
use Rattle.ckpt_ids.specs.{declared.subtask.SubtaskId.SubtaskId, Ordered.IsIn, Shapes.same_subtask}
use Rattle.ckpt_align.specs.Laws.{Channel}
use Rattle.ckpt_once.specs.{Programs.Move, Sinks.Sink, Sinks.written}
use Rattle.ckpt_once.specs.Jobs.{By, IsMoveOf, IsPrefix, IsRun, Job, Run, States, put_on, starts, states_after, taken_off}
use Rattle.ckpt_unaligned.specs.Laws as recorders

-- what a task does: it moves, or takes its snapshot for a record
pub data Doing : Type 0 where
  Moves : (move : Move) → Doing
  Snaps : (id : ℕ) → Doing

abbrev pub Doings : Type 0
Doings = List (By Doing)

-- from where a job begins: the state of each task, and what each channel gives before all else
pub record Begin : Type 0 where
  pub states : States
  pub first : Channel → List ℕ

abbrev pub anew : Job → Begin
anew job = record { states = starts job; first = λ c. [] }

-- Tasks move in any order; each element that was taken was given before, or had been put on its channel, in this order.
abbrev pub IsRunFrom : Job → Begin → Run → Type 0
IsRunFrom job b [] = Unit {0}
IsRunFrom job b (step ∷ run) =
    IsRunFrom job b run
    × IsMoveOf job step.task step.what
    × ((c : Channel) → IsIn c job.channels → IsPrefix (taken_off (step ∷ run) c) (b.first c ++ put_on job b.states run c))

abbrev pub with_doing : SubtaskId → Doing → Run → Run
with_doing t (Moves move) run = record { task = t; what = move } ∷ run
with_doing t (Snaps id) run = run

abbrev pub moves : Doings → Run
moves [] = []
moves (it ∷ doings) = with_doing it.task it.what (moves doings)

abbrev pub is_snap : ℕ → Doing → Bool
is_snap n (Moves move) = false
is_snap n (Snaps id) = id == n

-- whether a task has taken its snapshot for a record
abbrev pub has_snapped : ℕ → SubtaskId → Doings → Bool
has_snapped n t [] = false
has_snapped n t (it ∷ doings) = has_snapped n t doings || (same_subtask it.task t && is_snap n it.what)

-- the moves that tasks made before their snapshots for a record
abbrev pub before_snaps : ℕ → Doings → Run
before_snaps n [] = []
before_snaps n (it ∷ doings) = if has_snapped n it.task doings then before_snaps n doings else with_doing it.task it.what (before_snaps n doings)

-- What a job did between two starts, and the record from which it then began: what it has of each channel. Stretches after that record
-- have left nothing, and are not listed.
pub record Stretch : Type 0 where
  pub doings : Doings
  pub record_id : ℕ
  pub part : Channel → List ℕ

abbrev pub kept_moves : Stretch → Run
kept_moves s = before_snaps s.record_id s.doings

-- the states of the record's snapshots, and its parts of the channels; the start before the first
abbrev pub begin_after : Job → List Stretch → Begin
begin_after job [] = anew job
begin_after job (s ∷ ss) = record { states = states_after job (begin_after job ss).states (kept_moves s); first = s.part }

-- The record has of each channel what was given or put before the sender's snapshot, and not taken before the receiver's.
abbrev pub HasChannels : Job → Begin → Stretch → Type 0
HasChannels job b s = (c : Channel) → IsIn c job.channels → b.first c ++ put_on job b.states (kept_moves s) c ≡ taken_off (kept_moves s) c ++ s.part c

-- The record was made by recorders. Left to the engine: what its tasks did before their snapshots is what their recorders were told, and the
-- record's part of a channel is the task's part of it without what the task had processed at its snapshot.
pub record WasRecorded (job : Job) (b : Begin) (s : Stretch) : Type 0 where
  pub network : recorders.Network
  pub is_connected : (c : Channel) → IsIn c job.channels → c.input < (network.task c.receiver).inputs
  pub in_order : (c : Channel) → IsIn c job.channels → recorders.IsInOrder network c
  pub is_whole : (c : Channel) → IsIn c job.channels → recorders.HasPart s.record_id (network.task c.receiver)
  pub gives_first : (c : Channel) → IsIn c job.channels → network.first c ≡ b.first c
  pub sends : (c : Channel) → IsIn c job.channels → recorders.sent_before s.record_id network c ≡ put_on job b.states (kept_moves s) c
  pub takes : (c : Channel) (has : IsIn c job.channels) → recorders.part_in s.record_id network c (is_whole c has) ≡ taken_off (kept_moves s) c ++ s.part c

abbrev pub AreStretches : Job → List Stretch → Type 0
AreStretches job [] = Unit {0}
AreStretches job (s ∷ ss) = AreStretches job ss × IsRunFrom job (begin_after job ss) (moves s.doings) × HasChannels job (begin_after job ss) s

abbrev pub run_of_stretches : List Stretch → Run
run_of_stretches [] = []
run_of_stretches (s ∷ ss) = kept_moves s ++ run_of_stretches ss

-- what a sink writes before its snapshots, which it publishes once their records are complete
abbrev pub published : Job → Sink → List Stretch → List ℕ
published job sink [] = []
published job sink (s ∷ ss) = published job sink ss ++ written job (begin_after job ss).states (kept_moves s) sink

-- Failures are invisible: there is one run of the job without a failure, `now` behind `past`, that has these states.
pub record IsSeamless (job : Job) (ss : List Stretch) (doings : Doings) : Type 0 where
  pub is_run : IsRun job (starts job) (moves doings ++ run_of_stretches ss)
  pub has_states : (t : SubtaskId) → states_after job (begin_after job ss).states (moves doings) t ≡ states_after job (starts job) (moves doings ++ run_of_stretches ss) t
  -- at the last restart the channels had exactly what was on the way: nothing was lost, and nothing comes twice
  pub has_channels : (c : Channel) → IsIn c job.channels → put_on job (starts job) (run_of_stretches ss) c ≡ taken_off (run_of_stretches ss) c ++ (begin_after job ss).first c
  -- each element that a sink wrote up to the record was published, once
  pub was_published : (sink : Sink) → published job sink ss ≡ written job (starts job) (run_of_stretches ss) sink
  -- and whichever record is completed next, what is published then goes on with this run
  pub is_published : (sink : Sink) (n : ℕ)
      → IsPrefix (published job sink ss ++ written job (begin_after job ss).states (before_snaps n doings) sink) (written job (starts job) (moves doings ++ run_of_stretches ss) sink)

abbrev pub RestartsInvisible : Job → List Stretch → Doings → Type 0
RestartsInvisible job ss doings = AreStretches job ss → IsRunFrom job (begin_after job ss) (moves doings) → IsSeamless job ss doings

-- what recorders made has the channels
abbrev pub RecordersKeepChannels : Job → Begin → Stretch → Type 0
RecordersKeepChannels job b s = WasRecorded job b s → HasChannels job b s
