-- An engine whose tasks run in loops, each at its own pace, over channels that keep their order. Lists have the newest first.
use Rattle.std.specs.Prelude.{◌≡◌, ◌↔◌, ℕ, Bool, List, [], ◌∷◌, ◌++◌, map, if◌then◌else◌, None}
use Rattle.ckpt_ids.specs.{declared.ack.Acked.Acked, declared.call.Call.Call, declared.subtask.SubtaskId.SubtaskId, Ordered.IsIn}
use Rattle.ckpt_align.specs.{Histories.Item, Laws.Channel, Laws.HasCut}
use Rattle.ckpt_model.specs.{State.Opening, Laws.accepted_by, Laws.along}
use Rattle.ckpt_model.specs.State as model
use Rattle.ckpt_once.specs.Jobs.{Attempt, History, IsHistory, IsJob, IsTurnOf, Job, States, network, of, restored, snapshots, states_in}
use Rattle.ckpt_once.specs.Programs.{Ended, Program, Turn}
use Rattle.ckpt_once.specs.{Restarts.IsSeamless, Sinks.AreLast}
use Rattle.ckpt_task.specs.{declared.deed.Deed.Deed, declared.deed.Deed.TheVariants.SentEnd, Engines.begun, Laws.WasCompletedBy, Restores.IsRestored, Saving.under, Turns.At}
use Rattle.ckpt_task.specs.Deeds.{Acknowledges, came_in, sent_in, taken_in, told_in}
use Rattle.ckpt_task.specs.Runs.{Around, HasRun, Waits}

-- WHAT A TASK DID

-- runs of a task or a sink, one behind the other, and where each of them began
abbrev pub AreRuns : Program → List Around → Around → Around → Type 0
AreRuns p [] x y = y ≡ x
AreRuns p (begin ∷ begins) x y = AreRuns p begins x begin × ((waits : Waits) × (n : ℕ) × HasRun p waits n begin y)

-- a task in an attempt: where it started, where its last run left it, and whether it was ended then, by `finish`
pub record Looped : Type 0 where
  pub first : Around
  pub last : Around
  pub has_ended : Bool

abbrev pub deeds_of : Looped → List Deed
deeds_of l = if l.has_ended then SentEnd ∷ l.last.deeds else l.last.deeds

abbrev pub turns_of : Looped → List Turn
turns_of l = if l.has_ended then Ended ∷ came_in l.last.deeds else came_in l.last.deeds

-- It started as this task, with channels that it had not used. All it did since were runs.
pub record HasLooped (p : Program) (at : At) (l : Looped) : Type 0 where
  pub task : l.first.task ≡ at
  pub unused : l.first.deeds ≡ []
  pub begins : List Around
  pub runs : AreRuns p begins l.first l.last

-- WHAT AN ENGINE DID

-- an attempt of an engine: its tasks, and an order of them
pub record Loops : Type 0 where
  pub looped : SubtaskId → Looped
  pub order : List SubtaskId

-- Each task is listed once, and before those from which its channels lead. A job has such an order if it has no cycle.
abbrev pub IsDownstreamFirst : Job → List SubtaskId → Type 0
IsDownstreamFirst job [] = Unit {0}
IsDownstreamFirst job (t ∷ ts) = IsDownstreamFirst job ts × (IsIn t ts → ⊥) × ((c : Channel) → IsIn c job.channels → c.receiver ≡ t → IsIn c.sender ts)

-- A channel keeps its order: what its receiver took is a beginning of what its sender put on it.
abbrev pub KeepsOrder : Loops → Channel → Type 0
KeepsOrder e c = (on_the_way : List Item) × (sent_in c.output (deeds_of (e.looped c.sender)) ≡ taken_in c.input (deeds_of (e.looped c.receiver)) ++ on_the_way)

-- The tasks of the job ran in loops, from these states on. Elements came by channels only, and sources alone made steps of
-- their own. Nothing is said of when a task ran: they may have run in parallel.
pub record AreLooping (job : Job) (from : States) (e : Loops) : Type 0 where
  pub looped : (t : SubtaskId) → IsIn t job.tasks → HasLooped (job.program t) ((begun job from).task t) (e.looped t)
  pub are_turns : (t : SubtaskId) (turn : Turn) → IsIn t job.tasks → IsIn turn (turns_of (e.looped t)) → IsTurnOf job t turn
  pub keep_order : (c : Channel) → IsIn c job.channels → KeepsOrder e c
  pub has_no_cycle : IsDownstreamFirst job e.order
  pub are_tasks : (t : SubtaskId) → IsIn t e.order ↔ IsIn t job.tasks

-- THEIR HISTORY

-- the turns of each task, one task behind the other
abbrev pub one_by_one : (SubtaskId → List Turn) → List SubtaskId → History
one_by_one turns [] = []
one_by_one turns (t ∷ ts) = map (λ turn. record { task = t; what = turn }) (turns t) ++ one_by_one turns ts

abbrev pub history_of : Loops → History
history_of e = one_by_one (λ t. turns_of (e.looped t)) e.order

-- It is a history of `ckpt_once`, with the turns of each task and with its state. A task that acknowledged a record has
-- cut it.
pub record IsHistoryOfLoops (job : Job) (from : States) (e : Loops) : Type 0 where
  pub is_history : IsHistory job from (history_of e)
  pub turns : (t : SubtaskId) → IsIn t job.tasks → of t (history_of e) ≡ turns_of (e.looped t)
  pub states : (t : SubtaskId) → IsIn t job.tasks → states_in job from (history_of e) t ≡ (e.looped t).last.task.state
  pub cuts : (t : SubtaskId) (n : ℕ) → IsIn t job.tasks → IsIn (Acknowledges n) (told_in (e.looped t).last.deeds) → HasCut n ((network job from (history_of e)).task t)

abbrev pub LoopsMakeHistory : Job → States → Loops → Type 0
LoopsMakeHistory job from e = IsJob job → AreLooping job from e → IsHistoryOfLoops job from e

-- A task that is restored to a record of such an attempt begins the next one in its snapshot, if there was no snapshot of
-- this record before the attempt.
abbrev pub LoopsRestore : Job → States → Loops → SubtaskId → ℕ → At → Type 0
LoopsRestore job from e t n task =
    IsJob job
    → AreLooping job from e
    → IsIn t job.tasks
    → under n (e.looped t).first.saved ≡ None
    → IsRestored (job.inputs t) n (e.looped t).last.saved task
    → HasCut n ((network job from (history_of e)).task t) × (task ≡ (begun job (snapshots n job from (history_of e))).task t)

-- FAILURES

-- Each acknowledgement of a record that was accepted is one that a task of the job told.
abbrev pub AcceptsTold : Opening → Job → Loops → ℕ → List Call → Type 0
AcceptsTold o job e id calls =
    (a : Acked) → IsIn a (along (accepted_by id) (model.opened o) calls) → IsIn a.subtask job.tasks × IsIn (Acknowledges id) (told_in (e.looped a.subtask).last.deeds)

-- an attempt, and the record that the job was then restored to
pub record LoopsAttempt : Type 0 where
  pub loops : Loops
  pub record_id : ℕ
  pub earlier : List ℕ

abbrev pub attempts_of : List LoopsAttempt → List Attempt
attempts_of [] = []
attempts_of (one ∷ ones) = record { history = history_of one.loops; record_id = one.record_id; earlier = one.earlier } ∷ attempts_of ones

-- Attempts one after the other: each but the first starts from the snapshots of a done record.
abbrev pub AreLoopsAttempts : Opening → Job → List LoopsAttempt → Type 0
AreLoopsAttempts o job [] = Unit {0}
AreLoopsAttempts o job (one ∷ ones) =
    AreLoopsAttempts o job ones
    × AreLooping job (restored job (attempts_of ones)) one.loops
    × WasCompletedBy (AcceptsTold o job one.loops) one.record_id o job

-- Their failures are invisible, in the states of the tasks and in what sinks publish.
abbrev pub LoopsAreSeamless : Opening → Job → List LoopsAttempt → Loops → Type 0
LoopsAreSeamless o job ones e =
    IsJob job
    → AreLoopsAttempts o job ones
    → AreLast (attempts_of ones)
    → AreLooping job (restored job (attempts_of ones)) e
    → IsSeamless job (attempts_of ones) (history_of e)
