-- Sinks that publish what they wrote only when a record is completed.
use Rattle.std.specs.Prelude.{◌≡◌, ℕ, ◌≤◌, nat_le, List, [], ◌∷◌, ◌++◌, if◌then◌else◌, Option, Some, None}
use Rattle.ckpt_ids.specs.{declared.subtask.SubtaskId.SubtaskId, Ordered.IsIn}
use Rattle.ckpt_align.specs.{Alignment.Alignment, Alignment.opened, Laws.HasCut, Laws.Task}
use Rattle.ckpt_align.specs.Histories.{Action, after, cut_by, elements, sent_by}
use Rattle.ckpt_once.specs.Programs.{emitted, on_output}
use Rattle.ckpt_once.specs.Jobs.{Attempt, History, Job, Run, States, network, of, restored}

-- what a sink wrote between two cuts, under the record of the second
pub record Transaction : Type 0 where
  pub id : ℕ
  pub content : List ℕ

abbrev pub sealed_at : Option ℕ → List ℕ → List Transaction
sealed_at None open_one = []
sealed_at (Some id) open_one = record { id = id; content = open_one } ∷ []

abbrev pub still_open : Option ℕ → List ℕ → List ℕ
still_open None open_one = open_one
still_open (Some id) open_one = []

-- A sink writes into its open transaction; at its cut of a record it seals that, and opens the next.
abbrev pub sealed : ℕ → Alignment → List ℕ → List Action → List Transaction
sealed o a open_one [] = []
sealed o a open_one (action ∷ actions) =
    sealed_at (cut_by a action) open_one ++ sealed o (after a action) (still_open (cut_by a action) (open_one ++ elements (sent_by o a action))) actions

-- from the front, the transactions up to a record, and what is left
abbrev pub up_to : ℕ → List Transaction → List Transaction
up_to n [] = []
up_to n (one ∷ ones) = if nat_le one.id n then one ∷ up_to n ones else []

abbrev pub above : ℕ → List Transaction → List Transaction
above n [] = []
above n (one ∷ ones) = if nat_le one.id n then above n ones else one ∷ ones

abbrev pub contents : List Transaction → List ℕ
contents [] = []
contents (one ∷ ones) = one.content ++ contents ones

-- When a record is completed, the transactions up to it that are left are published. What these are does not depend on
-- how far the sink has come by then (`SealedByThen`). Some records may never be completed.
abbrev pub published : List ℕ → List Transaction → List ℕ
published [] ones = []
published (n ∷ ns) ones = contents (up_to n ones) ++ published ns (above n ones)

-- an output that no channel has to carry
pub record Sink : Type 0 where
  pub task : SubtaskId
  pub output : ℕ

-- what a run writes
abbrev pub written : Job → States → Run → Sink → List ℕ
written job from run sink = on_output sink.output (emitted (job.program sink.task) (from sink.task) (of sink.task run))

abbrev pub sealed_in : Job → States → History → Sink → List Transaction
sealed_in job from h sink = let t : Task = (network job from h).task sink.task in sealed sink.output (opened t.inputs) [] t.actions

-- what a sink publishes in a history in which these records were completed, in this order
abbrev pub published_in : Job → States → History → Sink → List ℕ → List ℕ
published_in job from h sink completed = published completed (sealed_in job from h sink)

-- and in attempts, which lose what was not published when they failed
abbrev pub published_before : Job → Sink → List Attempt → List ℕ
published_before job sink [] = []
published_before job sink (attempt ∷ attempts) =
    published_before job sink attempts
    ++ published_in job (restored job attempts) attempt.history sink (attempt.earlier ++ attempt.record_id ∷ [])

-- each restart was to the last record that had been completed, which was the greatest
abbrev pub AreLast : List Attempt → Type 0
AreLast [] = Unit {0}
AreLast (attempt ∷ attempts) = AreLast attempts × ((m : ℕ) → IsIn m attempt.earlier → m ≤ attempt.record_id)

-- once a sink has cut a record, what it has sealed up to it stays, whatever it does later
abbrev pub SealedByThen : ℕ → Job → States → History → History → Sink → Type 0
SealedByThen n job from h later sink =
    HasCut n ((network job from h).task sink.task) → contents (up_to n (sealed_in job from (later ++ h) sink)) ≡ contents (up_to n (sealed_in job from h sink))
