-- A worked example: the source and the adder of `ckpt_task` in loops, over a coordinator whose calls are committed in groups. It gets names, an
-- image cuts its log, and it crashes twice. The expected values were written by hand.
use Rattle.std.specs.Prelude.{◌≡◌, ℕ, List, [], ◌∷◌, ◌++◌, drop, map, refl, take, Option, Some, None}
use Rattle.ckpt_ids.specs.declared.call.Call.TheVariants.{Ack, Restore, Tick}
use Rattle.ckpt_ids.specs.declared.call.Target.TheVariants as target
use Rattle.ckpt_ids.specs.{declared.reply.Answer.Answer, declared.reply.Answer.TheVariants.Done}
use Rattle.ckpt_ids.specs.declared.reply.Choice.TheVariants as choice
use Rattle.ckpt_ids.specs.declared.reply.Reply.TheVariants as reply
use Rattle.ckpt_ids.specs.declared.reply.TickEnd.TheVariants as end
use Rattle.ckpt_align.specs.Histories.{Barrier, Element, Reads, Sends}
use Rattle.ckpt_align.specs.Steps.{barrier, settled, step}
use Rattle.ckpt_model.specs.{State.opened, Steps.step_computes}
use Rattle.ckpt_terms.specs.{declared.call.FencedCall.TheVariants.Make, declared.call.FencedCall.TheVariants.Reserve, declared.machine.Machine.Machine, Fencing.fenced_step}
use Rattle.ckpt_terms.specs.declared.machine.Machine.TheVariants as machine
use Rattle.ckpt_logged.specs.Events.{Event, Fence, Named, events_replay}
use Rattle.ckpt_durable.specs.Groups.{Committed, Crashed, Imaged, Made, Receipt, Turn, World, synced, world}
use Rattle.ckpt_ledger.specs.{Ledgers.Acts, Ledgers.Told, Restarts.AttemptTold, Restarts.over_restarts}
use Rattle.ckpt_once.specs.Jobs.{run_of_attempts, starts}
use Rattle.ckpt_once.specs.Sinks.{Sink, published_before, written}
use Rattle.ckpt_once.specs.WorkedExamples.{adder, job, source}
use Rattle.ckpt_task.specs.Loops.{LoopsAttempt, attempts_of, history_of}
use Rattle.ckpt_task.specs.WorkedLoops.{failed, opening}
use Rattle.ckpt_chain.specs.Told.{answered}

abbrev pub begin : Machine
begin = machine.Plain (opened opening)

-- In term 1 record 1 is triggered, and both subtasks acknowledge it: the adder with file 5, whose name it reserved.
abbrev pub ticks : Event
ticks = Named (Make 0 (Tick 1000))

abbrev pub reserves : Event
reserves = Named (Reserve 1 1)

abbrev pub source_acks : Event
source_acks = Named (Make 1 (Ack 1000 1 source [] []))

abbrev pub adder_acks : Event
adder_acks = Named (Make 1 (Ack 1000 1 adder (5 ∷ []) []))

-- The job is restored, which begins term 2. The old adder calls once more.
abbrev pub restores : Event
restores = Named (Make 0 (Restore 2000 target.Latest None))

abbrev pub calls_late : Event
calls_late = Named (Make 1 (Ack 2100 1 adder [] []))

-- The first acknowledgement of the adder is lost by a crash before its answer was told. It is made again, and told to complete the record.
abbrev pub turns : List Turn
turns =
    Made (Fence 5) ∷ Made ticks ∷ Committed ∷ Made reserves ∷ Made source_acks ∷ Committed ∷ Imaged 2 ∷ Made adder_acks ∷ Crashed 0
    ∷ Made adder_acks ∷ Committed ∷ Crashed 3 ∷ Made restores ∷ Committed ∷ Made calls_late ∷ Committed ∷ []

abbrev pub now : World
now = world begin turns

abbrev pub log : List Event
log = Fence 5 ∷ ticks ∷ reserves ∷ source_acks ∷ adder_acks ∷ restores ∷ calls_late ∷ []

pub is_synced : synced now ≡ log
is_synced = refl

-- the receipt of the event at this place
abbrev pub at : ℕ → Receipt
at k = record { state = events_replay begin (take k log); entry = take 1 (drop k log) }

pub is_told : now.told ≡ at 0 ∷ at 1 ∷ at 2 ∷ at 3 ∷ at 4 ∷ at 5 ∷ at 6 ∷ []
unfolding fenced_step step_computes
is_told = refl

abbrev answers : List Receipt → List (List (Option Answer))
answers receipts = map (λ r. map (answered r.state) r.entry) receipts

-- The fence, the reservation, and the late acknowledgement, which is of an old term, did not reach the coordinator below the names.
pub answers_are : answers now.told ≡ (
    (None ∷ []) ∷ (Some (Done (reply.Ticked 0 (end.Triggered 1))) ∷ []) ∷ (None ∷ []) ∷ (Some (Done (reply.AckPending 1)) ∷ [])
    ∷ (Some (Done (reply.AckCompleted 0 0)) ∷ []) ∷ (Some (Done (reply.Restored (choice.Checkpoint 1) 0)) ∷ []) ∷ (None ∷ []) ∷ []
    )
unfolding fenced_step step_computes
answers_are = refl

-- The attempt that failed. Its sinks were told that record 1 was completed.
abbrev pub attempt : LoopsAttempt
attempt = record { loops = failed; record_id = 1; earlier = 1 ∷ [] }

abbrev pub sink : Sink
sink = record { task = adder; output = 0 }

-- its ledger, which is told of the record behind its cut
abbrev pub told : AttemptTold
told = record {
  attempt = record { history = history_of failed; record_id = 1; earlier = 1 ∷ [] };
  early = Acts (Reads 0 (Element 100)) ∷ Acts (Sends 0 100) ∷ Acts (Reads 0 (Barrier 1)) ∷ Told 1 ∷ [];
  late = [];
}

-- The sum 100 was published, once: when the sink was told, and not again at the restart.
pub published : published_before job sink (attempts_of (attempt ∷ [])) ≡ 100 ∷ []
unfolding step barrier settled
published = refl

pub ledger_published : over_restarts job sink (told ∷ []) ≡ 100 ∷ []
unfolding step barrier settled
ledger_published = refl

-- and that is what the run writes up to the record
pub written_once : written job (starts job) (run_of_attempts job (attempts_of (attempt ∷ []))) sink ≡ 100 ∷ []
unfolding step barrier settled
written_once = refl

-- AN ANSWER THAT NOBODY WAS TOLD

-- The adder's acknowledgement completes record 1, but a crash comes before its answer is told. The job is restored: to nothing.
abbrev lost : List Turn
lost = Made (Fence 5) ∷ Made ticks ∷ Made reserves ∷ Made source_acks ∷ Committed ∷ Made adder_acks ∷ []

-- the answer that waits is that the record is completed
pub waits : answers (world begin lost).life.waiting ≡ (Some (Done (reply.AckCompleted 0 0)) ∷ []) ∷ []
unfolding fenced_step step_computes
waits = refl

-- A sink that had acted on it would have published the sum 100, and the job, which begins anew, would write it again.
pub begins_anew : answers (drop 4 (world begin (lost ++ Crashed 0 ∷ Made restores ∷ Committed ∷ [])).told) ≡ (Some (Done (reply.Restored choice.Fresh 0)) ∷ []) ∷ []
unfolding fenced_step step_computes
begins_anew = refl
