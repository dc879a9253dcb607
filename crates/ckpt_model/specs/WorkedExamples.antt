-- Worked examples: the coordinator's answers to lists of calls, computed by the definitions.
-- Their expected answers were written by hand, from the rules.
use Rattle.std.specs.Prelude.{◌≡◌, ℕ, ◌^◌, ◌-◌, List, refl, ◌++◌, map, replicate, true, false, [], ◌∷◌, Some, None}
use Rattle.std.specs.List.{range_with_len}
use Rattle.ckpt_ids.specs.declared.numbers.Kind.TheVariants as kind
use Rattle.ckpt_ids.specs.declared.call.Target.TheVariants as target
use Rattle.ckpt_ids.specs.declared.reply.Choice.TheVariants as choice
use Rattle.ckpt_ids.specs.declared.call.Call.TheVariants.{Tick, Savepoint, Ack, Decline, Dispose, Restore, Cancel, Take, Deleted, Undeleted, Show, Count, Trigger, Configure}
use Rattle.ckpt_ids.specs.declared.reply.TickEnd.TheVariants as end
use Rattle.ckpt_ids.specs.declared.reply.Refusal.TheVariants as refusal
use Rattle.ckpt_ids.specs.declared.reply.Reply.TheVariants as reply
use Rattle.ckpt_ids.specs.declared.reply.Answer.TheVariants.{Done, Refused}
use Rattle.ckpt_ids.specs.declared.subtask.SubtaskId.{SubtaskId}
use Rattle.ckpt_ids.specs.Configuration.{Configuration}
use Rattle.ckpt_model.specs.State.{State, opened}
use Rattle.ckpt_model.specs.Histories.{answers}
use Rattle.ckpt_model.specs.Steps.{step_computes}

-- a checkpoint each second, one at a time, none of which may fail, and one of which is kept
abbrev usual : Configuration
usual = record { interval = 1000; pause = 0; at_once = 1; timeout = 600000; tolerable = 0; retained = 1; keep_on_cancel = false }

abbrev opening : Configuration → List ℕ → State
opening config shape = opened (record { config = config; shape = shape; start = 0; first = 1 })

abbrev subtask : ℕ → ℕ → SubtaskId
subtask vertex index = record { vertex = vertex; index = index }

-- a thousand savepoints
pub a_thousand_savepoints : answers (opening usual (1 ∷ [])) (
    replicate 1000 (Savepoint 0) ++ (Savepoint 0 ∷ Ack 0 1 (subtask 0 0) [] [] ∷ Savepoint 0 ∷ Dispose 1 ∷ Savepoint 0 ∷ [])
    ) ≡ (
    map (λ n. Done (reply.SavepointTriggered n)) (range_with_len 1 1000) ++ (Refused (refusal.TooManySavepoints)
    ∷ Done (reply.AckCompleted 0 0) ∷ Refused (refusal.TooManySavepoints) ∷ Done (reply.Disposed 0)
    ∷ Done (reply.SavepointTriggered 1001) ∷ [])
    )
unfolding step_computes
a_thousand_savepoints = refl

-- abandoned line
pub abandoned_line : answers (opening usual (1 ∷ [])) (
    Tick 1000 ∷ Ack 1000 1 (subtask 0 0) (1 ∷ []) [] ∷ Savepoint 1500 ∷ Ack 1500 2 (subtask 0 0) (2 ∷ []) [] ∷ Tick 2000
    ∷ Ack 2000 3 (subtask 0 0) (3 ∷ []) [] ∷ Restore 2500 (target.Savepoint 2) None ∷ Restore 2600 target.Latest None ∷ Dispose 2
    ∷ Tick 3600 ∷ Ack 3600 4 (subtask 0 0) (4 ∷ []) (2 ∷ []) ∷ Dispose 2 ∷ Count 2 ∷ Take 9 ∷ []
    ) ≡ (
    Done (reply.Ticked 0 (end.Triggered 1)) ∷ Done (reply.AckCompleted 0 0) ∷ Done (reply.SavepointTriggered 2)
    ∷ Done (reply.AckCompleted 0 0) ∷ Done (reply.Ticked 0 (end.Triggered 3)) ∷ Done (reply.AckCompleted 1 1)
    ∷ Done (reply.Restored (choice.Savepoint 2) 1) ∷ Done (reply.Restored (choice.Savepoint 2) 0) ∷ Refused (refusal.InUse)
    ∷ Done (reply.Ticked 0 (end.Triggered 4)) ∷ Done (reply.AckCompleted 0 0) ∷ Done (reply.Disposed 0) ∷ Done (reply.Counted 2 1)
    ∷ Done (reply.Taken (1 ∷ 3 ∷ [])) ∷ []
    )
unfolding step_computes
abandoned_line = refl

-- ack words in any order
pub ack_words_in_any_order : answers (opening usual (3 ∷ [])) (
    Tick 1000 ∷ Ack 1000 1 (subtask 0 0) (3 ∷ []) [] ∷ Ack 5 1 (subtask 0 2) (4 ∷ []) (3 ∷ []) ∷ Show 1 ∷ Count 3 ∷ Count 4 ∷ []
    ) ≡ (
    Done (reply.Ticked 0 (end.Triggered 1)) ∷ Done (reply.AckPending 2) ∷ Done (reply.AckPending 1)
    ∷ Done (reply.Shown (record {
      id = 1;
      kind = kind.Checkpoint;
      done = false;
      shape = (3 ∷ []);
      started = 1000;
      acks = (record { subtask = subtask 0 0; files = (3 ∷ []) } ∷ record { subtask = subtask 0 2; files = (3 ∷ 4 ∷ []) } ∷ []);
    }))
    ∷ Done (reply.Counted 3 2) ∷ Done (reply.Counted 4 1) ∷ []
    )
unfolding step_computes
ack_words_in_any_order = refl

-- all 64, in however many threads: a call knows of none
pub all_64_in_threads : answers (opening usual (64 ∷ [])) (
    Tick 1000 ∷ []
    ) ≡ (
    Done (reply.Ticked 0 (end.Triggered 1)) ∷ []
    )
unfolding step_computes
all_64_in_threads = refl

-- all of the missing
pub all_of_the_missing : answers (opening usual (4 ∷ [])) (
    Tick 1000 ∷ Ack 1000 1 (subtask 0 3) (101 ∷ []) [] ∷ []
    ) ≡ (
    Done (reply.Ticked 0 (end.Triggered 1)) ∷ Done (reply.AckPending 3) ∷ []
    )
unfolding step_computes
all_of_the_missing = refl

-- arrival order
pub arrival_order : answers (opening usual (1 ∷ 2 ∷ [])) (
    Tick 1000 ∷ Ack 1100 1 (subtask 1 1) (31 ∷ []) [] ∷ Ack 1200 1 (subtask 0 0) (32 ∷ []) [] ∷ Ack 1300 1 (subtask 1 0) (33 ∷ []) []
    ∷ Show 1 ∷ []
    ) ≡ (
    Done (reply.Ticked 0 (end.Triggered 1)) ∷ Done (reply.AckPending 2) ∷ Done (reply.AckPending 1) ∷ Done (reply.AckCompleted 0 0)
    ∷ Done (reply.Shown (record {
      id = 1;
      kind = kind.Checkpoint;
      done = true;
      shape = (1 ∷ 2 ∷ []);
      started = 1000;
      acks = (record { subtask = subtask 0 0; files = (32 ∷ []) } ∷ record { subtask = subtask 1 0; files = (33 ∷ []) } ∷ record { subtask = subtask 1 1; files = (31 ∷ []) } ∷ []);
    }))
    ∷ []
    )
unfolding step_computes
arrival_order = refl

-- cancel and delete
pub cancel_and_delete : answers (opening usual (1 ∷ [])) (
    Tick 1000 ∷ Ack 1000 1 (subtask 0 0) (1 ∷ []) [] ∷ Savepoint 1500 ∷ Ack 1500 2 (subtask 0 0) (2 ∷ []) (1 ∷ []) ∷ Cancel 3000
    ∷ Count 1 ∷ Restore 3000 target.Latest None ∷ Cancel 3000 ∷ Dispose 2 ∷ Take 9 ∷ []
    ) ≡ (
    Done (reply.Ticked 0 (end.Triggered 1)) ∷ Done (reply.AckCompleted 0 0) ∷ Done (reply.SavepointTriggered 2)
    ∷ Done (reply.AckCompleted 0 0) ∷ Done (reply.Cancelled 1 0) ∷ Done (reply.Counted 1 1) ∷ Refused (refusal.NotRunning)
    ∷ Refused (refusal.NotRunning) ∷ Done (reply.Disposed 2) ∷ Done (reply.Taken (1 ∷ 2 ∷ [])) ∷ []
    )
unfolding step_computes
cancel_and_delete = refl

-- cancel and keep
pub cancel_and_keep : answers (opening (record usual { keep_on_cancel = true }) (1 ∷ [])) (
    Tick 1000 ∷ Ack 1000 1 (subtask 0 0) (1 ∷ []) [] ∷ Savepoint 1500 ∷ Ack 1500 2 (subtask 0 0) (2 ∷ []) (1 ∷ []) ∷ Cancel 3000
    ∷ Count 1 ∷ Restore 3000 target.Latest None ∷ Cancel 3000 ∷ Dispose 2 ∷ Take 9 ∷ []
    ) ≡ (
    Done (reply.Ticked 0 (end.Triggered 1)) ∷ Done (reply.AckCompleted 0 0) ∷ Done (reply.SavepointTriggered 2)
    ∷ Done (reply.AckCompleted 0 0) ∷ Done (reply.Cancelled 0 0) ∷ Done (reply.Counted 1 2) ∷ Refused (refusal.NotRunning)
    ∷ Refused (refusal.NotRunning) ∷ Done (reply.Disposed 1) ∷ Done (reply.Taken (2 ∷ [])) ∷ []
    )
unfolding step_computes
cancel_and_keep = refl

-- cascade through compaction
pub cascade_through_compaction : answers (opening (record usual { retained = 2 }) (1 ∷ [])) (
    Tick 1000 ∷ Ack 1000 1 (subtask 0 0) (1 ∷ 2 ∷ []) [] ∷ Tick 2000 ∷ Ack 2000 2 (subtask 0 0) (3 ∷ 4 ∷ []) (1 ∷ 2 ∷ []) ∷ Tick 3000
    ∷ Ack 3000 3 (subtask 0 0) (5 ∷ 123 ∷ []) (4 ∷ []) ∷ Tick 4000 ∷ Ack 4000 4 (subtask 0 0) (456 ∷ []) (123 ∷ []) ∷ Take 8 ∷ Count 4
    ∷ Count 123 ∷ []
    ) ≡ (
    Done (reply.Ticked 0 (end.Triggered 1)) ∷ Done (reply.AckCompleted 0 0) ∷ Done (reply.Ticked 0 (end.Triggered 2))
    ∷ Done (reply.AckCompleted 0 0) ∷ Done (reply.Ticked 0 (end.Triggered 3)) ∷ Done (reply.AckCompleted 1 0)
    ∷ Done (reply.Ticked 0 (end.Triggered 4)) ∷ Done (reply.AckCompleted 1 3) ∷ Done (reply.Taken (1 ∷ 2 ∷ 3 ∷ []))
    ∷ Done (reply.Counted 4 1) ∷ Done (reply.Counted 123 2) ∷ []
    )
unfolding step_computes
cascade_through_compaction = refl

-- completed savepoint resets no failures
pub completed_savepoint_resets_no_failures : answers (opening (record usual { tolerable = 1 }) (1 ∷ [])) (
    Tick 1000 ∷ Decline 1001 1 (subtask 0 0) ∷ Savepoint 1002 ∷ Ack 1003 2 (subtask 0 0) (7 ∷ []) [] ∷ Tick 2000
    ∷ Decline 2001 3 (subtask 0 0) ∷ []
    ) ≡ (
    Done (reply.Ticked 0 (end.Triggered 1)) ∷ Done (reply.DeclineAborted 0) ∷ Done (reply.SavepointTriggered 2)
    ∷ Done (reply.AckCompleted 0 0) ∷ Done (reply.Ticked 0 (end.Triggered 3)) ∷ Done (reply.DeclineFailed 0) ∷ []
    )
unfolding step_computes
completed_savepoint_resets_no_failures = refl

-- decline and fail over
pub decline_and_fail_over : answers (opening (record usual { timeout = 500; tolerable = 1 }) (2 ∷ [])) (
    Tick 1000 ∷ Ack 1000 1 (subtask 0 0) (5 ∷ []) [] ∷ Decline 1100 1 (subtask 0 1) ∷ Tick 2000 ∷ Ack 2000 2 (subtask 0 1) (5 ∷ []) []
    ∷ Ack 2001 2 (subtask 0 1) (6 ∷ []) [] ∷ Tick 2500 ∷ Tick 2600 ∷ Decline 2600 2 (subtask 0 0) ∷ []
    ) ≡ (
    Done (reply.Ticked 0 (end.Triggered 1)) ∷ Done (reply.AckPending 1) ∷ Done (reply.DeclineAborted 1)
    ∷ Done (reply.Ticked 0 (end.Triggered 2)) ∷ Refused (refusal.NameTaken 5) ∷ Done (reply.AckPending 1)
    ∷ Done (reply.Ticked 1 end.Failed) ∷ Refused (refusal.NotRunning) ∷ Done reply.DeclineLate ∷ []
    )
unfolding step_computes
decline_and_fail_over = refl

-- exact due moment
pub exact_due_moment : answers (opening usual (1 ∷ [])) (
    Tick 999 ∷ Tick 1000 ∷ Ack 1000 1 (subtask 0 0) (11 ∷ []) [] ∷ Show 1 ∷ []
    ) ≡ (
    Done (reply.Ticked 0 end.HeldInterval) ∷ Done (reply.Ticked 0 (end.Triggered 1)) ∷ Done (reply.AckCompleted 0 0)
    ∷ Done (reply.Shown (record { id = 1; kind = kind.Checkpoint; done = true; shape = (1 ∷ []); started = 1000; acks = (record { subtask = subtask 0 0; files = (11 ∷ []) } ∷ []) }))
    ∷ []
    )
unfolding step_computes
exact_due_moment = refl

-- expired and triggered again
pub expired_and_triggered_again : answers (opening (record usual { timeout = 500; tolerable = 1 }) (1 ∷ [])) (
    Tick 1000 ∷ Tick 2000 ∷ []
    ) ≡ (
    Done (reply.Ticked 0 (end.Triggered 1)) ∷ Done (reply.Ticked 1 (end.Triggered 2)) ∷ []
    )
unfolding step_computes
expired_and_triggered_again = refl

-- failing over afresh
pub failing_over_afresh : answers (opening (record usual { timeout = 500 }) (1 ∷ [])) (
    Tick 1000 ∷ Tick 1499 ∷ Tick 1500 ∷ Tick 1600 ∷ Restore 1600 target.Latest None ∷ Tick 2599 ∷ Tick 2600 ∷ []
    ) ≡ (
    Done (reply.Ticked 0 (end.Triggered 1)) ∷ Done (reply.Ticked 0 end.HeldInterval) ∷ Done (reply.Ticked 1 end.Failed)
    ∷ Refused (refusal.NotRunning) ∷ Done (reply.Restored choice.Fresh 0) ∷ Done (reply.Ticked 0 end.HeldInterval)
    ∷ Done (reply.Ticked 0 (end.Triggered 2)) ∷ []
    )
unfolding step_computes
failing_over_afresh = refl

-- deleted or taken
pub gone_or_taken : answers (opening usual (1 ∷ [])) (
    Tick 1000 ∷ Ack 1000 1 (subtask 0 0) (1 ∷ []) [] ∷ Tick 2000 ∷ Ack 2000 2 (subtask 0 0) (2 ∷ []) [] ∷ Tick 3000
    ∷ Ack 3000 3 (subtask 0 0) (3 ∷ []) (1 ∷ []) ∷ Ack 3000 3 (subtask 0 0) (1 ∷ []) [] ∷ Ack 3000 3 (subtask 0 0) [] (2 ∷ [])
    ∷ Count 2 ∷ Take 9 ∷ []
    ) ≡ (
    Done (reply.Ticked 0 (end.Triggered 1)) ∷ Done (reply.AckCompleted 0 0) ∷ Done (reply.Ticked 0 (end.Triggered 2))
    ∷ Done (reply.AckCompleted 1 1) ∷ Done (reply.Ticked 0 (end.Triggered 3)) ∷ Refused (refusal.FileGone 1)
    ∷ Refused (refusal.NameTaken 1) ∷ Done (reply.AckCompleted 1 0) ∷ Done (reply.Counted 2 1) ∷ Done (reply.Taken (1 ∷ [])) ∷ []
    )
unfolding step_computes
gone_or_taken = refl

-- late acknowledgements
pub late_acknowledgements : answers (opening (record usual { timeout = 500; tolerable = 1 }) (1 ∷ [])) (
    Tick 1000 ∷ Tick 1500 ∷ Ack 1600 1 (subtask 0 0) (21 ∷ []) [] ∷ Take 1 ∷ Tick 2000 ∷ Ack 2000 2 (subtask 0 0) (22 ∷ []) []
    ∷ Ack 2001 2 (subtask 0 0) (22 ∷ []) [] ∷ Ack 2001 1 (subtask 0 0) (21 ∷ []) [] ∷ Count 22 ∷ Take 1 ∷ []
    ) ≡ (
    Done (reply.Ticked 0 (end.Triggered 1)) ∷ Done (reply.Ticked 1 end.HeldInterval) ∷ Done (reply.AckLate 1)
    ∷ Done (reply.Taken (21 ∷ [])) ∷ Done (reply.Ticked 0 (end.Triggered 2)) ∷ Done (reply.AckCompleted 0 0) ∷ Done (reply.AckLate 0)
    ∷ Done (reply.AckLate 0) ∷ Done (reply.Counted 22 1) ∷ Done (reply.Taken []) ∷ []
    )
unfolding step_computes
late_acknowledgements = refl

-- leading zeros
pub leading_zeros : answers (opening usual (7 ∷ [])) (
    Tick 1000 ∷ Show 1 ∷ []
    ) ≡ (
    Done (reply.Ticked 0 (end.Triggered 1))
    ∷ Done (reply.Shown (record { id = 1; kind = kind.Checkpoint; done = false; shape = (7 ∷ []); started = 1000; acks = [] })) ∷ []
    )
unfolding step_computes
leading_zeros = refl

-- limits and order of refusals
pub limits_and_order_of_refusals : answers (opening usual (1 ∷ [])) (
    Tick 1000 ∷ Ack 4611686018427387904 99 (subtask 0 0) (5 ∷ 5 ∷ []) [] ∷ Ack 1000 99 (subtask 0 0) (5 ∷ []) (5 ∷ [])
    ∷ Ack 1000 99 (subtask 0 0) (1 ∷ []) [] ∷ Ack 1000 0 (subtask 0 0) [] [] ∷ Ack 1000 1 (subtask 0 1) (1 ∷ []) [] ∷ []
    ) ≡ (
    Done (reply.Ticked 0 (end.Triggered 1)) ∷ Refused (refusal.MomentTooLarge) ∷ Refused (refusal.RepeatedFile)
    ∷ Refused (refusal.UnknownCheckpoint) ∷ Refused (refusal.UnknownCheckpoint) ∷ Refused (refusal.UnknownSubtask) ∷ []
    )
unfolding step_computes
limits_and_order_of_refusals = refl

-- moment goes back
pub moment_goes_back : answers (opening usual (1 ∷ [])) (
    Tick 2000 ∷ Tick 900 ∷ Show 1 ∷ Show 9 ∷ []
    ) ≡ (
    Done (reply.Ticked 0 (end.Triggered 1)) ∷ Done (reply.Ticked 0 end.HeldInterval)
    ∷ Done (reply.Shown (record { id = 1; kind = kind.Checkpoint; done = false; shape = (1 ∷ []); started = 2000; acks = [] }))
    ∷ Refused (refusal.NoSuchRecord) ∷ []
    )
unfolding step_computes
moment_goes_back = refl

-- outbox
pub outbox : answers (opening usual (1 ∷ [])) (
    Take 0 ∷ Deleted 9 ∷ Tick 1000 ∷ Ack 1000 1 (subtask 0 0) (1 ∷ []) [] ∷ Tick 2000 ∷ Ack 2000 2 (subtask 0 0) (2 ∷ []) [] ∷ Take 1
    ∷ Tick 3000 ∷ Ack 3000 3 (subtask 0 0) (3 ∷ []) [] ∷ Undeleted 1 ∷ Take 9 ∷ Deleted 1 ∷ Deleted 1 ∷ []
    ) ≡ (
    Done (reply.Taken []) ∷ Refused (refusal.NotTaken) ∷ Done (reply.Ticked 0 (end.Triggered 1)) ∷ Done (reply.AckCompleted 0 0)
    ∷ Done (reply.Ticked 0 (end.Triggered 2)) ∷ Done (reply.AckCompleted 1 1) ∷ Done (reply.Taken (1 ∷ []))
    ∷ Done (reply.Ticked 0 (end.Triggered 3)) ∷ Done (reply.AckCompleted 1 1) ∷ Done (reply.Undeleted 1)
    ∷ Done (reply.Taken (2 ∷ 1 ∷ [])) ∷ Done (reply.Deleted 1) ∷ Refused (refusal.NotTaken) ∷ []
    )
unfolding step_computes
outbox = refl

-- pause implies one at once
pub pause_implies_one_at_once : answers (opening (record usual { pause = 5000; at_once = 4 }) (1 ∷ [])) (
    Tick 1000 ∷ Tick 5000 ∷ Tick 10000 ∷ Ack 12000 1 (subtask 0 0) (1 ∷ []) [] ∷ Tick 16999 ∷ Tick 17000 ∷ Tick 17001 ∷ []
    ) ≡ (
    Done (reply.Ticked 0 end.HeldInterval) ∷ Done (reply.Ticked 0 (end.Triggered 1)) ∷ Done (reply.Ticked 0 end.HeldAtOnce)
    ∷ Done (reply.AckCompleted 0 0) ∷ Done (reply.Ticked 0 end.HeldPause) ∷ Done (reply.Ticked 0 (end.Triggered 2))
    ∷ Done (reply.Ticked 0 end.HeldInterval) ∷ []
    )
unfolding step_computes
pause_implies_one_at_once = refl

-- pin ends with its record
pub pin_ends_with_its_record : answers (opening (record usual { at_once = 2; tolerable = 1 }) (1 ∷ [])) (
    Tick 1000 ∷ Ack 1000 1 (subtask 0 0) (11 ∷ []) [] ∷ Tick 2000 ∷ Tick 3000 ∷ Ack 3000 2 (subtask 0 0) (12 ∷ []) [] ∷ Count 11
    ∷ Decline 3100 3 (subtask 0 0) ∷ Take 1 ∷ []
    ) ≡ (
    Done (reply.Ticked 0 (end.Triggered 1)) ∷ Done (reply.AckCompleted 0 0) ∷ Done (reply.Ticked 0 (end.Triggered 2))
    ∷ Done (reply.Ticked 0 (end.Triggered 3)) ∷ Done (reply.AckCompleted 1 0) ∷ Done (reply.Counted 11 1)
    ∷ Done (reply.DeclineAborted 1) ∷ Done (reply.Taken (11 ∷ [])) ∷ []
    )
unfolding step_computes
pin_ends_with_its_record = refl

-- pinned until it ends
pub pinned_until_it_ends : answers (opening (record usual { at_once = 2 }) (1 ∷ [])) (
    Tick 1000 ∷ Ack 1000 1 (subtask 0 0) (11 ∷ []) [] ∷ Tick 2000 ∷ Tick 3000 ∷ Ack 3000 2 (subtask 0 0) (12 ∷ []) []
    ∷ Ack 3000 3 (subtask 0 0) (13 ∷ []) (11 ∷ []) ∷ Count 13 ∷ Take 1 ∷ Count 11 ∷ []
    ) ≡ (
    Done (reply.Ticked 0 (end.Triggered 1)) ∷ Done (reply.AckCompleted 0 0) ∷ Done (reply.Ticked 0 (end.Triggered 2))
    ∷ Done (reply.Ticked 0 (end.Triggered 3)) ∷ Done (reply.AckCompleted 1 0) ∷ Done (reply.AckCompleted 1 1)
    ∷ Done (reply.Counted 13 1) ∷ Done (reply.Taken (12 ∷ [])) ∷ Done (reply.Counted 11 1) ∷ []
    )
unfolding step_computes
pinned_until_it_ends = refl

-- repeats and taken names
pub repeats_and_taken_names : answers (opening usual (2 ∷ [])) (
    Tick 1000 ∷ Ack 1000 1 (subtask 0 0) (11 ∷ []) [] ∷ Ack 1001 1 (subtask 0 0) (11 ∷ []) [] ∷ Ack 1001 1 (subtask 0 0) (12 ∷ []) []
    ∷ Ack 1002 1 (subtask 0 1) (11 ∷ []) [] ∷ Count 11 ∷ Count 12 ∷ []
    ) ≡ (
    Done (reply.Ticked 0 (end.Triggered 1)) ∷ Done (reply.AckPending 1) ∷ Refused (refusal.AlreadyAcknowledged)
    ∷ Refused (refusal.AlreadyAcknowledged) ∷ Refused (refusal.NameTaken 11) ∷ Done (reply.Counted 11 1) ∷ Done (reply.Counted 12 0)
    ∷ []
    )
unfolding step_computes
repeats_and_taken_names = refl

-- rescaling at restore
pub rescaling_at_restore : answers (opening usual (1 ∷ [])) (
    Tick 1000 ∷ Ack 1000 1 (subtask 0 0) (1 ∷ []) [] ∷ Restore 1500 target.Latest (Some (2 ∷ 1 ∷ [])) ∷ Tick 2499 ∷ Tick 2500
    ∷ Ack 2500 2 (subtask 0 0) (2 ∷ []) (1 ∷ []) ∷ Ack 2500 2 (subtask 0 1) [] (1 ∷ []) ∷ Ack 2500 2 (subtask 1 0) [] [] ∷ Count 1
    ∷ Show 2 ∷ Restore 2600 (target.Savepoint 2) (Some (1 ∷ [])) ∷ []
    ) ≡ (
    Done (reply.Ticked 0 (end.Triggered 1)) ∷ Done (reply.AckCompleted 0 0) ∷ Done (reply.Restored (choice.Checkpoint 1) 0)
    ∷ Done (reply.Ticked 0 end.HeldInterval) ∷ Done (reply.Ticked 0 (end.Triggered 2)) ∷ Done (reply.AckPending 2)
    ∷ Done (reply.AckPending 1) ∷ Done (reply.AckCompleted 1 0) ∷ Done (reply.Counted 1 2)
    ∷ Done (reply.Shown (record {
      id = 2;
      kind = kind.Checkpoint;
      done = true;
      shape = (2 ∷ 1 ∷ []);
      started = 2500;
      acks = (record { subtask = subtask 0 0; files = (1 ∷ 2 ∷ []) } ∷ record { subtask = subtask 0 1; files = (1 ∷ []) } ∷ record { subtask = subtask 1 0; files = [] } ∷ []);
    }))
    ∷ Refused (refusal.NoSuchSavepoint) ∷ []
    )
unfolding step_computes
rescaling_at_restore = refl

-- savepoint is not subsumed
pub savepoint_is_not_subsumed : answers (opening usual (1 ∷ [])) (
    Tick 1000 ∷ Ack 1000 1 (subtask 0 0) (1 ∷ []) [] ∷ Savepoint 1500 ∷ Tick 2000 ∷ Ack 2000 3 (subtask 0 0) (3 ∷ []) []
    ∷ Ack 2100 2 (subtask 0 0) (2 ∷ []) [] ∷ Tick 3000 ∷ Ack 3000 4 (subtask 0 0) (4 ∷ []) (2 ∷ []) ∷ Count 2 ∷ Dispose 2 ∷ Count 2
    ∷ Tick 4000 ∷ Ack 4000 5 (subtask 0 0) (5 ∷ []) [] ∷ Take 9 ∷ Dispose 2 ∷ []
    ) ≡ (
    Done (reply.Ticked 0 (end.Triggered 1)) ∷ Done (reply.AckCompleted 0 0) ∷ Done (reply.SavepointTriggered 2)
    ∷ Done (reply.Ticked 0 (end.Triggered 3)) ∷ Done (reply.AckCompleted 1 0) ∷ Done (reply.AckCompleted 0 1)
    ∷ Done (reply.Ticked 0 (end.Triggered 4)) ∷ Done (reply.AckCompleted 1 1) ∷ Done (reply.Counted 2 2) ∷ Done (reply.Disposed 0)
    ∷ Done (reply.Counted 2 1) ∷ Done (reply.Ticked 0 (end.Triggered 5)) ∷ Done (reply.AckCompleted 1 2)
    ∷ Done (reply.Taken (1 ∷ 3 ∷ 2 ∷ 4 ∷ [])) ∷ Refused (refusal.NoSuchSavepoint) ∷ []
    )
unfolding step_computes
savepoint_is_not_subsumed = refl

-- savepoints expire without failure
pub savepoints_expire_without_failure : answers (opening (record usual { timeout = 500 }) (1 ∷ [])) (
    Savepoint 100 ∷ Tick 600 ∷ Ack 700 1 (subtask 0 0) (5 ∷ []) [] ∷ Savepoint 800 ∷ Tick 1000 ∷ Decline 1100 2 (subtask 0 0)
    ∷ Savepoint 1200 ∷ Decline 1200 3 (subtask 0 0) ∷ Decline 1300 4 (subtask 0 0) ∷ Dispose 4 ∷ Take 9 ∷ []
    ) ≡ (
    Done (reply.SavepointTriggered 1) ∷ Done (reply.Ticked 1 end.HeldInterval) ∷ Done (reply.AckLate 1)
    ∷ Done (reply.SavepointTriggered 2) ∷ Done (reply.Ticked 0 (end.Triggered 3)) ∷ Done (reply.DeclineAborted 0)
    ∷ Done (reply.SavepointTriggered 4) ∷ Done (reply.DeclineFailed 0) ∷ Done reply.DeclineLate ∷ Refused (refusal.NoSuchSavepoint)
    ∷ Done (reply.Taken (5 ∷ [])) ∷ []
    )
unfolding step_computes
savepoints_expire_without_failure = refl

-- uses per subtask
pub uses_per_subtask : answers (opening usual (2 ∷ [])) (
    Tick 1000 ∷ Ack 1000 1 (subtask 0 0) (7 ∷ []) [] ∷ Ack 1000 1 (subtask 0 1) (8 ∷ []) [] ∷ Tick 2000
    ∷ Ack 2000 2 (subtask 0 0) [] (7 ∷ []) ∷ Count 7 ∷ Ack 2000 2 (subtask 0 1) [] (7 ∷ []) ∷ Count 7 ∷ Take 9 ∷ []
    ) ≡ (
    Done (reply.Ticked 0 (end.Triggered 1)) ∷ Done (reply.AckPending 1) ∷ Done (reply.AckCompleted 0 0)
    ∷ Done (reply.Ticked 0 (end.Triggered 2)) ∷ Done (reply.AckPending 1) ∷ Done (reply.Counted 7 3) ∷ Done (reply.AckCompleted 1 1)
    ∷ Done (reply.Counted 7 2) ∷ Done (reply.Taken (8 ∷ [])) ∷ []
    )
unfolding step_computes
uses_per_subtask = refl

-- what counts as a failure
pub what_counts_as_a_failure : answers (opening (record usual { at_once = 2; tolerable = 1 }) (1 ∷ [])) (
    Tick 1000 ∷ Decline 1001 1 (subtask 0 0) ∷ Tick 2000 ∷ Tick 3000 ∷ Ack 3000 3 (subtask 0 0) (31 ∷ []) []
    ∷ Decline 3000 2 (subtask 0 0) ∷ Tick 4000 ∷ Decline 4000 4 (subtask 0 0) ∷ Tick 5000 ∷ Decline 5000 5 (subtask 0 0)
    ∷ Restore 6000 target.Latest None ∷ []
    ) ≡ (
    Done (reply.Ticked 0 (end.Triggered 1)) ∷ Done (reply.DeclineAborted 0) ∷ Done (reply.Ticked 0 (end.Triggered 2))
    ∷ Done (reply.Ticked 0 (end.Triggered 3)) ∷ Done (reply.AckCompleted 1 0) ∷ Done reply.DeclineLate
    ∷ Done (reply.Ticked 0 (end.Triggered 4)) ∷ Done (reply.DeclineAborted 0) ∷ Done (reply.Ticked 0 (end.Triggered 5))
    ∷ Done (reply.DeclineFailed 0) ∷ Done (reply.Restored (choice.Checkpoint 3) 0) ∷ []
    )
unfolding step_computes
what_counts_as_a_failure = refl

-- the last number
pub last_number : answers (opened (record { config = usual; shape = 1 ∷ []; start = 0; first = 2 ^ 62 - 1 })) (
    Tick 1000 ∷ Ack 1000 4611686018427387903 (subtask 0 0) (1 ∷ []) [] ∷ Tick 2000 ∷ Savepoint 2000 ∷ []
    ) ≡ (
    Done (reply.Ticked 0 (end.Triggered 4611686018427387903)) ∷ Done (reply.AckCompleted 0 0)
    ∷ Refused (refusal.IdsUsedUp) ∷ Refused (refusal.IdsUsedUp) ∷ []
    )
unfolding step_computes
last_number = refl

-- a checkpoint now: whatever the interval, but not one more than may be pending; the next tick counts from it
pub checkpoint_now : answers (opening usual (1 ∷ [])) (
    Trigger 100 ∷ Trigger 200 ∷ Ack 200 1 (subtask 0 0) (1 ∷ []) [] ∷ Trigger 300 ∷ Ack 300 2 (subtask 0 0) (2 ∷ []) []
    ∷ Tick 1299 ∷ Tick 1300 ∷ Cancel 1400 ∷ Trigger 1500 ∷ Trigger (2 ^ 62) ∷ []
    ) ≡ (
    Done (reply.Ticked 0 (end.Triggered 1)) ∷ Refused refusal.AtOnce ∷ Done (reply.AckCompleted 0 0)
    ∷ Done (reply.Ticked 0 (end.Triggered 2)) ∷ Done (reply.AckCompleted 1 1) ∷ Done (reply.Ticked 0 end.HeldInterval)
    ∷ Done (reply.Ticked 0 (end.Triggered 3)) ∷ Done (reply.Cancelled 2 1) ∷ Refused refusal.NotRunning ∷ Refused refusal.MomentTooLarge ∷ []
    )
unfolding step_computes
checkpoint_now = refl

-- other settings: three checkpoints are retained, then one; the interval is longer, then shorter; two are pending, and one may be
pub other_settings : answers (opening (record usual { retained = 3; at_once = 2 }) (1 ∷ [])) (
    Trigger 10 ∷ Ack 10 1 (subtask 0 0) (1 ∷ []) [] ∷ Trigger 20 ∷ Ack 20 2 (subtask 0 0) (2 ∷ []) [] ∷ Trigger 30 ∷ Ack 30 3 (subtask 0 0) (3 ∷ []) []
    ∷ Configure 40 (record usual { interval = 9000; retained = 2; at_once = 2 }) ∷ Tick 1030 ∷ Tick 2030 ∷ Trigger 2040
    ∷ Configure 2050 (record usual { interval = 500 }) ∷ Decline 2050 4 (subtask 0 0) ∷ Restore 2060 target.Latest None
    ∷ Configure 2070 (record usual { interval = 500 }) ∷ Tick 2569 ∷ Tick 2570 ∷ Take 9 ∷ []
    ) ≡ (
    Done (reply.Ticked 0 (end.Triggered 1)) ∷ Done (reply.AckCompleted 0 0) ∷ Done (reply.Ticked 0 (end.Triggered 2)) ∷ Done (reply.AckCompleted 0 0)
    ∷ Done (reply.Ticked 0 (end.Triggered 3)) ∷ Done (reply.AckCompleted 0 0)
    ∷ Done (reply.Configured 1 1) ∷ Done (reply.Ticked 0 (end.Triggered 4)) ∷ Done (reply.Ticked 0 end.HeldInterval) ∷ Done (reply.Ticked 0 (end.Triggered 5))
    ∷ Refused refusal.AtOnce ∷ Done (reply.DeclineFailed 0) ∷ Done (reply.Restored (choice.Checkpoint 3) 0)
    ∷ Done (reply.Configured 1 1) ∷ Done (reply.Ticked 0 end.HeldInterval) ∷ Done (reply.Ticked 0 (end.Triggered 6)) ∷ Done (reply.Taken (1 ∷ 2 ∷ [])) ∷ []
    )
unfolding step_computes
other_settings = refl
