-- What is printed for an answer.
use Rattle.std.specs.Prelude.{ℕ, List, [], ◌∷◌, ◌++◌, flat_map, codes, decimal}
use Rattle.ckpt_ids.specs.declared.reply.TickEnd.{TickEnd}
use Rattle.ckpt_ids.specs.declared.reply.TickEnd.TheVariants as end
use Rattle.ckpt_ids.specs.declared.reply.Choice.{Choice}
use Rattle.ckpt_ids.specs.declared.reply.Choice.TheVariants as choice
use Rattle.ckpt_ids.specs.declared.reply.Reply.{Reply}
use Rattle.ckpt_ids.specs.declared.reply.Reply.TheVariants as reply
use Rattle.ckpt_ids.specs.declared.reply.Refusal.{Refusal}
use Rattle.ckpt_ids.specs.declared.reply.Refusal.TheVariants as refusal
use Rattle.ckpt_ids.specs.declared.reply.Answer.{Answer}
use Rattle.ckpt_ids.specs.declared.reply.Answer.TheVariants.{Done, Refused}
use Rattle.ckpt_answers.specs.MetadataTexts.{metadata_bytes}

-- a space and a number
abbrev pub spaced : ℕ → List ℕ
spaced n = codes " " ++ decimal n

unfoldable pub tick_end_bytes : TickEnd → List ℕ
tick_end_bytes (end.Triggered id) = codes "triggered" ++ spaced id
tick_end_bytes end.HeldInterval = codes "held interval"
tick_end_bytes end.HeldAtOnce = codes "held at-once"
tick_end_bytes end.HeldPause = codes "held pause"
tick_end_bytes end.Failed = codes "failed"

unfoldable pub choice_bytes : Choice → List ℕ
choice_bytes (choice.Checkpoint id) = codes "checkpoint" ++ spaced id
choice_bytes (choice.Savepoint id) = codes "savepoint" ++ spaced id
choice_bytes choice.Fresh = codes "fresh"

-- the files, or the word for none
unfoldable pub taken_bytes : List ℕ → List ℕ
taken_bytes [] = codes " none"
taken_bytes (f ∷ fs) = flat_map spaced (f ∷ fs)

unfoldable pub reply_bytes : Reply → List ℕ
reply_bytes (reply.Ticked expired end) = codes "tick expired" ++ spaced expired ++ codes " " ++ tick_end_bytes end
reply_bytes (reply.SavepointTriggered id) = codes "savepoint triggered" ++ spaced id
reply_bytes (reply.AckPending missing) = codes "ack pending" ++ spaced missing
reply_bytes (reply.AckCompleted dropped released) = codes "ack completed" ++ spaced dropped ++ spaced released
reply_bytes (reply.AckLate handed_out) = codes "ack late" ++ spaced handed_out
reply_bytes (reply.DeclineAborted released) = codes "decline aborted" ++ spaced released
reply_bytes (reply.DeclineFailed released) = codes "decline failed" ++ spaced released
reply_bytes reply.DeclineLate = codes "decline late"
reply_bytes (reply.Disposed released) = codes "disposed" ++ spaced released
reply_bytes (reply.Restored from released) = codes "restored " ++ choice_bytes from ++ spaced released
reply_bytes (reply.Cancelled dropped released) = codes "cancelled" ++ spaced dropped ++ spaced released
reply_bytes (reply.Taken files) = codes "take" ++ taken_bytes files
reply_bytes (reply.Deleted file) = codes "deleted" ++ spaced file
reply_bytes (reply.Undeleted file) = codes "undeleted" ++ spaced file
reply_bytes (reply.Shown metadata) = metadata_bytes metadata
reply_bytes (reply.Counted file uses) = codes "count" ++ spaced file ++ spaced uses
reply_bytes (reply.Configured dropped released) = codes "configured" ++ spaced dropped ++ spaced released

-- the name of a refusal, and the file that it names
unfoldable pub refusal_bytes : Refusal → List ℕ
refusal_bytes refusal.MomentTooLarge = codes "MomentTooLarge"
refusal_bytes refusal.NotRunning = codes "NotRunning"
refusal_bytes refusal.TooManyFiles = codes "TooManyFiles"
refusal_bytes refusal.RepeatedFile = codes "RepeatedFile"
refusal_bytes refusal.UnknownCheckpoint = codes "UnknownCheckpoint"
refusal_bytes refusal.UnknownSubtask = codes "UnknownSubtask"
refusal_bytes refusal.AlreadyAcknowledged = codes "AlreadyAcknowledged"
refusal_bytes (refusal.NameTaken file) = codes "NameTaken" ++ spaced file
refusal_bytes (refusal.FileGone file) = codes "FileGone" ++ spaced file
refusal_bytes refusal.NoSuchSavepoint = codes "NoSuchSavepoint"
refusal_bytes refusal.InUse = codes "InUse"
refusal_bytes refusal.TooManySavepoints = codes "TooManySavepoints"
refusal_bytes refusal.NotTaken = codes "NotTaken"
refusal_bytes refusal.NoSuchRecord = codes "NoSuchRecord"
refusal_bytes refusal.IdsUsedUp = codes "IdsUsedUp"
refusal_bytes refusal.AtOnce = codes "AtOnce"

-- the text of an answer, with a newline at its end
unfoldable pub answer_bytes : Answer → List ℕ
answer_bytes (Done reply) = reply_bytes reply ++ codes "\n"
answer_bytes (Refused refusal) = codes "refused " ++ refusal_bytes refusal ++ codes "\n"
