-- The answers that a C program gets: a code, which reply or refusal, and its numbers. `relkvanu.h` names the numbers.
use Rattle.std.specs.Prelude.{ℕ, length}
use Rattle.ckpt_ids.specs.{declared.reply.Choice.Choice, declared.reply.TickEnd.TickEnd, declared.reply.Reply.Reply, declared.reply.Refusal.Refusal}
use Rattle.ckpt_ids.specs.{declared.reply.Answer.TheVariants.Done, declared.reply.Answer.TheVariants.Refused}
use Rattle.ckpt_ids.specs.declared.reply.Choice.TheVariants as choice
use Rattle.ckpt_ids.specs.declared.reply.TickEnd.TheVariants as end
use Rattle.ckpt_ids.specs.declared.reply.Reply.TheVariants as reply
use Rattle.ckpt_ids.specs.declared.reply.Refusal.TheVariants as refusal
use Rattle.ckpt_ids.specs.declared.reply.Answer as ids
use Rattle.ckpt_model.specs.declared.faults.CoreFault.{CoreFault}
use Rattle.ckpt_model.specs.declared.faults.CoreFault.TheVariants as fault
use Rattle.relkvanu.specs.declared.answer.Answer.{Answer}

-- the codes
abbrev pub no_memory : ℕ
no_memory = 2

abbrev pub answer : ℕ → ℕ → ℕ → ℕ → Answer
answer code what a b = record { code = code; what = what; a = a; b = b }

abbrev pub done : ℕ → ℕ → ℕ → Answer
done = answer 0

abbrev pub refused : ℕ → ℕ → Answer
refused what file = answer 1 what file 0

abbrev pub out_of_memory : Answer
out_of_memory = answer no_memory 0 0 0

abbrev pub is_closed : Answer
is_closed = answer 3 0 0 0

abbrev pub bad_argument : ℕ → Answer
bad_argument what = answer 4 what 0 0

-- the bad arguments
abbrev pub already_open : ℕ
already_open = 1

abbrev pub bad_config : ℕ
bad_config = 2

abbrev pub bad_shape : ℕ
bad_shape = 3

abbrev pub bad_moment : ℕ
bad_moment = 4

abbrev pub bad_first : ℕ
bad_first = 5

abbrev pub bad_image : ℕ
bad_image = 7

abbrev pub too_short : ℕ → Answer
too_short needed = answer 5 0 needed 0

-- of two buffers
abbrev pub too_short_for : ℕ → ℕ → Answer
too_short_for first second = answer 5 0 first second

abbrev pub tick_told : ℕ → TickEnd → Answer
tick_told expired (end.Triggered id) = done 1 expired id
tick_told expired end.HeldInterval = done 2 expired 0
tick_told expired end.HeldAtOnce = done 3 expired 0
tick_told expired end.HeldPause = done 4 expired 0
tick_told expired end.Failed = done 5 expired 0

abbrev pub restore_told : Choice → ℕ → Answer
restore_told (choice.Checkpoint id) released = done 14 released id
restore_told (choice.Savepoint id) released = done 15 released id
restore_told choice.Fresh released = done 16 released 0

-- the files and the metadata go into a buffer
abbrev pub reply_told : Reply → Answer
reply_told (reply.Ticked expired end) = tick_told expired end
reply_told (reply.SavepointTriggered id) = done 6 id 0
reply_told (reply.AckPending missing) = done 7 missing 0
reply_told (reply.AckCompleted dropped released) = done 8 dropped released
reply_told (reply.AckLate handed) = done 9 handed 0
reply_told (reply.DeclineAborted released) = done 10 released 0
reply_told (reply.DeclineFailed released) = done 11 released 0
reply_told reply.DeclineLate = done 12 0 0
reply_told (reply.Disposed released) = done 13 released 0
reply_told (reply.Restored from released) = restore_told from released
reply_told (reply.Cancelled dropped released) = done 17 dropped released
reply_told (reply.Taken files) = done 18 (length files) 0
reply_told (reply.Deleted file) = done 19 file 0
reply_told (reply.Undeleted file) = done 20 file 0
reply_told (reply.Shown metadata) = done 21 0 0
reply_told (reply.Counted file uses) = done 22 file uses
reply_told (reply.Configured dropped released) = done 61 dropped released

abbrev pub refusal_told : Refusal → Answer
refusal_told refusal.MomentTooLarge = refused 1 0
refusal_told refusal.NotRunning = refused 2 0
refusal_told refusal.TooManyFiles = refused 3 0
refusal_told refusal.RepeatedFile = refused 4 0
refusal_told refusal.UnknownCheckpoint = refused 5 0
refusal_told refusal.UnknownSubtask = refused 6 0
refusal_told refusal.AlreadyAcknowledged = refused 7 0
refusal_told (refusal.NameTaken file) = refused 8 file
refusal_told (refusal.FileGone file) = refused 9 file
refusal_told refusal.NoSuchSavepoint = refused 10 0
refusal_told refusal.InUse = refused 11 0
refusal_told refusal.TooManySavepoints = refused 12 0
refusal_told refusal.NotTaken = refused 13 0
refusal_told refusal.NoSuchRecord = refused 14 0
refusal_told refusal.IdsUsedUp = refused 15 0
refusal_told refusal.AtOnce = refused 16 0

-- the answer of a coordinator
abbrev pub answer_told : ids.Answer → Answer
answer_told (Done reply) = reply_told reply
answer_told (Refused why) = refusal_told why

abbrev pub fault_told : CoreFault → Answer
fault_told (fault.Refused why) = refusal_told why
fault_told fault.Memory = out_of_memory
