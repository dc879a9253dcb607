-- The calls that may run out of memory. All others, and each refused call, take no memory.
use Rattle.std.specs.Prelude.{Bool, true, false, nat_lt, is_some}
use Rattle.ckpt_ids.specs.declared.call.Call.{Call}
use Rattle.ckpt_ids.specs.declared.call.Call.TheVariants.{Tick, Savepoint, Ack, Restore, Take, Show, Trigger}
use Rattle.ckpt_ids.specs.declared.reply.Answer.{Answer}
use Rattle.ckpt_ids.specs.declared.reply.Answer.TheVariants.{Done, Refused}
use Rattle.ckpt_ids.specs.declared.reply.Reply.{Reply}
use Rattle.ckpt_ids.specs.declared.reply.Reply.TheVariants.{Ticked, AckLate}
use Rattle.ckpt_ids.specs.declared.reply.TickEnd.{TickEnd}
use Rattle.ckpt_ids.specs.declared.reply.TickEnd.TheVariants.{Triggered}
use Rattle.ckpt_model.specs.State.{State}
use Rattle.ckpt_model.specs.Steps.{step}

abbrev pub is_trigger : TickEnd → Bool
is_trigger (Triggered id) = true
is_trigger end = false

-- a tick only if it triggers
abbrev pub tick_wants : Reply → Bool
tick_wants (Ticked expired end) = is_trigger end
tick_wants reply = false

-- a late acknowledgement only if it hands files out
abbrev pub ack_wants : Reply → Bool
ack_wants (AckLate handed) = nat_lt 0 handed
ack_wants reply = true

abbrev pub wants : Call → Reply → Bool
wants (Tick now) reply = tick_wants reply
wants (Savepoint now) reply = true
wants (Ack now id subtask fresh reused) reply = ack_wants reply
wants (Restore now target shape) reply = is_some shape
wants (Take most) reply = true
wants (Show id) reply = true
wants (Trigger now) reply = true
wants call reply = false

abbrev pub answer_wants : Call → Answer → Bool
answer_wants call (Done reply) = wants call reply
answer_wants call (Refused why) = false

-- whether the call may run out of memory in this state
abbrev pub may_want_memory : State → Call → Bool
may_want_memory m call = answer_wants call (step m call).1
