-- The acknowledgements that a task can be ordered to make.
use Rattle.std.specs.Prelude.{◌≡◌, Bool, true, false, None}
use Rattle.ckpt_ids.specs.declared.call.Call.{Call}
use Rattle.ckpt_ids.specs.declared.call.Call.TheVariants.{Ack}
use Rattle.ckpt_model.specs.Refusals.{moment_of, moment_too_large, repeated_file, too_many_files}

abbrev pub is_ack : Call → Bool
is_ack (Ack now id subtask fresh reused) = true
is_ack call = false

-- an acknowledgement that no coordinator refuses for its moment, for the number of its files, or for a repeated file
pub record IsOrder (call : Call) : Type 0 where
  pub ack : is_ack call ≡ true
  pub moment : moment_too_large (moment_of call) ≡ None
  pub few : too_many_files call ≡ None
  pub distinct : repeated_file call ≡ None
