-- Answers the goals of `worked_progress`.
use Rattle.ckpt_chain.proofs.WorkedProgressing.{are_missing, each, each_named, is_accepted, is_fenced, is_pending, is_sound, waits_too}
use Rattle.ckpt_chain.proofs.progress.worked_progress.Goals as goal

pub returns : goal.returns
returns c = record {
  is_sound = is_sound;
  is_pending = is_pending;
  are_missing = are_missing;
  each = each;
  is_fenced = is_fenced;
  waits_too = waits_too;
  each_named = each_named;
  is_accepted = is_accepted;
}
