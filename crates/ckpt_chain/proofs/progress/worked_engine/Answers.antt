-- Answers the goals of `worked_engine`.
use Rattle.ckpt_chain.proofs.Names.{are_last}
use Rattle.ckpt_chain.proofs.WorkedEngines.{acknowledged, are_channels, are_engines, are_saved, is_live, is_restored, is_working, named}
use Rattle.ckpt_chain.proofs.WorkedProgressing.{can_fence}
use Rattle.ckpt_chain.proofs.progress.worked_engine.Goals as goal

pub returns : goal.returns
returns c = record {
  is_live = is_live;
  are_channels = are_channels;
  acknowledged = acknowledged;
  can_fence = can_fence;
  named = named;
  are_engines = are_engines;
  are_last = are_last;
  is_working = is_working;
  are_saved = are_saved;
  is_restored = is_restored;
}
