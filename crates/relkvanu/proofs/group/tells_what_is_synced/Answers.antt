-- Answers the goals of `tells_what_is_synced`.
use Rattle.relkvanu.proofs.GroupPrograms.{tells_what_is_synced}
use Rattle.relkvanu.proofs.group.tells_what_is_synced.Goals as goal

pub returns : goal.returns
returns c = tells_what_is_synced
