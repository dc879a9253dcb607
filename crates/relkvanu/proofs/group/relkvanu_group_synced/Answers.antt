-- Answers the goals of `relkvanu_group_synced`.
use Rattle.relkvanu.proofs.Imports.{rules, false, ◌≡◌}
use Rattle.relkvanu.proofs.GroupCalls.{one_sync}
use Rattle.relkvanu.proofs.group.relkvanu_group_synced.Goals as goal

pub returns-clause-syncs : goal.returns-clause-syncs
returns-clause-syncs c p handle held has code =
    let sound : c.args.group.now.has_failed ≡ false = search (rules) in
    one_sync p handle c.args.group.now held has sound
