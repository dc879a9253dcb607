-- Answers the goals of `work_on_all`.
use Rattle.ckpt_workers.proofs.{crosses, report_send, sendable, share_send}
use Rattle.ckpt_workers.proofs.shares.work_on_all.Goals as goal

pub map_vec-requires-send-J : goal.map_vec-requires-send-J
map_vec-requires-send-J g c = search (share_send, sendable, crosses) depth 20

pub map_vec-requires-send-X : goal.map_vec-requires-send-X
map_vec-requires-send-X g c = search (report_send, sendable, crosses) depth 20
