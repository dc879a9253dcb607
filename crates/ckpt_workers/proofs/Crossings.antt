-- Shares and reports may go to another thread.
use Rattle.ckpt_workers.proofs.Names.{IsSend, crosses, pass_send, sendable}
use Rattle.ckpt_ids.specs.contracts.call.Call as Call
use Rattle.ckpt_ids.specs.contracts.reply.Answer as Answer
use Rattle.ckpt_workers.specs.contracts.shares.Report as Report
use Rattle.ckpt_workers.specs.contracts.shares.Share as Share

call_send : IsSend Call.the_row
call_send = search (sendable, crosses) depth 80 fits 20000

pub answer_send : IsSend Answer.the_row
answer_send = search (sendable, crosses) depth 80 fits 20000

pub share_send : IsSend Share.the_row
share_send = search (pass_send, call_send, sendable, crosses) depth 80 fits 20000

pub report_send : IsSend Report.the_row
report_send = search (pass_send, answer_send, sendable, crosses) depth 80 fits 20000
