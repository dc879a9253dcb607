-- Answers the goals of `write_reply`.
use Rattle.ckpt_answers.proofs.{reply_bytes}
use Rattle.ckpt_answers.proofs.replies.write_reply.Goals as goal

pub returns-in-AckCompleted-clause-text : goal.returns-in-AckCompleted-clause-text
unfolding reply_bytes
returns-in-AckCompleted-clause-text c = rw c.in-AckCompleted.is c.write_two.ensures.text

pub returns-in-DeclineAborted-clause-text : goal.returns-in-DeclineAborted-clause-text
unfolding reply_bytes
returns-in-DeclineAborted-clause-text c = rw c.in-DeclineAborted.is c.write_number-in-DeclineAborted.ensures.text
