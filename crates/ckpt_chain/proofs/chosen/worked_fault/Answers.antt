-- Answers the goals of `worked_fault`.
use Rattle.ckpt_chain.proofs.{Worked.is_task, WorkedSinking.are_failing, WorkedSinking.until}
use Rattle.ckpt_chain.proofs.chosen.worked_fault.Goals as goal

pub returns : goal.returns
returns c = record { are_failing = are_failing; is_task = is_task; until = until }
