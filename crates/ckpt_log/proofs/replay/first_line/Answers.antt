-- Answers the goals of `first_line`.
use Rattle.ckpt_script.proofs.LineLemmas.{lines_of-last}
use Rattle.ckpt_log.proofs.SplitLemmas.{first_then}
use Rattle.ckpt_log.proofs.replay.first_line.Goals as goal

pub returns-in-Some-clause-lines : goal.returns-in-Some-clause-lines
returns-in-Some-clause-lines c = first_then c.args.text.now c.in-Some.place c.in-Some.ensures

pub returns-in-None-clause-lines : goal.returns-in-None-clause-lines
returns-in-None-clause-lines c = lines_of-last c.args.text.now c.in-None.ensures c.requires
