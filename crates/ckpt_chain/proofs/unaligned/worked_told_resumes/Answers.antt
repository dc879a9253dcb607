-- Answers the goals of `worked_told_resumes`.
use Rattle.ckpt_chain.proofs.Names.{is_job, is_run_from}
use Rattle.ckpt_chain.proofs.{ToldResumes.worked_told, Worked.are_turns, Worked.is_well, Worked.never_goes_back}
use Rattle.ckpt_chain.proofs.unaligned.worked_told_resumes.Goals as goal

pub returns : goal.returns
returns c = record { is_well = is_well; are_turns = are_turns; is_job = is_job; never_goes_back = never_goes_back; are_told = worked_told; goes_on = is_run_from }
