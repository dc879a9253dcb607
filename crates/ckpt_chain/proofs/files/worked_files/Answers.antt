-- Answers the goals of `worked_files`.
use Rattle.ckpt_chain.proofs.Names.{is_job}
use Rattle.ckpt_chain.proofs.WorkedStoring.{are_allowed, are_read_back, are_stored, goes_on, never_goes_back}
use Rattle.ckpt_chain.proofs.Worked.{is_well}
use Rattle.ckpt_chain.proofs.files.worked_files.Goals as goal

pub returns : goal.returns
returns c = record {
  is_well = is_well;
  are_stored = are_stored;
  are_allowed = are_allowed;
  is_job = is_job;
  never_goes_back = never_goes_back;
  are_read_back = are_read_back;
  goes_on = goes_on;
}
