-- Answers the goals of `worked_chain`.
use Rattle.ckpt_chain.proofs.Names.{is_job, again_looping}
use Rattle.ckpt_chain.proofs.Worked.{are_last, are_restarts, are_told, are_turns, in_terms, is_task, is_well, ledger_told, never_goes_back, no_choice, nobody_asks, since}
use Rattle.ckpt_chain.proofs.laws.worked_chain.Goals as goal

pub returns : goal.returns
returns c = record {
  is_well = is_well;
  are_turns = are_turns;
  is_job = is_job;
  never_goes_back = never_goes_back;
  are_told = are_told;
  in_terms = in_terms;
  is_looping = again_looping;
  are_restarts = are_restarts;
  is_task = is_task;
  ledger_told = ledger_told;
  no_choice = no_choice;
  nobody_asks = nobody_asks;
  since = since;
  are_last = are_last;
}
