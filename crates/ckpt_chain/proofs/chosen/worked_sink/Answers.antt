-- Answers the goals of `worked_sink`.
use Rattle.ckpt_chain.proofs.Names.{[], ◌∷◌, is_job, job, loops_of, opening, can_open, attempt}
use Rattle.ckpt_chain.proofs.WorkedSinking.{are_chosen, are_told, have_given, is_looping}
use Rattle.ckpt_chain.proofs.Choosing as choosing
use Rattle.ckpt_chain.proofs.chosen.worked_sink.Goals as goal

pub returns : goal.returns
returns c = record {
  can_open = can_open;
  are_chosen = are_chosen;
  are_last = choosing.are_chosen opening job (loops_of (attempt ∷ [])) is_job are_chosen;
  is_looping = is_looping;
  have_given = have_given;
  are_told = are_told;
}
