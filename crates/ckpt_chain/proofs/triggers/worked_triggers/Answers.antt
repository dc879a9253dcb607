-- Answers the goals of `worked_triggers`.
use Rattle.ckpt_chain.proofs.Names.{inl, inr, refl, is_job}
use Rattle.ckpt_chain.proofs.WorkedTriggering.{are_events, are_triggered}
use Rattle.ckpt_chain.proofs.triggers.worked_triggers.Goals as goal

pub returns : goal.returns
returns c = record { is_job = is_job; are_events = are_events; are_triggered = are_triggered; is_task = inr (inl refl); acknowledged = inl refl }
