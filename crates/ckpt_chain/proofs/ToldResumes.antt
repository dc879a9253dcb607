-- What was told of a job whose checkpoints may overtake.
use Rattle.ckpt_chain.proofs.Names.{List, [], ◌∷◌, ◌∙◌, refl, sym, ap, subst, inl, inr, Acked, IsIn, SubtaskId, Machine, AreEvents, IsWell, AreTurns, Turn, World, synced, world}
use Rattle.ckpt_chain.proofs.Names.{groups_durable, Stand, Job, HasPart, Doings, NeverGoesBack, AreResumes, resumes_invisible, have_parts, was_recorded, acknowledgements_of, begin}
use Rattle.ckpt_chain.proofs.Names.{is_synced, now, AcknowledgesParts, AreToldResumes, ToldResumesAreSeamless}
use Rattle.ckpt_chain.proofs.{Worked.accepted_are, Worked.acked, Worked.of_both, Worked.was_restored, Telling.each_task, Telling.its_events, Telling.none_later}
use Rattle.ckpt_once.specs.WorkedExamples as worked
use Rattle.ckpt_other_cuts.specs.Resumed.{Attempt}
use Rattle.ckpt_other_cuts.specs.WorkedRecorders.{attempt, network}

are_resumes : (m : Machine) (w : World) (job : Job) (its : List Attempt) → IsWell m → AreEvents (synced w) → NeverGoesBack m (synced w) → Stand m (synced w) w.told → AreToldResumes m w job its → AreResumes job its
are_resumes m w job [] i are never stand told = tt
are_resumes m w job (it ∷ its) i are never stand told = (
  are_resumes m w job its i are never stand told.0,
  record {
    recorded = told.1;
    has_parts = each_task (λ (t : SubtaskId). HasPart it.stretch.record_id (it.network.task t)) m (synced w) w it.stretch.record_id it.earlier job i are stand told.2;
    none_later = none_later (AcknowledgesParts it.stretch.record_id m (synced w) it.network) m (synced w) w it.stretch.record_id it.earlier job i are never stand told.2;
  },
)

pub told_resumes_are_seamless : (m : Machine) (turns : List Turn) (job : Job) (its : List Attempt) (doings : Doings) → IsWell m → AreTurns turns → ToldResumesAreSeamless m turns job its doings
told_resumes_are_seamless m turns job its doings i are is never told k =
    let w : World = world m turns in
    let events : AreEvents (synced w) = its_events m turns are in
    resumes_invisible job its doings is (are_resumes m w job its i events never (groups_durable m turns).told told) k

-- The worked example meets the premises.

acknowledges : AcknowledgesParts 1 begin (synced now) network
acknowledges a =
    of_both (λ (one : Acked). HasPart 1 (network.task one.subtask)) (acked worked.source []) (acked worked.adder (5 ∷ [])) (have_parts worked.source (inl refl))
    (have_parts worked.adder (inr (inl refl))) a (acknowledgements_of 1 begin (synced now)) (ap (acknowledgements_of 1 begin) is_synced ∙ accepted_are)

pub worked_told : AreToldResumes begin now worked.job (attempt ∷ [])
worked_told = (tt, was_recorded, was_restored (AcknowledgesParts 1 begin (synced now) network) acknowledges)
