-- Engines of such tasks that restart from done records have invisible failures.
use Rattle.ckpt_task.proofs.Names.{common_steps, arith, ℕ, List, ◌∷◌, subst, [], HasCut, AcknowledgesCuts, Call, CanOpen, Opening, restarts_invisible, Attempt, History, Job, States, network}
use Rattle.ckpt_task.proofs.Names.{restored, AreRestarts, WasDone, IsWorking, AcknowledgesSnapped, AreEngines, AreSeamless, WasCompletedBy}
use Rattle.ckpt_task.proofs.{Snapping.snaps_at_cut, Working.makes_history}

pub was_done : (Premise : ℕ → List Call → Type 0) (n : ℕ) (o : Opening) (job : Job) (from : States) (h : History)
    → ((id : ℕ) (calls : List Call) → Premise id calls → AcknowledgesCuts id o calls (network job from h)) → WasCompletedBy Premise n o job → WasDone n o job from h
was_done Premise n o job from h cuts was = grind (arith, common_steps)

snapped_cuts : (o : Opening) (job : Job) (from : States) (h : History) → IsWorking job from h
    → (id : ℕ) (calls : List Call) → AcknowledgesSnapped o job from h id calls → AcknowledgesCuts id o calls (network job from h)
snapped_cuts o job from h works id calls acknowledged a has =
    let one = acknowledged a has in
    let Cut : ℕ → Type 0 = λ m. HasCut m ((network job from h).task a.subtask) in
    subst Cut one.2 (snaps_at_cut job from h a.subtask one.0 works one.1).0

are_restarts : (o : Opening) (job : Job) (attempts : List Attempt) → AreEngines o job attempts → AreRestarts o job attempts
are_restarts o job [] are = tt
are_restarts o job (attempt ∷ attempts) are = (
  are_restarts o job attempts are.0,
  (makes_history job (restored job attempts) attempt.history are.1).is_history,
  was_done (AcknowledgesSnapped o job (restored job attempts) attempt.history) attempt.record_id o job (restored job attempts) attempt.history
      (snapped_cuts o job (restored job attempts) attempt.history are.1) are.2,
)

pub are_seamless : (o : Opening) (job : Job) (attempts : List Attempt) (h : History) → CanOpen o → AreSeamless o job attempts h
are_seamless o job attempts h opens is are last works = grind (arith, common_steps, are_restarts, makes_history, restarts_invisible)
