-- Calls with names from an opening on: those that reach the coordinator are a history of it.
use Rattle.ckpt_chain.proofs.Names.{ℕ, List, [], ◌∷◌, subst, IsIn, Network, Opening, State, FencedCall, core_calls, fenced, AreFencedCalls, CanFence, Plan, Attempt, History, Job, States}
use Rattle.ckpt_chain.proofs.Names.{restored, AreNamedRestarts, NamedExactlyOnce, NamedIsConsistent, NamedRestartsInvisible, WasNamedDone}
use Rattle.ckpt_cuts.proofs.Consistency as cuts
use Rattle.ckpt_terms.proofs.OnceIssued.{history}
use Rattle.ckpt_once.proofs.Restarting as once
use Rattle.ckpt_once.specs.Restarts.{AreRestarts, WasDone}

pub consistent : (o : Opening) (first : ℕ) (calls : List FencedCall) (w : Network) → CanFence o first → AreFencedCalls calls → NamedIsConsistent o first calls w
consistent o first calls w can are r has =
    let its = history (fenced o first) calls are in
    cuts.consistent o (core_calls (fenced o first) calls) w can.core its.0 r (subst (λ (n : State). IsIn r n.records) its.1 has)

was_done : (n : ℕ) (o : Opening) (first : ℕ) (job : Job) (from : States) (h : History) → WasNamedDone n o first job from h → WasDone n o job from h
was_done n o first job from h was =
    let its = history (fenced o first) was.calls was.are_calls in
    record {
      calls = core_calls (fenced o first) was.calls;
      are_calls = its.0;
      done_record = was.done_record;
      is_live = subst (λ (k : State). IsIn was.done_record k.records) its.1 was.is_live;
      is_done = was.is_done;
      is_this = was.is_this;
      is_of_job = was.is_of_job;
      acknowledged = was.acknowledged;
    }

are_restarts : (o : Opening) (first : ℕ) (job : Job) (attempts : List Attempt) → AreNamedRestarts o first job attempts → AreRestarts o job attempts
are_restarts o first job [] are = tt
are_restarts o first job (attempt ∷ attempts) are =
    (are_restarts o first job attempts are.0, are.1, was_done attempt.record_id o first job (restored job attempts) attempt.history are.2)

pub restarts_invisible : (o : Opening) (first : ℕ) (job : Job) (attempts : List Attempt) (h : History) → CanFence o first → NamedRestartsInvisible o first job attempts h
restarts_invisible o first job attempts h can is are = once.restarts_invisible o job attempts h can.core is (are_restarts o first job attempts are)

pub exactly_once : (o : Opening) (first : ℕ) (job : Job) (plan : Plan) (attempts : List Attempt) → CanFence o first → NamedExactlyOnce o first job plan attempts
exactly_once o first job plan attempts can is only are = once.exactly_once o job plan attempts can.core is only (are_restarts o first job attempts are)
