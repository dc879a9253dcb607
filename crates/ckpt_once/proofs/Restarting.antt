-- A done record of a coordinator is one that each task has cut.
use Rattle.ckpt_once.proofs.Names.{common_steps, arith, ℕ, List, ◌∷◌, sym, subst, [], SubtaskId, IsIn, Opening, CanOpen, HasCut, has_cut-from_done, Agree, Plan, written, Attempt}
use Rattle.ckpt_once.proofs.Names.{AreAttempts, HaveCut, History, Job, States, network, run_of_attempts, starts, AreRestarts, ExactlyOnce, RestartsInvisible, WasDone}
use Rattle.ckpt_once.proofs.{Choosing.one_output, Joining.failures_invisible, Joining.is_restored, Publishing.published_is_prefix, Publishing.published_once}

pub have_cut : (n : ℕ) (o : Opening) (job : Job) (from : States) (h : History) → CanOpen o → WasDone n o job from h → HaveCut n job from h
have_cut n o job from h opens was t has =
    let Of : List SubtaskId → Type 0 = λ ts. IsIn t ts in
    let Cut : ℕ → Type 0 = λ m. HasCut m ((network job from h).task t) in
    subst Cut was.is_this (has_cut-from_done o was.calls (network job from h) was.done_record t opens was.are_calls was.is_live was.is_done was.acknowledged (subst Of (sym was.is_of_job) has))

are_attempts : (o : Opening) (job : Job) (attempts : List Attempt) → CanOpen o → AreRestarts o job attempts → AreAttempts job attempts
are_attempts o job [] opens k = grind (arith, common_steps)
are_attempts o job (attempt ∷ attempts) opens k = grind (arith, common_steps, have_cut, are_attempts o job attempts opens k.0, k.1)

pub restarts_invisible : (o : Opening) (job : Job) (attempts : List Attempt) (h : History) → CanOpen o → RestartsInvisible o job attempts h
restarts_invisible o job attempts h opens is are last k = grind (arith, common_steps, are_attempts, failures_invisible, published_is_prefix, published_once)

pub exactly_once : (o : Opening) (job : Job) (plan : Plan) (attempts : List Attempt) → CanOpen o → ExactlyOnce o job plan attempts
exactly_once o job plan attempts opens is only are last run sink r has =
    let attempted = are_attempts o job attempts opens are in
    let before = is_restored job attempts is attempted in
    let AgreeWith : List ℕ → Type 0 = λ xs. Agree xs (written job (starts job) run sink) in
    subst AgreeWith (sym (published_once job attempts sink is attempted last has)) ((one_output job (starts job) plan (run_of_attempts job attempts) run only before.run r).1 sink)
