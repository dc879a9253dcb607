-- A restart to the coordinator's choice.
use Rattle.ckpt_once.proofs.Names.{◌≡◌, ℕ, ◌≤◌, true, List, ◌∷◌, sym, ap, subst, arith, [], common_steps, ◌==◌, Call, AcknowledgesCuts, Opening, State, choice_of, AreCalls, CanOpen}
use Rattle.ckpt_once.proofs.Names.{id_of_choice, chosen_is_done, calls-split, replay-append, replay_is_sound, Attempt, Job, States, network, restored, ChosenAreLast, WasChosen, WasCompleted}
use Rattle.ckpt_once.proofs.Names.{WasDone}
use Rattle.ckpt_once.proofs.Newer.{choice_is_no_older, found_in, same_choice}
use Rattle.ckpt_ids.specs.declared.reply.Choice.TheVariants as choice
use Rattle.ckpt_model.specs.State.{opened}
use Rattle.ckpt_model.specs.Histories.{replay}

same_id : (m n : ℕ) → (m == n) ≡ true → m ≡ n
same_id m n e = grind (arith, common_steps)

no_older : (n m : ℕ) (o : Opening) (calls : List Call) → CanOpen o → AreCalls calls → choice_of (replay (opened o) calls) ≡ choice.Checkpoint n → WasCompleted m o calls → m ≤ n
no_older n m o calls opens are chosen was = grind (arith, common_steps, calls-split, choice_is_no_older, replay-append, replay_is_sound, same_choice)

was_done : (attempt : Attempt) (o : Opening) (job : Job) (from : States) → CanOpen o → WasChosen attempt o job from → WasDone attempt.record_id o job from attempt.history
was_done attempt o job from opens was =
    let m : State = replay (opened o) was.calls in
    let at = chosen_is_done m attempt.record_id (replay_is_sound o was.calls opens was.are_calls) (ap id_of_choice was.is_choice) in
    let its = found_in (λ r. r.id == attempt.record_id) m.records at.0 at.2 in
    let same : at.0.id ≡ attempt.record_id = same_id at.0.id attempt.record_id its.1 in
    let Acks : ℕ → Type 0 = λ k. AcknowledgesCuts k o was.calls (network job from attempt.history) in
    record {
      calls = was.calls;
      are_calls = was.are_calls;
      done_record = at.0;
      is_live = at.1;
      is_done = at.3;
      is_this = same;
      is_of_job = was.is_of_job at.0 at.2;
      acknowledged = subst Acks (sym same) was.acknowledged;
    }

pub chosen_are_last : (o : Opening) (job : Job) (attempts : List Attempt) → CanOpen o → ChosenAreLast o job attempts
chosen_are_last o job [] opens k = (tt, tt)
chosen_are_last o job (attempt ∷ attempts) opens k =
    let rest = chosen_are_last o job attempts opens k.0 in
    let was = k.2 in (
      (rest.0, k.1, was_done attempt o job (restored job attempts) opens was),
      (rest.1, λ m has. no_older attempt.record_id m o was.calls opens was.are_calls was.is_choice (was.earlier_too m has)),
    )
