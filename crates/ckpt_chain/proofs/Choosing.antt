-- Restarts to the coordinator's choice, of tasks in loops.
use Rattle.ckpt_chain.proofs.Names.{◌≡◌, ℕ, List, [], ◌∷◌, sym, ap, subst, ◌==◌, eqb-true, Record, Opening, State, replay, CanOpen, id_of_choice, chosen_is_done, replay_is_sound}
use Rattle.ckpt_chain.proofs.Names.{AreAttempts, Attempt, IsJob, Job, States, restored, AreChosen, Sink, chosen_are_last, found_in, published_once, have_cut, WasCompletedBy}
use Rattle.ckpt_chain.proofs.Names.{AreLoopsAttempts, IsHistoryOfLoops, LoopsAttempt, attempts_of, AreGiven, SinkAttempt, loops_of, loops_make_history, AreChosenLoops, ChosenLoopsAreLast}
use Rattle.ckpt_chain.proofs.Names.{ChosenSinkGivesOnce, LoopsChosen}
use Rattle.ckpt_model.specs.State.{opened}
use Rattle.ckpt_once.specs.Restarts.{AreRestarts}
use Rattle.ckpt_task.specs.Loops.{AcceptsTold}
use Rattle.ckpt_task.proofs.SinkGiving as sinks

pub are_chosen : (o : Opening) (job : Job) (ones : List LoopsAttempt) → IsJob job → AreChosenLoops o job ones → AreChosen o job (attempts_of ones)
are_chosen o job [] is k = tt
are_chosen o job (one ∷ ones) is k =
    let from : States = restored job (attempts_of ones) in
    let was : LoopsChosen o job one = k.2 in
    let history : IsHistoryOfLoops job from one.loops = loops_make_history job from one.loops is k.1 in (
      are_chosen o job ones is k.0,
      history.is_history,
      record {
        calls = was.calls;
        are_calls = was.are_calls;
        is_choice = was.is_choice;
        earlier_too = was.earlier_too;
        is_of_job = was.is_of_job;
        acknowledged = λ a has. let told = was.acknowledged a has in history.cuts a.subtask one.record_id told.0 told.1;
      },
    )

-- the record of the choice
was_completed : (o : Opening) (job : Job) (one : LoopsAttempt) → CanOpen o → LoopsChosen o job one → WasCompletedBy (AcceptsTold o job one.loops) one.record_id o job
was_completed o job one opens was =
    let m : State = replay (opened o) was.calls in
    let at = chosen_is_done m one.record_id (replay_is_sound o was.calls opens was.are_calls) (ap id_of_choice was.is_choice) in
    let same : at.0.id ≡ one.record_id = eqb-true at.0.id one.record_id (found_in (λ (r : Record). r.id == one.record_id) m.records at.0 at.2).1 in
    record {
      calls = was.calls;
      are_calls = was.are_calls;
      done_record = at.0;
      is_live = at.1;
      is_done = at.3;
      is_this = same;
      is_of_job = was.is_of_job at.0 at.2;
      acknowledged = subst (λ (n : ℕ). AcceptsTold o job one.loops n was.calls) (sym same) was.acknowledged;
    }

are_completed : (o : Opening) (job : Job) (ones : List LoopsAttempt) → CanOpen o → AreChosenLoops o job ones → AreLoopsAttempts o job ones
are_completed o job [] opens k = tt
are_completed o job (one ∷ ones) opens k = (are_completed o job ones opens k.0, k.1, was_completed o job one opens k.2)

pub chosen_loops_are_last : (o : Opening) (job : Job) (ones : List LoopsAttempt) → CanOpen o → ChosenLoopsAreLast o job ones
chosen_loops_are_last o job ones opens is k = (are_completed o job ones opens k, (chosen_are_last o job (attempts_of ones) opens (are_chosen o job ones is k)).1)

are_attempts : (o : Opening) (job : Job) (attempts : List Attempt) → CanOpen o → AreRestarts o job attempts → AreAttempts job attempts
are_attempts o job [] opens k = tt
are_attempts o job (attempt ∷ attempts) opens k =
    (are_attempts o job attempts opens k.0, k.1, have_cut attempt.record_id o job (restored job attempts) attempt.history opens k.2)

pub chosen_sink_gives_once : (o : Opening) (job : Job) (sink : Sink) (ks : List SinkAttempt) → CanOpen o → ChosenSinkGivesOnce o job sink ks
chosen_sink_gives_once o job sink ks opens is k has have =
    let tried : List Attempt = attempts_of (loops_of ks) in
    let both = chosen_are_last o job tried opens (are_chosen o job (loops_of ks) is k) in
    let attempted : AreAttempts job tried = are_attempts o job tried opens both.0 in
    subst (AreGiven job sink ks have) (published_once job tried sink is attempted both.1 has) (sinks.sink_gives_over_restarts job sink ks is has both.1 have)
