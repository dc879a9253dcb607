-- The chain: restarts that were told, to records whose acknowledgements may be told by term, of tasks that may be in loops.
use Rattle.ckpt_chain.proofs.Names.{List, ◌∙◌, Machine, AreEvents, IsWell, AreTurns, Turn, World, synced, world, groups_durable, Stand, AttemptTold, attempts, Plan, AreAttempts, Attempt}
use Rattle.ckpt_chain.proofs.Names.{History, Job, AreLast, Sink, published_once, LedgerPublishesOnce, ToldExactlyOnce, ToldIsSeamless, ℕ, [], ◌∷◌, subst, Event, IsJob, States, network}
use Rattle.ckpt_chain.proofs.Names.{restored, loops_make_history, IsHistoryOfLoops, Loops, LoopsAttempt, attempts_of, history_of, AreGiven, SinkAttempt, loops_of, AcceptsTold, AreToldLoops}
use Rattle.ckpt_chain.proofs.Names.{ToldLoopsAreSeamless, ToldSinkGivesOnce, AcknowledgesCuts, AreToldRestarts, SubtaskId, HasCut, Network, AcknowledgesInTerm, AreTermRestarts}
use Rattle.ckpt_chain.proofs.Names.{TermsAreSeamless, AreTermLoops, HasToldOf, TellsInTerm, TermLoopsAreSeamless, NeverGoesBack}
use Rattle.ckpt_chain.proofs.Seamless.{agrees, are_attempts, seamless}
use Rattle.ckpt_chain.proofs.Telling.{are_last, are_restarts, its_events, restored_with}
use Rattle.ckpt_chain.proofs.Terms.{in_term}
use Rattle.ckpt_ledger.proofs.Restarting as ledger
use Rattle.ckpt_task.proofs.SinkGiving as sinks

as_told : (m : Machine) (turns : List Turn) (job : Job) (tried : List Attempt) → IsWell m → AreTurns turns → NeverGoesBack m (synced (world m turns)) → AreToldRestarts m (world m turns) job tried
    → AreAttempts job tried × AreLast tried
as_told m turns job tried i are never told =
    let w : World = world m turns in
    let events : AreEvents (synced w) = its_events m turns are in
    let stand : Stand m (synced w) w.told = (groups_durable m turns).told in
    (are_attempts m job tried i (are_restarts m w job tried i events stand told), are_last m w job tried i events never stand told)

pub told_is_seamless : (m : Machine) (turns : List Turn) (job : Job) (tried : List Attempt) (h : History) → IsWell m → AreTurns turns → ToldIsSeamless m turns job tried h
told_is_seamless m turns job tried h i are is never told k = let both = as_told m turns job tried i are never told in seamless job tried h is both.0 both.1 k

pub told_exactly_once : (m : Machine) (turns : List Turn) (job : Job) (plan : Plan) (tried : List Attempt) → IsWell m → AreTurns turns → ToldExactlyOnce m turns job plan tried
told_exactly_once m turns job plan tried i are is only never told = let both = as_told m turns job tried i are never told in agrees job plan tried is only both.0 both.1

pub ledger_publishes_once : (m : Machine) (turns : List Turn) (job : Job) (sink : Sink) (ones : List AttemptTold) → IsWell m → AreTurns turns → LedgerPublishesOnce m turns job sink ones
ledger_publishes_once m turns job sink ones i are is never told has all =
    let both = as_told m turns job (attempts ones) i are never told in
    ledger.publishes_over_restarts job sink ones both.0 both.1 has all ∙ published_once job (attempts ones) sink is both.0 both.1 has

-- RECORDS WHOSE ACKNOWLEDGEMENTS WERE ASKED FOR IN THEIR TERMS

pub acknowledges_cuts : (n : ℕ) (m : Machine) (log : List Event) (w : Network) → IsWell m → AreEvents log → AcknowledgesInTerm n m log w → AcknowledgesCuts n m log w
acknowledges_cuts n m log w i are asked = in_term (λ (s : SubtaskId). HasCut n (w.task s)) n m log i are asked

terms_told : (m : Machine) (w : World) (job : Job) (attempts : List Attempt) → IsWell m → AreEvents (synced w) → AreTermRestarts m w job attempts → AreToldRestarts m w job attempts
terms_told m w job [] i are told = tt
terms_told m w job (attempt ∷ attempts) i are told =
    let its : Network = network job (restored job attempts) attempt.history in (
      terms_told m w job attempts i are told.0,
      told.1,
      restored_with (AcknowledgesInTerm attempt.record_id m (synced w) its) (AcknowledgesCuts attempt.record_id m (synced w) its) attempt.record_id attempt.earlier w job
          (acknowledges_cuts attempt.record_id m (synced w) its i are) told.2,
    )

pub terms_are_seamless : (m : Machine) (turns : List Turn) (job : Job) (attempts : List Attempt) (h : History) → IsWell m → AreTurns turns → TermsAreSeamless m turns job attempts h
terms_are_seamless m turns job attempts h i are is never told k =
    told_is_seamless m turns job attempts h i are is never (terms_told m (world m turns) job attempts i (its_events m turns are) told) k

-- TASKS IN LOOPS, AND THEIR SINKS

told_cuts : (id : ℕ) (m : Machine) (events : List Event) (job : Job) (from : States) (e : Loops) → IsHistoryOfLoops job from e
    → AcceptsTold id m events job e → AcknowledgesCuts id m events (network job from (history_of e))
told_cuts id m events job from e is told a has = is.cuts a.subtask id (told a has).0 (told a has).1

pub loops_told : (m : Machine) (w : World) (job : Job) (ones : List LoopsAttempt) → IsJob job → AreToldLoops m w job ones → AreToldRestarts m w job (attempts_of ones)
loops_told m w job [] is told = tt
loops_told m w job (one ∷ ones) is told =
    let from : States = restored job (attempts_of ones) in
    let history = loops_make_history job from one.loops is told.1 in (
      loops_told m w job ones is told.0,
      history.is_history,
      restored_with (AcceptsTold one.record_id m (synced w) job one.loops) (AcknowledgesCuts one.record_id m (synced w) (network job from (history_of one.loops))) one.record_id one.earlier w job
          (told_cuts one.record_id m (synced w) job from one.loops history) told.2,
    )

pub told_loops_are_seamless : (m : Machine) (turns : List Turn) (job : Job) (ones : List LoopsAttempt) (e : Loops) → IsWell m → AreTurns turns → ToldLoopsAreSeamless m turns job ones e
told_loops_are_seamless m turns job ones e i are is never told looping =
    told_is_seamless m turns job (attempts_of ones) (history_of e) i are is never (loops_told m (world m turns) job ones is told)
    (loops_make_history job (restored job (attempts_of ones)) e is looping).is_history

pub told_sink_gives_once : (m : Machine) (turns : List Turn) (job : Job) (sink : Sink) (ks : List SinkAttempt) → IsWell m → AreTurns turns → ToldSinkGivesOnce m turns job sink ks
told_sink_gives_once m turns job sink ks i are is never told has have =
    let tried : List Attempt = attempts_of (loops_of ks) in
    let both = as_told m turns job tried i are never (loops_told m (world m turns) job (loops_of ks) is told) in
    subst (AreGiven job sink ks have) (published_once job tried sink is both.0 both.1 has) (sinks.sink_gives_over_restarts job sink ks is has both.1 have)

-- TASKS IN LOOPS, IN THEIR TERMS

term_loops_told : (m : Machine) (w : World) (job : Job) (ones : List LoopsAttempt) → IsWell m → AreEvents (synced w) → AreTermLoops m w job ones → AreToldLoops m w job ones
term_loops_told m w job [] i are told = tt
term_loops_told m w job (one ∷ ones) i are told = (
  term_loops_told m w job ones i are told.0,
  told.1,
  restored_with (TellsInTerm one.record_id m (synced w) job one.loops) (AcceptsTold one.record_id m (synced w) job one.loops) one.record_id one.earlier w job
      (in_term (HasToldOf one.record_id job one.loops) one.record_id m (synced w) i are) told.2,
)

pub term_loops_are_seamless : (m : Machine) (turns : List Turn) (job : Job) (ones : List LoopsAttempt) (e : Loops) → IsWell m → AreTurns turns → TermLoopsAreSeamless m turns job ones e
term_loops_are_seamless m turns job ones e i are is never told looping =
    told_loops_are_seamless m turns job ones e i are is never (term_loops_told m (world m turns) job ones i (its_events m turns are) told) looping
