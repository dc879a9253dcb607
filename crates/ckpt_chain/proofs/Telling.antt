-- What a program was told stands in the synced log: so a restart is to a done record, and to none older than one that it was told of.
use Rattle.ckpt_chain.proofs.Names.{◌≡◌, ℕ, ◌≤◌, true, List, [], ◌∷◌, ◌++◌, sym, ap, ◌∙◌, subst, append_assoc, ⊎_elim, eqb-true, ◌==◌, Option, Some, unwrap_or, Acked, Call, Restore, Answer}
use Rattle.ckpt_chain.proofs.Names.{Done, Choice, IsIn, Record, IsIn-append_cases, IsIn-append_left, IsIn-append_right, SubtaskId, subtasks, HasCut, Network, State, choice_of, record_of}
use Rattle.ckpt_chain.proofs.Names.{step, replay, is_completing, is_accepted, accepted_by, ack_of, along, id_of_choice, IsSound, chosen_is_done, Machine, core_in, machine_settled, AreEvents}
use Rattle.ckpt_chain.proofs.Names.{Event, IsWell, calls_in, event_step, events_replay, acks_in, events-split, reaches, replay_well, AreTurns, Receipt, Turn, World, started, synced, world}
use Rattle.ckpt_chain.proofs.Names.{groups_durable, Stand, stand_at, Attempt, Job, States, network, restored, NoneGoesBack, AreLast, choice_is_no_older, found_in, AcknowledgesCuts}
use Rattle.ckpt_chain.proofs.Names.{AreRestarts, WasDone, acknowledgements_of, AreToldRestarts, Completes, NeverGoesBack, Restores, WasRestored, WasToldOf}
use Rattle.ckpt_chain.proofs.Calls.{along_two, answered_call, answered_step, are_made, never-split, within_are}
use Rattle.ckpt_chain.proofs.{Cutting.core_sound, Cutting.each-from_done, Like.completes_like, Like.moved, Like.restores_like, Like.same_record}
use Rattle.ckpt_ids.specs.declared.call.Target.TheVariants as target
use Rattle.ckpt_ids.specs.declared.reply.Choice.TheVariants as choice
use Rattle.ckpt_ids.specs.declared.reply.Reply.TheVariants as reply
use Rattle.ckpt_model.proofs.Keeping.Restored.{restores}

-- THE LOG

pub its_events : (m : Machine) (turns : List Turn) → AreTurns turns → AreEvents (synced (world m turns))
its_events m turns are =
    let w : World = world m turns in
    (events-split (synced w) w.life.loose (within_are (synced w ++ w.life.loose) w.made (groups_durable m turns).made (are_made (started m) turns are tt))).0

-- of each acknowledgement of a record
abbrev Acknowledged : (SubtaskId → Type 0) → ℕ → Machine → List Event → Type 0
Acknowledged P id m events = (a : Acked) → IsIn a (acknowledgements_of id m events) → P a.subtask

-- acknowledgements stay
pub stay_accepted : (n : ℕ) (m : Machine) (before after : List Event) (a : Acked) → IsIn a (acknowledgements_of n m before) → IsIn a (acknowledgements_of n m (before ++ after))
stay_accepted n m before after a has =
    let had : List Acked = acks_in (record_of (core_in m) n) in
    let first : List Acked = along (accepted_by n) (core_in m) (calls_in m before) in
    let more : List Acked = along (accepted_by n) (replay (core_in m) (calls_in m before)) (calls_in (events_replay m before) after) in
    subst (λ (xs : List Acked). IsIn a (had ++ xs)) (sym (along_two (accepted_by n) m before after))
    (⊎_elim
    (λ (k : IsIn a had). IsIn-append_left a had (first ++ more) k)
    (λ (k : IsIn a first). IsIn-append_right a had (first ++ more) (IsIn-append_left a first more k))
    (IsIn-append_cases a had first has))

-- a beginning of the log has no others
fewer : (P : SubtaskId → Type 0) (id : ℕ) (m : Machine) (before after : List Event) → Acknowledged P id m (before ++ after) → Acknowledged P id m before
fewer P id m before after acks a has = acks a (stay_accepted id m before after a has)

-- A RESTART THAT WAS TOLD

abbrev choice_told : Answer → Choice
choice_told (Done (reply.Restored chosen released)) = chosen
choice_told its = choice.Fresh

-- it was to the choice
pub restored_to : (r : Receipt) (n : ℕ) → Restores r n → id_of_choice (choice_of (core_in r.state)) ≡ Some n
restored_to r n was =
    let m : State = core_in r.state in
    let told = (answered_call r.state was.event (Restore was.now target.Latest was.shape) (Done (reply.Restored was.chosen was.released)) was.asked was.told).1 in
    let gives = (restores m was.now was.shape).latest (ap is_accepted told) in
    let same : choice_of m ≡ was.chosen = sym (ap choice_told gives.1.1) ∙ ap choice_told told in
    ap id_of_choice same ∙ was.is_this

-- the done record to which it was
record Found (P : SubtaskId → Type 0) (n : ℕ) (m : Machine) (job : Job) : Type 0 where
  events : List Event
  are_events : AreEvents events
  done_record : Record
  is_live : IsIn done_record (core_in (events_replay m events)).records
  is_done : done_record.done ≡ true
  is_this : done_record.id ≡ n
  is_of_job : subtasks done_record.shape ≡ job.tasks
  acknowledged : Acknowledged P done_record.id m events

found : (P : SubtaskId → Type 0) (m : Machine) (events : List Event) (w : World) (n : ℕ) (earlier : List ℕ) (job : Job) → IsWell m → AreEvents events → Stand m events w.told
    → WasRestored (Acknowledged P n m events) n earlier w job → Found P n m job
found P m events w n earlier job i are stand was =
    let r : Receipt = was.receipt in
    let at = stand_at machine_settled m events was.before was.later r (subst (Stand m events) was.place stand) in
    let here : Machine = events_replay m at.0 in
    let split : AreEvents at.0 × AreEvents (r.entry ++ at.1) = events-split at.0 (r.entry ++ at.1) (subst AreEvents at.2 are) in
    let its = chosen_is_done (core_in here) n (core_sound here (replay_well m at.0 split.0 i)) (restored_to (moved r here) n (restores_like r here n at.3 was.restores)) in
    let number : its.0.id ≡ n = eqb-true its.0.id n (found_in (λ (one : Record). one.id == n) (core_in here).records its.0 its.2).1 in
    let acks : Acknowledged P n m at.0 = fewer P n m at.0 (r.entry ++ at.1) (subst (λ (xs : List Event). Acknowledged P n m xs) at.2 was.acknowledged) in
    record {
      events = at.0;
      are_events = split.0;
      done_record = its.0;
      is_live = its.1;
      is_done = its.3;
      is_this = number;
      is_of_job = was.is_of_job its.0 (same_record r.state here n at.3 ∙ its.2);
      acknowledged = subst (λ (k : ℕ). Acknowledged P k m at.0) (sym number) acks;
    }

-- so it holds of each task of the job
pub each_task : (P : SubtaskId → Type 0) (m : Machine) (events : List Event) (w : World) (n : ℕ) (earlier : List ℕ) (job : Job) → IsWell m → AreEvents events → Stand m events w.told
    → WasRestored (Acknowledged P n m events) n earlier w job → (t : SubtaskId) → IsIn t job.tasks → P t
each_task P m events w n earlier job i are stand was t has =
    let it = found P m events w n earlier job i are stand was in
    each-from_done P m it.events it.done_record t i it.are_events it.is_live it.is_done it.acknowledged (subst (λ (ts : List SubtaskId). IsIn t ts) (sym it.is_of_job) has)

was_done : (m : Machine) (events : List Event) (w : World) (n : ℕ) (earlier : List ℕ) (job : Job) (from : States) (attempt : Attempt) → IsWell m → AreEvents events → Stand m events w.told
    → WasRestored (AcknowledgesCuts n m events (network job from attempt.history)) n earlier w job → WasDone n m job from attempt.history
was_done m events w n earlier job from attempt i are stand was =
    let net : Network = network job from attempt.history in
    let it = found (λ (t : SubtaskId). HasCut n (net.task t)) m events w n earlier job i are stand was in
    record {
      events = it.events;
      are_events = it.are_events;
      done_record = it.done_record;
      is_live = it.is_live;
      is_done = it.is_done;
      is_this = it.is_this;
      is_of_job = it.is_of_job;
      acknowledged = λ a has. subst (λ (k : ℕ). HasCut k (net.task a.subtask)) (sym it.is_this) (it.acknowledged a has);
    }

-- the premise on acknowledgements may be another one
pub restored_with : (P Q : Type 0) (n : ℕ) (earlier : List ℕ) (w : World) (job : Job) → (P → Q) → WasRestored P n earlier w job → WasRestored Q n earlier w job
restored_with P Q n earlier w job so was = record {
  before = was.before;
  receipt = was.receipt;
  later = was.later;
  place = was.place;
  restores = was.restores;
  earlier_too = was.earlier_too;
  is_of_job = was.is_of_job;
  acknowledged = so was.acknowledged;
}

-- A RECORD THAT WAS TOLD TO BE COMPLETED, AND A RESTART THAT WAS TOLD LATER

newest_is : (newest n : ℕ) (chosen : Choice) → chosen ≡ choice.Checkpoint newest → id_of_choice chosen ≡ Some n → newest ≡ n
newest_is newest n chosen e is = ap (λ (o : Option ℕ). unwrap_or o newest) (sym (ap id_of_choice e) ∙ is)

no_older : (m : Machine) (events : List Event) (us vs ys : List Receipt) (x r : Receipt) (k n : ℕ) → IsWell m → AreEvents events → NeverGoesBack m events
    → Stand m events (us ++ (x ∷ (vs ++ r ∷ ys))) → Completes x k → Restores r n → k ≤ n
no_older m events us vs ys x r k n i are never stand completes restores =
    let at = stand_at machine_settled m events us (vs ++ r ∷ ys) x stand in
    let here : Machine = events_replay m at.0 in
    let begin : Machine = events_replay here x.entry in
    let next = stand_at machine_settled begin at.1 vs ys r at.4 in
    let last : Machine = events_replay begin next.0 in
    let completed : Completes (moved x here) k = completes_like x here k at.3 completes in
    let event : Event = completed.event in
    let first : AreEvents at.0 × AreEvents (x.entry ++ at.1) = events-split at.0 (x.entry ++ at.1) (subst AreEvents at.2 are) in
    let second : AreEvents x.entry × AreEvents at.1 = events-split x.entry at.1 first.1 in
    let third : AreEvents next.0 × AreEvents (r.entry ++ next.1) = events-split next.0 (r.entry ++ next.1) (subst AreEvents next.2 second.1) in
    let one : AreEvents (event ∷ []) = subst AreEvents completed.entry second.0 in
    let sound : IsSound (core_in here) = core_sound here (replay_well m at.0 first.0 i) in
    let call : Call = ack_of completed.now k completed.part in
    let told : Answer = Done (reply.AckCompleted completed.dropped completed.released) in
    let its = answered_call here event call told completed.asked completed.told in
    let after : core_in (event_step here event) ≡ (step (core_in here) call).0 = answered_step here event call told one.0 completed.asked completed.told in
    let entered : begin ≡ event_step here event = ap (events_replay here) completed.entry in
    let start : core_in begin ≡ (step (core_in here) call).0 = ap core_in entered ∙ after in
    let never_here : NeverGoesBack here (x.entry ++ at.1) =
    (never-split m at.0 (x.entry ++ at.1) first.0 (subst (NeverGoesBack m) at.2 never)).1 in
    let never_since : NeverGoesBack begin at.1 =
    (never-split here x.entry at.1 second.0 never_here).1 in
    let never_between : NeverGoesBack begin next.0 = (never-split begin next.0 (r.entry ++ next.1) third.0 (subst (NeverGoesBack begin) next.2 never_since)).0 in
    let calls : List Call = calls_in begin next.0 in
    let between = reaches begin next.0 third.0 in
    let newest = choice_is_no_older (core_in here) completed.now k completed.part calls sound (tt, between.0) (ap is_completing its.1)
    (λ (its_record : Record) found. completed.checkpoint its_record (ap (λ (j : State). record_of j k) after ∙ found))
    (subst (λ (j : State). NoneGoesBack j calls) start never_between) in
    let moves : replay (core_in begin) calls ≡ replay (step (core_in here) call).0 calls = ap (λ (j : State). replay j calls) start in
    let now : core_in last ≡ replay (step (core_in here) call).0 calls = between.1 ∙ moves in
    let same : newest.0 ≡ n = newest_is newest.0 n (choice_of (core_in last)) (ap choice_of now ∙ newest.1) (restored_to (moved r last) n (restores_like r last n next.3 restores)) in
    subst (λ (j : ℕ). k ≤ j) same newest.2

pub none_later : (Premise : Type 0) (m : Machine) (events : List Event) (w : World) (n : ℕ) (earlier : List ℕ) (job : Job) → IsWell m → AreEvents events → NeverGoesBack m events → Stand m events w.told
    → WasRestored Premise n earlier w job → (k : ℕ) → IsIn k earlier → k ≤ n
none_later Premise m events w n earlier job i are never stand was k has =
    let of : WasToldOf k was.before = was.earlier_too k has in
    let place : w.told ≡ of.before ++ (of.receipt ∷ (of.later ++ was.receipt ∷ was.later)) =
    was.place ∙ ap (λ (xs : List Receipt). xs ++ was.receipt ∷ was.later) of.place ∙ append_assoc of.before (of.receipt ∷ of.later) (was.receipt ∷ was.later) in
    no_older m events of.before of.later was.later of.receipt was.receipt k n i are never (subst (Stand m events) place stand) of.completes was.restores

-- ATTEMPTS

pub are_restarts : (m : Machine) (w : World) (job : Job) (attempts : List Attempt) → IsWell m → AreEvents (synced w) → Stand m (synced w) w.told → AreToldRestarts m w job attempts → AreRestarts m job attempts
are_restarts m w job [] i are stand told = tt
are_restarts m w job (attempt ∷ attempts) i are stand told = (
  are_restarts m w job attempts i are stand told.0,
  told.1,
  was_done m (synced w) w attempt.record_id attempt.earlier job (restored job attempts) attempt i are stand told.2,
)

pub are_last : (m : Machine) (w : World) (job : Job) (attempts : List Attempt) → IsWell m → AreEvents (synced w) → NeverGoesBack m (synced w) → Stand m (synced w) w.told → AreToldRestarts m w job attempts → AreLast attempts
are_last m w job [] i are never stand told = tt
are_last m w job (attempt ∷ attempts) i are never stand told = (
  are_last m w job attempts i are never stand told.0,
  none_later (AcknowledgesCuts attempt.record_id m (synced w) (network job (restored job attempts) attempt.history)) m (synced w) w attempt.record_id attempt.earlier job i are never stand told.2,
)
