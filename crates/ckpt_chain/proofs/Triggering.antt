-- A record that a task has cut is one of those that the coordinator gave meanwhile.
use Rattle.ckpt_chain.proofs.Names.{◌≡◌, ℕ, ◌<◌, ◌≤◌, Bool, true, false, List, [], ◌∷◌, ◌++◌, refl, sym, ap, ◌∙◌, subst, inl, inr, ◌⊎◌, ⊎_elim, cond, arith, ◌&&◌, ◌==◌, Option, Some, None}
use Rattle.ckpt_chain.proofs.Names.{and_parts, eqb-true, Call, Answer, Done, SubtaskId, IsIn, same_subtask, same_subtask-Decides, IsIn-append_cases, IsIn-append_left, Alignment, opened}
use Rattle.ckpt_chain.proofs.Names.{Action, Barrier, Ends, GivesUp, Item, Reads, after, answer_to, is_taken, taken, taken_by, Channel, sent_on, taken_from, State, step, along, given_as}
use Rattle.ckpt_chain.proofs.Names.{given_by, next_rises, given_is_next, Machine, core_in, AreEvents, calls_in, events_replay, events-split, reaches, replay-append, By, GivesInOrder}
use Rattle.ckpt_chain.proofs.Names.{History, IsFed, IsHistory, IsJob, Job, States, network, of, Drawn, Emitted, Ended, GivenUp, Offered, Program, acts, actions, aligned, emitted_by, move_in}
use Rattle.ckpt_chain.proofs.Names.{moves_in, sendings, state, taken-append, taken_sendings, history_of, Saved, state_of, under, At, loops_make_history, loops_restore, AreTriggered}
use Rattle.ckpt_chain.proofs.Names.{CutsAreGiven, HasNoEarlier, OrdersAreOf, Tried, asked, numbers_in, saved_by}
use Rattle.ckpt_chain.proofs.{Barriers.came-from_cut, Barriers.came-from_sent, Terms.next_grows}
use Rattle.ckpt_ids.specs.declared.reply.Reply.TheVariants as reply
use Rattle.ckpt_ids.specs.declared.reply.TickEnd.TheVariants as end
use Rattle.ckpt_align.specs.Histories.{replay}
use Rattle.ckpt_model.specs.Histories as model
use Rattle.ckpt_once.specs.Programs.{Turn, told}

-- WHAT WAS TAKEN WAS OFFERED

in_if : (b : Bool) (x item : Item) → IsIn item (cond b (x ∷ []) []) → (b ≡ true) × (item ≡ x)
in_if true x item (inl e) = (refl, e)
in_if true x item (inr none) = absurd none
in_if false x item none = absurd none

in_taken : (i j : ℕ) (is : Bool) (x item : Item) → IsIn item (cond ((j == i) && is) (x ∷ []) []) → Offered j x ≡ Offered i item
in_taken i j is x item h =
    let two = in_if ((j == i) && is) x item h in
    let both = and_parts (j == i) is two.0 in
    ap (λ (k : ℕ). Offered k x) (eqb-true j i both.0) ∙ ap (Offered i) (sym two.1)

none_sent : (i : ℕ) (a : Alignment) (es : List Emitted) (item : Item) → IsIn item (taken i a (sendings es)) → ⊥
none_sent i a es item h = subst (λ (items : List Item). IsIn item items) (taken_sendings i a es) h

offered_by : (i : ℕ) (a : Alignment) (turn : Turn) (es : List Emitted) (item : Item) → IsIn item (taken i a (told turn ++ sendings es)) → turn ≡ Offered i item
offered_by i a (Offered j x) es item h =
    ⊎_elim
    (λ (k : IsIn item (taken_by i a (Reads j x))). in_taken i j (is_taken (answer_to a j x)) x item k)
    (λ (k : IsIn item (taken i (after a (Reads j x)) (sendings es))). absurd (none_sent i (after a (Reads j x)) es item k))
    (IsIn-append_cases item (taken_by i a (Reads j x)) (taken i (after a (Reads j x)) (sendings es)) h)
offered_by i a (GivenUp id) es item h = absurd (none_sent i (after a (GivesUp id)) es item h)
offered_by i a Drawn es item h = absurd (none_sent i a es item h)
offered_by i a Ended es item h = absurd (none_sent i (after a Ends) es item h)

offered : (p : Program) (s : ℕ) (a : Alignment) (turns : List Turn) (i : ℕ) (item : Item) → IsIn item (taken i a (actions p s a turns)) → IsIn (Offered i item) turns
offered p s a [] i item h = absurd h
offered p s a (turn ∷ turns) i item h =
    let before : List Action = actions p s a turns in
    let more : List Action = acts p (state p s (moves_in a turns)) (aligned a turns) turn in
    ⊎_elim
    (λ (k : IsIn item (taken i a before)). inr (offered p s a turns i item k))
    (λ (k : IsIn item (taken i (replay a before) more)).
    inl (sym (offered_by i (replay a before) turn (emitted_by p (state p s (moves_in a turns)) (move_in (aligned a turns) turn)) item k)))
    (IsIn-append_cases item (taken i a before) (taken i (replay a before) more) (subst (λ (items : List Item). IsIn item items) (taken-append i a before more) h))

-- the turn in a history
record IsTurnIn (t : SubtaskId) (turn : Turn) (h : History) : Type 0 where
  event : By Turn
  is_in : IsIn event h
  task : event.task ≡ t
  what : event.what ≡ turn

turn_in_by : (t : SubtaskId) (turn : Turn) (e : By Turn) (h : History) (b : Bool) → (b ≡ true → e.task ≡ t) → IsIn turn (cond b (e.what ∷ of t h) (of t h)) → (IsIn turn (of t h) → IsTurnIn t turn h)
    → IsTurnIn t turn (e ∷ h)
turn_in_by t turn e h true same (inl is) later = record { event = e; is_in = inl refl; task = same refl; what = sym is }
turn_in_by t turn e h true same (inr k) later = let one = later k in record { event = one.event; is_in = inr one.is_in; task = one.task; what = one.what }
turn_in_by t turn e h false same k later = let one = later k in record { event = one.event; is_in = inr one.is_in; task = one.task; what = one.what }

turn_in : (t : SubtaskId) (turn : Turn) (h : History) → IsIn turn (of t h) → IsTurnIn t turn h
turn_in t turn [] k = absurd k
turn_in t turn (e ∷ h) k = turn_in_by t turn e h (same_subtask e.task t) (λ is. (same_subtask-Decides e.task t).0 is) k (λ j. turn_in t turn h j)

-- BARRIERS

barriers_given : (given : List ℕ) (job : Job) (from : States) (h : History) (n : ℕ) → IsHistory job from h → OrdersAreOf given job h → 1 ≤ n
    → (t : SubtaskId) (i : ℕ) → IsIn (Barrier n) (taken i (opened (job.inputs t)) ((network job from h).task t).actions) → IsIn n given
barriers_given given job from [] n k orders one t i took = absurd took
barriers_given given job from (event ∷ h) n k orders one t i took =
    let turn = turn_in t (Offered i (Barrier n)) (event ∷ h) (offered (job.program t) (from t) (opened (job.inputs t)) (of t (event ∷ h)) i (Barrier n) took) in
    ⊎_elim
    (λ (fed : IsFed job turn.event.task i).
    let c : Channel = fed.0 in
    let receiver : c.receiver ≡ t = fed.2 ∙ turn.task in
    let came : IsIn (Barrier n) (taken_from (network job from (event ∷ h)) c) =
    subst (λ (j : ℕ). IsIn (Barrier n) (taken j (opened (job.inputs c.receiver)) ((network job from (event ∷ h)).task c.receiver).actions)) (sym fed.3)
    (subst (λ (s : SubtaskId). IsIn (Barrier n) (taken i (opened (job.inputs s)) ((network job from (event ∷ h)).task s).actions)) (sym receiver) took) in
    let order : GivesInOrder (network job from h) (network job from (event ∷ h)) c = k.2 c fed.1 in
    let sent : IsIn (Barrier n) (sent_on (network job from h) c) =
    subst (λ (items : List Item). IsIn (Barrier n) items) (sym order.1) (IsIn-append_left (Barrier n) (taken_from (network job from (event ∷ h)) c) order.0 came) in
    ⊎_elim
    (λ (zero : 0 ≡ n). absurd (omega arith))
    (λ (took_it : (j : ℕ) × IsIn (Barrier n) (taken j (opened (job.inputs c.sender)) ((network job from h).task c.sender).actions)).
    barriers_given given job from h n k.0 (λ e j m has is. orders e j m (inr has) is) one c.sender took_it.0 took_it.1)
    (came-from_sent n c.output (opened (job.inputs c.sender)) ((network job from h).task c.sender).actions sent))
    (λ (is : IsIn n given). is)
    (orders turn.event i n turn.is_in turn.what)

pub cuts_are_given : (given : List ℕ) (job : Job) (from : States) (h : History) (t : SubtaskId) (n : ℕ) → CutsAreGiven given job from h t n
cuts_are_given given job from h t n is k orders one cut =
    ⊎_elim
    (λ (zero : 0 ≡ n). absurd (omega arith))
    (λ (took : (i : ℕ) × IsIn (Barrier n) (taken i (opened (job.inputs t)) ((network job from h).task t).actions)). barriers_given given job from h n k orders one t took.0 took.1)
    (came-from_cut n (opened (job.inputs t)) ((network job from h).task t).actions cut)

-- NUMBERS

only_given : (n : ℕ) (its : Answer) → IsIn n (given_as its) → given_as its ≡ n ∷ []
only_given n (Done (reply.Ticked expired (end.Triggered id))) (inl e) = ap (λ (k : ℕ). k ∷ []) (sym e)
only_given n (Done (reply.Ticked expired (end.Triggered id))) (inr none) = absurd none
only_given n (Done (reply.SavepointTriggered id)) (inl e) = ap (λ (k : ℕ). k ∷ []) (sym e)
only_given n (Done (reply.SavepointTriggered id)) (inr none) = absurd none
only_given n its h = absurd h

given_between : (s : State) (calls : List Call) (n : ℕ) → IsIn n (along given_by s calls) → (s.next ≤ n) × (n < (model.replay s calls).next)
given_between s [] n h = absurd h
given_between s (call ∷ calls) n h =
    let after_it : State = (step s call).0 in
    let rises : s.next ≤ after_it.next = next_rises s call in
    let grows : after_it.next ≤ (model.replay after_it calls).next = next_grows after_it calls in
    ⊎_elim
    (λ (k : IsIn n (given_by s call)).
    let at = given_is_next s call n (only_given n (step s call).1 k) in
    let first : n ≡ s.next = at.0 in
    let below : n < after_it.next = at.1 in
    let from : s.next ≤ n = omega arith in
    let to : n < (model.replay after_it calls).next = omega arith in
    (from, to))
    (λ (k : IsIn n (along given_by after_it calls)).
    let rest = given_between after_it calls n k in
    let begin : after_it.next ≤ n = rest.0 in
    let from : s.next ≤ n = omega arith in
    (from, rest.1))
    (IsIn-append_cases n (given_by s call) (along given_by after_it calls) h)

-- SNAPSHOTS

none_or_some : (o : Option Saved) → (o ≡ None) ⊎ ((one : Saved) × (o ≡ Some one))
none_or_some None = inl refl
none_or_some (Some one) = inr (one, refl)

some_none : (o : Option Saved) (one : Saved) → o ≡ Some one → o ≡ None → ⊥
some_none o one e k = cc

-- the next number before and after an attempt
abbrev next_at : Machine → List Tried → ℕ
next_at m ks = (core_in (events_replay m (asked ks))).next

next_after : (m : Machine) (ks : List Tried) (k : Tried) → AreEvents k.meanwhile
    → next_at m (k ∷ ks) ≡ (model.replay (core_in (events_replay m (asked ks))) (calls_in (events_replay m (asked ks)) k.meanwhile)).next
next_after m ks k are =
    ap (λ (n : Machine). (core_in n).next) (replay-append m (asked ks) k.meanwhile) ∙ ap (λ (s : State). s.next) (reaches (events_replay m (asked ks)) k.meanwhile are).1

-- a new snapshot is of a record that was given
new_is_given : (m : Machine) (job : Job) (ks : List Tried) (k : Tried) (t : SubtaskId) (n : ℕ) (one : Saved) → IsJob job → AreTriggered m job (k ∷ ks) → IsIn t job.tasks → 1 ≤ n
    → under n (k.loops.looped t).first.saved ≡ None → under n (k.loops.looped t).last.saved ≡ Some one → IsIn n (numbers_in (events_replay m (asked ks)) k.meanwhile)
new_is_given m job ks k t n one is are has from_one none some =
    let task : At = record { state = one.state; alignment = opened (job.inputs t) } in
    let cut = loops_restore job k.from k.loops t n task is are.1 has none (record { state = ap state_of some; opened = refl }) in
    cuts_are_given (numbers_in (events_replay m (asked ks)) k.meanwhile) job k.from (history_of k.loops) t n is (loops_make_history job k.from k.loops is are.1).is_history are.2 from_one cut.0

earlier_below : (m : Machine) (job : Job) (ks : List Tried) (t : SubtaskId) (n : ℕ) (one : Saved) → IsJob job → AreEvents (asked ks) → AreTriggered m job ks → IsIn t job.tasks → 1 ≤ n
    → under n (saved_by ks t) ≡ Some one → n < next_at m ks
earlier_below m job [] t n one is events are has from_one some = absurd cc
earlier_below m job (k ∷ ks) t n one is events are has from_one some =
    let at : Machine = events_replay m (asked ks) in
    let split = events-split (asked ks) k.meanwhile events in
    let next : next_at m (k ∷ ks) ≡ (model.replay (core_in at) (calls_in at k.meanwhile)).next = next_after m ks k split.1 in
    let grows : next_at m ks ≤ (model.replay (core_in at) (calls_in at k.meanwhile)).next = next_grows (core_in at) (calls_in at k.meanwhile) in
    ⊎_elim
    (λ (none : under n (k.loops.looped t).first.saved ≡ None).
    let given = given_between (core_in at) (calls_in at k.meanwhile) n (new_is_given m job ks k t n one is are has from_one none some) in
    let below : n < (model.replay (core_in at) (calls_in at k.meanwhile)).next = given.1 in
    omega arith)
    (λ (first : (x : Saved) × (under n (k.loops.looped t).first.saved ≡ Some x)).
    ⊎_elim
    (λ (none : under n (saved_by ks t) ≡ None). absurd (some_none (under n (k.loops.looped t).first.saved) first.0 first.1 (are.3 t n has none)))
    (λ (before : (x : Saved) × (under n (saved_by ks t) ≡ Some x)).
    let below : n < next_at m ks = earlier_below m job ks t n before.0 is split.0 are.0 has from_one before.1 in
    omega arith)
    (none_or_some (under n (saved_by ks t))))
    (none_or_some (under n (k.loops.looped t).first.saved))

pub has_no_earlier : (m : Machine) (job : Job) (ks : List Tried) (k : Tried) (t : SubtaskId) (n : ℕ) → HasNoEarlier m job ks k t n
has_no_earlier m job ks k t n is events are has from_one acknowledged =
    let at : Machine = events_replay m (asked ks) in
    let split = events-split (asked ks) k.meanwhile events in
    let history = loops_make_history job k.from k.loops is are.1 in
    let given : IsIn n (numbers_in at k.meanwhile) =
    cuts_are_given (numbers_in at k.meanwhile) job k.from (history_of k.loops) t n is history.is_history are.2 from_one (history.cuts t n has acknowledged) in
    let begins : next_at m ks ≤ n = (given_between (core_in at) (calls_in at k.meanwhile) n given).0 in
    ⊎_elim
    (λ (none : under n (saved_by ks t) ≡ None). are.3 t n has none)
    (λ (before : (x : Saved) × (under n (saved_by ks t) ≡ Some x)).
    let below : n < next_at m ks = earlier_below m job ks t n before.0 is split.0 are.0 has from_one before.1 in
    absurd (omega arith))
    (none_or_some (under n (saved_by ks t)))
