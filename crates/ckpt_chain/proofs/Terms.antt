-- What is accepted for a record was asked for in the term of its trigger.
use Rattle.ckpt_chain.proofs.Names.{◌≡◌, ℕ, ◌≤◌, Bool, true, false, ◌&&◌, eqb, List, [], ◌∷◌, ◌++◌, if◌then◌else◌, refl, sym, ap, ◌∙◌, subst, append-nil, arith, inl, inr, ◌⊎◌, ⊎_elim}
use Rattle.ckpt_chain.proofs.Names.{and_parts, eqb-true, None, Acked, Call, Ack, SubtaskId, ascending, IsIn, IsIn-append_cases, State, record_of, step, replay, AreCalls, Part, accepted_by}
use Rattle.ckpt_chain.proofs.Names.{ack_of, along, is_ack_taken, IsSound, next_rises, given_is_next, step_keeps, FencedCall, Reserve, Forfeit, Make, Advance, Machine, Fenced, FencedStepped}
use Rattle.ckpt_chain.proofs.Names.{fence, fenced_replay, fenced_step, passed, restart, AreFencedCalls, IsFenced, IsFencedCall, given_in, is_taken_in, core_in, one_term, fenced_on}
use Rattle.ckpt_chain.proofs.Names.{fenced_step_by, AreEvents, Event, Fence, IsEvent, IsWell, Named, Plain, calls_in, event_step, events_replay, named_as, reached, acks_in, events-split}
use Rattle.ckpt_chain.proofs.Names.{reaches, replay_well, adds_none, none_yet, first_or, steps_as, acknowledgements_of, IsAskedInTerm}
use Rattle.ckpt_chain.proofs.{Calls.along-append, Calls.calls-append, Cutting.core_sound}
use Rattle.ckpt_terms.specs.declared.machine.Machine.TheVariants as machine

-- BEFORE THE TRIGGER

pub next_grows : (m : State) (calls : List Call) → m.next ≤ (replay m calls).next
next_grows m [] = omega arith
next_grows m (call ∷ calls) =
    let n : State = (step m call).0 in
    let one : m.next ≤ n.next = next_rises m call in
    let rest : n.next ≤ (replay n calls).next = next_grows n calls in
    omega arith

none_before : (m : State) (calls : List Call) (number : ℕ) → IsSound m → AreCalls calls → (replay m calls).next ≤ number → along (accepted_by number) m calls ≡ []
none_before m [] number s are up = refl
none_before m (call ∷ calls) number s are up =
    let n : State = (step m call).0 in
    let one : m.next ≤ n.next = next_rises m call in
    let rest : n.next ≤ (replay n calls).next = next_grows n calls in
    let under : m.next ≤ number = omega arith in
    ap (λ (xs : List Acked). xs ++ along (accepted_by number) n calls) (adds_none m call number s under)
    ∙ none_before n calls number (step_keeps m call are.0 s) are.1 up

-- THE TRIGGER

none_of_call : (f : Fenced) (call : FencedCall) (number : ℕ) → IsSound f.core → f.core.next ≤ number → along (accepted_by number) f.core (passed call (fenced_step f call).1) ≡ []
none_of_call f (Reserve term count) number s up =
    fenced_step_by f (Reserve term count) (λ (x : FencedStepped). along (accepted_by number) f.core (passed (Reserve term count) x.1) ≡ []) (λ _. refl) (λ _. refl)
none_of_call f (Forfeit term names) number s up =
    fenced_step_by f (Forfeit term names) (λ (x : FencedStepped). along (accepted_by number) f.core (passed (Forfeit term names) x.1) ≡ []) (λ _. refl) (λ _. refl)
none_of_call f (Make term call) number s up =
    fenced_step_by f (Make term call) (λ (x : FencedStepped). along (accepted_by number) f.core (passed (Make term call) x.1) ≡ []) (λ _. refl)
    (λ _. ap (λ (xs : List Acked). xs ++ []) (adds_none f.core call number s up))
none_of_call f (Advance now term first) number s up =
    fenced_step_by f (Advance now term first) (λ (x : FencedStepped). along (accepted_by number) f.core (passed (Advance now term first) x.1) ≡ []) (λ _. refl) (λ _. refl)

none_of_event : (f : Fenced) (event : Event) (number : ℕ) → IsSound f.core → f.core.next ≤ number → along (accepted_by number) f.core (reached (machine.Fenced f) event) ≡ []
none_of_event f (Plain call) number s up = none_of_call f (Make 0 call) number s up
none_of_event f (Named call) number s up = none_of_call f call number s up
none_of_event f (Fence first) number s up = refl

-- it gives the next number
trigger_next : (f : Fenced) (call : FencedCall) (number : ℕ) → given_in (fenced_step f call).1 ≡ number ∷ [] → number ≡ f.core.next
trigger_next f (Reserve term count) number =
    fenced_step_by f (Reserve term count) (λ (x : FencedStepped). given_in x.1 ≡ number ∷ [] → number ≡ f.core.next) (λ why e. absurd cc) (λ _ e. absurd cc)
trigger_next f (Forfeit term names) number =
    fenced_step_by f (Forfeit term names) (λ (x : FencedStepped). given_in x.1 ≡ number ∷ [] → number ≡ f.core.next) (λ why e. absurd cc) (λ _ e. absurd cc)
trigger_next f (Make term call) number =
    fenced_step_by f (Make term call) (λ (x : FencedStepped). given_in x.1 ≡ number ∷ [] → number ≡ f.core.next) (λ why e. absurd cc) (λ _ e. (given_is_next f.core call number e).0)
trigger_next f (Advance now term first) number =
    fenced_step_by f (Advance now term first) (λ (x : FencedStepped). given_in x.1 ≡ number ∷ [] → number ≡ f.core.next) (λ why e. absurd cc)
    (λ _ e. (given_is_next f.core (restart now) number e).0)

-- SINCE THE TRIGGER

-- what is accepted from now on has this term
abbrev HasTerm : ℕ → ℕ → Fenced → Type 0
HasTerm n term f = (its now : ℕ) (p : Part) → is_taken_in (fenced_step f (Make its (ack_of now n p))).1 ≡ true → its ≡ term

abbrev Later : ℕ → ℕ → Fenced → Type 0
Later n term f = (calls : List FencedCall) → AreFencedCalls calls → HasTerm n term (fenced_replay f calls)

-- an acknowledgement that was asked for in this term
abbrev IsAsked : ℕ → ℕ → SubtaskId → FencedCall → Type 0
IsAsked n term s call = (now : ℕ) × (p : Part) × (call ≡ Make term (ack_of now n p)) × (s ≡ p.subtask)

in_if : (b : Bool) (x a : Acked) → IsIn a ((if b then x ∷ [] else []) ++ []) → (b ≡ true) × (a ≡ x)
in_if true x a (inl e) = (refl, e)
in_if true x a (inr none) = absurd none
in_if false x a none = absurd none

ack_asked : (f : Fenced) (its : ℕ) (call : Call) (n term : ℕ) (a : Acked) → HasTerm n term f → fence f (Make its call) ≡ None → IsIn a (accepted_by n f.core call ++ []) → IsAsked n term a.subtask (Make its call)
ack_asked f its (Ack now id subtask fresh reused) n term a terms through h =
    let call : Call = Ack now id subtask fresh reused in
    let p : Part = record { subtask = subtask; fresh = fresh; reused = reused } in
    let is = in_if (eqb id n && is_ack_taken (step f.core call).1) (record { subtask = subtask; files = ascending (fresh ++ reused) }) a h in
    let both = and_parts (eqb id n) (is_ack_taken (step f.core call).1) is.0 in
    let number : id ≡ n = eqb-true id n both.0 in
    let same : call ≡ ack_of now n p = ap (λ k. Ack now k subtask fresh reused) number in
    let taken : is_taken_in (fenced_step f (Make its call)).1 ≡ true = ap (λ (x : FencedStepped). is_taken_in x.1) (fenced_on f (Make its call) through) ∙ both.1 in
    let its_term : its ≡ term = terms its now p (subst (λ (c : Call). is_taken_in (fenced_step f (Make its c)).1 ≡ true) same taken) in
    (now, p, ap (λ c. Make its c) same ∙ ap (λ t. Make t (ack_of now n p)) its_term, ap (λ (x : Acked). x.subtask) is.1)
ack_asked f its call n term a terms through h = absurd h

call_asked : (f : Fenced) (call : FencedCall) (n term : ℕ) (a : Acked) → HasTerm n term f → IsIn a (along (accepted_by n) f.core (passed call (fenced_step f call).1)) → IsAsked n term a.subtask call
call_asked f (Reserve its count) n term a terms =
    let call : FencedCall = Reserve its count in
    fenced_step_by f call (λ (x : FencedStepped). IsIn a (along (accepted_by n) f.core (passed call x.1)) → IsAsked n term a.subtask call) (λ why h. absurd h) (λ _ h. absurd h)
call_asked f (Forfeit its names) n term a terms =
    let call : FencedCall = Forfeit its names in
    fenced_step_by f call (λ (x : FencedStepped). IsIn a (along (accepted_by n) f.core (passed call x.1)) → IsAsked n term a.subtask call) (λ why h. absurd h) (λ _ h. absurd h)
call_asked f (Make its c) n term a terms =
    let call : FencedCall = Make its c in
    fenced_step_by f call (λ (x : FencedStepped). IsIn a (along (accepted_by n) f.core (passed call x.1)) → IsAsked n term a.subtask call) (λ why h. absurd h)
    (λ through h. ack_asked f its c n term a terms through h)
call_asked f (Advance now its first) n term a terms =
    let call : FencedCall = Advance now its first in
    fenced_step_by f call (λ (x : FencedStepped). IsIn a (along (accepted_by n) f.core (passed call x.1)) → IsAsked n term a.subtask call) (λ why h. absurd h) (λ _ h. absurd h)

-- of an event and the events behind it
in_two : (f g : Fenced) (event : Event) (events : List Event) (n : ℕ) (a : Acked) → IsEvent event → event_step (machine.Fenced f) event ≡ machine.Fenced g
    → IsIn a (along (accepted_by n) f.core (calls_in (machine.Fenced f) (event ∷ events)))
    → IsIn a (along (accepted_by n) f.core (reached (machine.Fenced f) event)) ⊎ IsIn a (along (accepted_by n) g.core (calls_in (machine.Fenced g) events))
in_two f g event events n a is same h =
    let first : List Call = reached (machine.Fenced f) event in
    let rest : List Call = calls_in (event_step (machine.Fenced f) event) events in
    let core : replay f.core first ≡ core_in (event_step (machine.Fenced f) event) =
    ap (replay f.core) (sym (append-nil first)) ∙ sym (reaches (machine.Fenced f) (event ∷ []) (is, tt)).1 in
    ⊎_elim
    (λ (k : IsIn a (along (accepted_by n) f.core first)). inl k)
    (λ (k : IsIn a (along (accepted_by n) (replay f.core first) rest)).
    inr (subst (λ (x : Machine). IsIn a (along (accepted_by n) (core_in x) (calls_in x events))) same
    (subst (λ (s : State). IsIn a (along (accepted_by n) s rest)) core k)))
    (IsIn-append_cases a (along (accepted_by n) f.core first) (along (accepted_by n) (replay f.core first) rest)
    (subst (λ (xs : List Acked). IsIn a xs) (along-append (accepted_by n) f.core first rest) h))

-- one of these events asked for it
abbrev OneAsks : ℕ → ℕ → SubtaskId → List Event → Type 0
OneAsks n term s events = (late : Event) × (now : ℕ) × (p : Part) × IsIn late events × (named_as late ≡ Make term (ack_of now n p) ∷ []) × (s ≡ p.subtask)

asks_first : (n term : ℕ) (s : SubtaskId) (call : FencedCall) (event : Event) (events : List Event) → named_as event ≡ call ∷ [] → IsAsked n term s call → OneAsks n term s (event ∷ events)
asks_first n term s call event events is asked = (event, asked.0, asked.1, inl refl, is ∙ ap (λ (c : FencedCall). c ∷ []) asked.2, asked.3)

asks_later : (n term : ℕ) (s : SubtaskId) (event : Event) (events : List Event) → OneAsks n term s events → OneAsks n term s (event ∷ events)
asks_later n term s event events one = (one.0, one.1, one.2, inr one.3, one.4, one.5)

one_asks : (f : Fenced) (events : List Event) (n term : ℕ) (a : Acked) → AreEvents events → Later n term f → IsIn a (along (accepted_by n) f.core (calls_in (machine.Fenced f) events)) → OneAsks n term a.subtask events
one_asks f [] n term a are later h = absurd h
one_asks f (Plain call ∷ events) n term a are later h =
    let g : Fenced = (fenced_step f (Make 0 call)).0 in
    ⊎_elim
    (λ (k : IsIn a (along (accepted_by n) f.core (reached (machine.Fenced f) (Plain call)))).
    asks_first n term a.subtask (Make 0 call) (Plain call) events refl (call_asked f (Make 0 call) n term a (later [] tt) k))
    (λ (k : IsIn a (along (accepted_by n) g.core (calls_in (machine.Fenced g) events))).
    asks_later n term a.subtask (Plain call) events (one_asks g events n term a are.1 (λ calls its. later (Make 0 call ∷ calls) (are.0, its)) k))
    (in_two f g (Plain call) events n a are.0 refl h)
one_asks f (Named call ∷ events) n term a are later h =
    let g : Fenced = (fenced_step f call).0 in
    ⊎_elim
    (λ (k : IsIn a (along (accepted_by n) f.core (reached (machine.Fenced f) (Named call)))).
    asks_first n term a.subtask call (Named call) events refl (call_asked f call n term a (later [] tt) k))
    (λ (k : IsIn a (along (accepted_by n) g.core (calls_in (machine.Fenced g) events))).
    asks_later n term a.subtask (Named call) events (one_asks g events n term a are.1 (λ calls its. later (call ∷ calls) (are.0, its)) k))
    (in_two f g (Named call) events n a are.0 refl h)
one_asks f (Fence first ∷ events) n term a are later h = asks_later n term a.subtask (Fence first) events (one_asks f events n term a are.1 later h)

-- THE LAW

call_is : (event : Event) (call : FencedCall) → named_as event ≡ call ∷ [] → IsEvent event → IsFencedCall call
call_is (Plain its) call is k = subst IsFencedCall (ap (first_or call) is) k
call_is (Named its) call is k = subst IsFencedCall (ap (first_or call) is) k
call_is (Fence first) call is k = absurd cc

pub in_term : (Premise : SubtaskId → Type 0) (n : ℕ) (m : Machine) (log : List Event) → IsWell m → AreEvents log → IsAskedInTerm Premise n m log
    → (a : Acked) → IsIn a (acknowledgements_of n m log) → Premise a.subtask
in_term Premise n m log i are t a has =
    let c : State = core_in m in
    let f : Fenced = t.names in
    let g : Fenced = (fenced_step f t.trigger).0 in
    let split : AreEvents t.before × AreEvents (t.event ∷ t.after) = events-split t.before (t.event ∷ t.after) (subst AreEvents t.is_log are) in
    let reach = reaches m t.before split.0 in
    let well : IsFenced f = subst IsWell t.state (replay_well m t.before split.0 i) in
    let core : replay c (calls_in m t.before) ≡ f.core = sym reach.1 ∙ ap core_in t.state in
    let next : n ≡ f.core.next = trigger_next f t.trigger n t.triggered in
    let same : (replay c (calls_in m t.before)).next ≡ n = ap (λ (s : State). s.next) core ∙ sym next in
    let grows : c.next ≤ (replay c (calls_in m t.before)).next = next_grows c (calls_in m t.before) in
    let up : c.next ≤ n = subst (λ (k : ℕ). c.next ≤ k) same grows in
    let at : f.core.next ≤ n = subst (λ (k : ℕ). f.core.next ≤ k) (sym next) (omega arith) in
    let none : acks_in (record_of c n) ≡ [] = ap acks_in (none_yet c n (core_sound m i) up) in
    let before : along (accepted_by n) c (calls_in m t.before) ≡ [] =
    none_before c (calls_in m t.before) n (core_sound m i) reach.0 (subst (λ (k : ℕ). (replay c (calls_in m t.before)).next ≤ k) same (omega arith)) in
    let parts : along (accepted_by n) c (calls_in m log)
    ≡ along (accepted_by n) c (calls_in m t.before) ++ along (accepted_by n) (replay c (calls_in m t.before)) (calls_in (events_replay m t.before) (t.event ∷ t.after)) =
    ap (λ (events : List Event). along (accepted_by n) c (calls_in m events)) t.is_log
    ∙ ap (along (accepted_by n) c) (calls-append m t.before (t.event ∷ t.after))
    ∙ along-append (accepted_by n) c (calls_in m t.before) (calls_in (events_replay m t.before) (t.event ∷ t.after)) in
    let here : along (accepted_by n) (replay c (calls_in m t.before)) (calls_in (events_replay m t.before) (t.event ∷ t.after))
    ≡ along (accepted_by n) f.core (calls_in (machine.Fenced f) (t.event ∷ t.after)) =
    ap (λ (s : State). along (accepted_by n) s (calls_in (events_replay m t.before) (t.event ∷ t.after))) core
    ∙ ap (λ (x : Machine). along (accepted_by n) f.core (calls_in x (t.event ∷ t.after))) t.state in
    let all : acknowledgements_of n m log ≡ along (accepted_by n) f.core (calls_in (machine.Fenced f) (t.event ∷ t.after)) =
    ap (λ (xs : List Acked). xs ++ along (accepted_by n) c (calls_in m log)) none
    ∙ parts
    ∙ ap (λ (xs : List Acked). xs ++ along (accepted_by n) (replay c (calls_in m t.before)) (calls_in (events_replay m t.before) (t.event ∷ t.after))) before
    ∙ here in
    let first : along (accepted_by n) f.core (reached (machine.Fenced f) t.event) ≡ [] = none_of_event f t.event n well.core at in
    let its : IsFencedCall t.trigger = call_is t.event t.trigger t.asked split.1.0 in
    let later : Later n f.term g = λ calls these term now p taken. one_term f t.trigger calls well its these n term now p t.triggered taken in
    let one : OneAsks n f.term a.subtask t.after =
    ⊎_elim
    (λ (k : IsIn a (along (accepted_by n) f.core (reached (machine.Fenced f) t.event))). absurd (subst (λ (xs : List Acked). IsIn a xs) first k))
    (λ (k : IsIn a (along (accepted_by n) g.core (calls_in (machine.Fenced g) t.after))). one_asks g t.after n f.term a split.1.1 later k)
    (in_two f g t.event t.after n a split.1.0 (steps_as f t.event t.trigger t.asked) (subst (λ (xs : List Acked). IsIn a xs) all has)) in
    subst Premise (sym one.5) (t.in_term one.0 one.1 one.2 one.3 one.4)
