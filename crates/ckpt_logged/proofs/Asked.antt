-- Lists of what a coordinator was asked.
use Rattle.ckpt_logged.proofs.Names.{◌≡◌, ℕ, List, [], ◌∷◌, ◌++◌, refl, sym, ap, ◌∙◌, Option, Some, None, Call, State, replay, AreCalls, IsSound, step_keeps, FencedCall, Reserve, Forfeit}
use Rattle.ckpt_logged.proofs.Names.{Make, Advance, FenceFault, Machine, Fenced, FencedStepped, core_calls, fenced_step, fenced_replay, passed, AreFencedCalls, IsFencedCall, core_in}
use Rattle.ckpt_logged.proofs.Names.{fence_fault, step_fenced, named_fenced, fenced_step_by, AreEvents, Event, Fence, Named, Plain, IsEvent, IsWell, calls_in, calls_named, event_step}
use Rattle.ckpt_logged.proofs.Names.{events_replay, named_from, reached}
use Rattle.ckpt_model.proofs.Histories.Replays as history
use Rattle.ckpt_terms.specs.declared.machine.Machine.TheVariants as machine

-- one more at the end

pub replay-push : (m : Machine) (events : List Event) (event : Event) → events_replay m (events ++ event ∷ []) ≡ event_step (events_replay m events) event
replay-push m [] event = refl
replay-push m (first ∷ events) event = replay-push (event_step m first) events event

pub events-push : (events : List Event) (event : Event) → AreEvents events → IsEvent event → AreEvents (events ++ event ∷ [])
events-push [] event a e = (e, tt)
events-push (first ∷ events) event a e = (a.0, events-push events event a.1 e)

-- two lists, one after the other

pub replay-append : (m : Machine) (before after : List Event) → events_replay m (before ++ after) ≡ events_replay (events_replay m before) after
replay-append m [] after = refl
replay-append m (event ∷ before) after = replay-append (event_step m event) before after

pub events-split : (before after : List Event) → AreEvents (before ++ after) → AreEvents before × AreEvents after
events-split [] after a = (tt, a)
events-split (event ∷ before) after a = let rest : AreEvents before × AreEvents after = events-split before after a.1 in ((a.0, rest.0), rest.1)

-- what always holds

fence_well : (m : State) (first : ℕ) → IsSound m → (fault : Option FenceFault) → fence_fault (machine.Plain m) first ≡ fault → IsWell (named_from (machine.Plain m) first fault)
fence_well m first i None e = named_fenced m first i e
fence_well m first i (Some why) e = i

step_well : (m : Machine) (event : Event) → IsEvent event → IsWell m → IsWell (event_step m event)
step_well (machine.Plain m) (Plain call) c i = step_keeps m call c i
step_well (machine.Fenced m) (Plain call) c i = step_fenced m (Make 0 call) c i
step_well (machine.Plain m) (Named call) c i = i
step_well (machine.Fenced m) (Named call) c i = step_fenced m call c i
step_well (machine.Plain m) (Fence first) c i = fence_well m first i (fence_fault (machine.Plain m) first) refl
step_well (machine.Fenced m) (Fence first) c i = i

pub replay_well : (m : Machine) (events : List Event) → AreEvents events → IsWell m → IsWell (events_replay m events)
replay_well m [] a i = i
replay_well m (event ∷ events) a i = replay_well (event_step m event) events a.1 (step_well m event a.0 i)

-- the calls that reach the coordinator are a history of it

reach_layer : (m : Fenced) (call : FencedCall) → IsFencedCall call → AreCalls (passed call (fenced_step m call).1) × ((fenced_step m call).0.core ≡ replay m.core (passed call (fenced_step m call).1))
reach_layer m (Reserve term count) c =
    let call : FencedCall = Reserve term count in
    let P : FencedStepped → Type 0 = λ x. AreCalls (passed call x.1) × (x.0.core ≡ replay m.core (passed call x.1)) in
    fenced_step_by m call P (λ _. (tt, refl)) (λ _. (tt, refl))
reach_layer m (Forfeit term names) c =
    let call : FencedCall = Forfeit term names in
    let P : FencedStepped → Type 0 = λ x. AreCalls (passed call x.1) × (x.0.core ≡ replay m.core (passed call x.1)) in
    fenced_step_by m call P (λ _. (tt, refl)) (λ _. (tt, refl))
reach_layer m (Make term its) c =
    let call : FencedCall = Make term its in
    let P : FencedStepped → Type 0 = λ x. AreCalls (passed call x.1) × (x.0.core ≡ replay m.core (passed call x.1)) in
    fenced_step_by m call P (λ _. (tt, refl)) (λ _. ((c, tt), refl))
reach_layer m (Advance now term first) c =
    let call : FencedCall = Advance now term first in
    let P : FencedStepped → Type 0 = λ x. AreCalls (passed call x.1) × (x.0.core ≡ replay m.core (passed call x.1)) in
    fenced_step_by m call P (λ _. (tt, refl)) (λ _. ((tt, tt), refl))

fence_core : (m : Machine) (first : ℕ) (fault : Option FenceFault) → core_in (named_from m first fault) ≡ core_in m
fence_core m first None = refl
fence_core m first (Some why) = refl

reach : (m : Machine) (event : Event) → IsEvent event → AreCalls (reached m event) × (core_in (event_step m event) ≡ replay (core_in m) (reached m event))
reach (machine.Plain m) (Plain call) c = ((c, tt), refl)
reach (machine.Fenced m) (Plain call) c = reach_layer m (Make 0 call) c
reach (machine.Plain m) (Named call) c = (tt, refl)
reach (machine.Fenced m) (Named call) c = reach_layer m call c
reach m (Fence first) c = (tt, fence_core m first (fence_fault m first))

pub reaches : (m : Machine) (events : List Event) → AreEvents events → AreCalls (calls_in m events) × (core_in (events_replay m events) ≡ replay (core_in m) (calls_in m events))
reaches m [] a = (tt, refl)
reaches m (event ∷ events) a =
    let n : Machine = event_step m event in
    let one = reach m event a.0 in
    let rest = reaches n events a.1 in (
      history.calls-join (reached m event) (calls_in n events) one.0 rest.0,
      rest.1 ∙ ap (λ (k : State). replay k (calls_in n events)) one.1 ∙ sym (history.replay-append (core_in m) (reached m event) (calls_in n events)),
    )

-- where there are names, it is the replay of calls of the layer
pub replay_named : (m : Fenced) (events : List Event) → AreEvents events
    → AreFencedCalls (calls_named events) × (events_replay (machine.Fenced m) events ≡ machine.Fenced (fenced_replay m (calls_named events)))
replay_named m [] a = (tt, refl)
replay_named m (Plain call ∷ events) a = let rest = replay_named (fenced_step m (Make 0 call)).0 events a.1 in ((a.0, rest.0), rest.1)
replay_named m (Named call ∷ events) a = let rest = replay_named (fenced_step m call).0 events a.1 in ((a.0, rest.0), rest.1)
replay_named m (Fence first ∷ events) a = replay_named m events a.1

-- and these are the calls that reach the coordinator
pub reached_named : (m : Fenced) (events : List Event) → calls_in (machine.Fenced m) events ≡ core_calls m (calls_named events)
reached_named m [] = refl
reached_named m (Plain call ∷ events) = let s : FencedStepped = fenced_step m (Make 0 call) in ap (λ (xs : List Call). passed (Make 0 call) s.1 ++ xs) (reached_named s.0 events)
reached_named m (Named call ∷ events) = let s : FencedStepped = fenced_step m call in ap (λ (xs : List Call). passed call s.1 ++ xs) (reached_named s.0 events)
reached_named m (Fence first ∷ events) = reached_named m events
