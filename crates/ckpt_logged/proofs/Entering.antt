-- One event more, in the list and in the state.
use Rattle.ckpt_logged.proofs.Names.{◌≡◌, ℕ, List, [], ◌∷◌, ◌++◌, sym, ap, ◌∙◌, true, Some, None, Result, Ok, Err, is_ok, IfOk, OnOk, AllocError, Call, FencedAnswer, FencedCall, Machine}
use Rattle.ckpt_logged.proofs.Names.{core_in, fence_fault, first_names, machine_of, machine_step, Event, IsEvent, Fence, Named, Plain, event_step, named_from, named_step, IsChronicle}
use Rattle.ckpt_logged.proofs.Asked.{events-push, replay-push}

pub entered : (now new begin : Machine) (events more : List Event) (event : Event) → IsChronicle (record { now = now; begin = begin; events = events }) → IsEvent event
    → new ≡ event_step now event → more ≡ events ++ event ∷ [] → IsChronicle (record { now = new; begin = begin; events = more })
entered now new begin events more event i e made pushed = record {
  begin = i.begin;
  events = rw pushed (events-push events event i.events e);
  replay = rw pushed (made ∙ ap (λ (m : Machine). event_step m event) i.replay ∙ sym (replay-push begin events event));
}

-- a fence that is not refused
pub fenced_as : (now new : Machine) (first : ℕ) → new ≡ machine_of (core_in now) (Some (first_names first)) → fence_fault now first ≡ None → new ≡ event_step now (Fence first)
fenced_as now new first made none = made ∙ ap (named_from now first) (sym none)

-- a call that was answered made its step

pub made_plain : (now new : Machine) (call : Call) (made : Result FencedAnswer AllocError) → is_ok made ≡ true
    → IfOk made (λ answer. machine_step now call ≡ (new, answer)) → new ≡ event_step now (Plain call)
made_plain now new call (Ok answer) ok done = ap (λ (s : Machine × FencedAnswer). s.0) (sym done)
made_plain now new call (Err why) ok done = absurd cc

pub made_named : (now new : Machine) (call : FencedCall) (made : Result FencedAnswer AllocError) → is_ok made ≡ true
    → OnOk made (new ≡ named_step now call) → new ≡ event_step now (Named call)
made_named now new call (Ok answer) ok done = done
made_named now new call (Err why) ok done = absurd cc
