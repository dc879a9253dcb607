-- If nobody asks for a way back, no call goes back.
use Rattle.ckpt_chain.proofs.Names.{◌≡◌, true, false, List, [], ◌∷◌, ◌++◌, refl, ap, ◌∙◌, subst, append-nil, inl, inr, ⊎_elim, Call, Cancel, Restore, IsIn, IsIn-append_left, State, replay}
use Rattle.ckpt_chain.proofs.Names.{step, FencedCall, Reserve, Forfeit, Make, Advance, Machine, Fenced, FencedStepped, fenced_step, passed, core_in, fenced_step_by, AreEvents, Event, Fence}
use Rattle.ckpt_chain.proofs.Names.{Named, Plain, calls_in, event_step, reached, reaches, IsWithin, AreTurns, Turn, World, synced, world, groups_durable, NoneGoesBack, goes_back}
use Rattle.ckpt_chain.proofs.Names.{NeverGoesBack, NobodyGoesBack, asks_way_back, call_of, is_way_back}
use Rattle.ckpt_chain.proofs.Telling.{its_events}
use Rattle.ckpt_ids.specs.declared.call.Target.TheVariants as target
use Rattle.ckpt_terms.specs.declared.machine.Machine.TheVariants as machine

not_both : true ≡ false → ⊥
not_both e = cc

no_way : (m : State) (call : Call) → is_way_back call ≡ false → goes_back m call ≡ false
no_way m (Restore now (target.Savepoint id) shape) e = absurd (not_both e)
no_way m (Cancel now) e = absurd (not_both e)
no_way m call e = refl

back-join : (m : State) (before after : List Call) → NoneGoesBack m before → NoneGoesBack (replay m before) after → NoneGoesBack m (before ++ after)
back-join m [] after first second = second
back-join m (call ∷ before) after first second = (first.0, back-join (step m call).0 before after first.1 second)

of_call : (m : Fenced) (call : FencedCall) → asks_way_back (call_of (Named call)) ≡ false → NoneGoesBack m.core (passed call (fenced_step m call).1)
of_call m (Reserve term count) e = fenced_step_by m (Reserve term count) (λ (x : FencedStepped). NoneGoesBack m.core (passed (Reserve term count) x.1)) (λ _. tt) (λ _. tt)
of_call m (Forfeit term names) e = fenced_step_by m (Forfeit term names) (λ (x : FencedStepped). NoneGoesBack m.core (passed (Forfeit term names) x.1)) (λ _. tt) (λ _. tt)
of_call m (Make term call) e =
    fenced_step_by m (Make term call) (λ (x : FencedStepped). NoneGoesBack m.core (passed (Make term call) x.1)) (λ _. tt) (λ _. (no_way m.core call e, tt))
of_call m (Advance now term first) e =
    fenced_step_by m (Advance now term first) (λ (x : FencedStepped). NoneGoesBack m.core (passed (Advance now term first) x.1)) (λ _. tt) (λ _. (refl, tt))

of_event : (m : Machine) (event : Event) → asks_way_back (call_of event) ≡ false → NoneGoesBack (core_in m) (reached m event)
of_event (machine.Plain m) (Plain call) e = (no_way m call e, tt)
of_event (machine.Fenced m) (Plain call) e = of_call m (Make 0 call) e
of_event (machine.Plain m) (Named call) e = tt
of_event (machine.Fenced m) (Named call) e = of_call m call e
of_event m (Fence first) e = tt

of_events : (m : Machine) (events : List Event) → AreEvents events → ((event : Event) → IsIn event events → asks_way_back (call_of event) ≡ false) → NeverGoesBack m events
of_events m [] are none = tt
of_events m (event ∷ events) are none =
    let next : Machine = event_step m event in
    let core : core_in next ≡ replay (core_in m) (reached m event) =
    (reaches m (event ∷ []) (are.0, tt)).1 ∙ ap (replay (core_in m)) (append-nil (reached m event)) in
    back-join (core_in m) (reached m event) (calls_in next events) (of_event m event (none event (inl refl)))
    (subst (λ (k : State). NoneGoesBack k (calls_in next events)) core (of_events next events are.1 (λ one has. none one (inr has))))

in_made : (one : Event) (events made : List Event) → IsWithin events made → IsIn one events → IsIn one made
in_made one [] made h has = absurd has
in_made one (event ∷ events) [] h has = absurd h
in_made one (event ∷ events) (x ∷ made) h has =
    ⊎_elim
    (λ (k : (event ≡ x) × IsWithin events made).
    ⊎_elim (λ (e : one ≡ event). inl (e ∙ k.0)) (λ (j : IsIn one events). inr (in_made one events made k.1 j)) has)
    (λ (k : IsWithin (event ∷ events) made). inr (in_made one (event ∷ events) made k has))
    h

pub nobody_goes_back : (m : Machine) (turns : List Turn) → AreTurns turns → NobodyGoesBack m turns
nobody_goes_back m turns are none =
    let w : World = world m turns in
    of_events m (synced w) (its_events m turns are)
    (λ event has. none event (in_made event (synced w ++ w.life.loose) w.made (groups_durable m turns).made (IsIn-append_left event (synced w) w.life.loose has)))
