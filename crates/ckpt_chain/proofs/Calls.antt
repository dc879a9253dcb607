-- The calls that reach the coordinator below the names, one list of events behind the other.
use Rattle.ckpt_chain.proofs.Names.{◌≡◌, List, [], ◌∷◌, ◌++◌, refl, sym, ap, ◌∙◌, subst, append_assoc, append-nil, ⊎_elim, Some, none-some, same_Some, Call, Answer, State, step, replay}
use Rattle.ckpt_chain.proofs.Names.{along, FencedCall, Reserve, Forfeit, Make, Advance, Machine, Fenced, FencedStepped, fenced_step, passed, restart, core_in, fenced_step_by, AreEvents}
use Rattle.ckpt_chain.proofs.Names.{Event, Fence, IsEvent, Named, Plain, calls_in, event_step, events_replay, reached, events-push, reaches, IsWithin, AreTurns, Committed, Crashed, Imaged}
use Rattle.ckpt_chain.proofs.Names.{Looked, Made, Turn, World, goes_on, happens, NoneGoesBack, NeverGoesBack, answered, call_of, its_answer}
use Rattle.ckpt_terms.specs.declared.machine.Machine.TheVariants as machine

-- two lists, one after the other

pub calls-append : (m : Machine) (before after : List Event) → calls_in m (before ++ after) ≡ calls_in m before ++ calls_in (events_replay m before) after
calls-append m [] after = refl
calls-append m (event ∷ before) after =
    ap (λ (xs : List Call). reached m event ++ xs) (calls-append (event_step m event) before after)
    ∙ sym (append_assoc (reached m event) (calls_in (event_step m event) before) (calls_in (events_replay (event_step m event) before) after))

pub along-append : {X : Type 0} (by : State → Call → List X) (m : State) (before after : List Call) → along by m (before ++ after) ≡ along by m before ++ along by (replay m before) after
along-append by m [] after = refl
along-append {X} by m (call ∷ before) after =
    ap (λ (xs : List X). by m call ++ xs) (along-append by (step m call).0 before after)
    ∙ sym (append_assoc (by m call) (along by (step m call).0 before) (along by (replay (step m call).0 before) after))

pub along_two : {X : Type 0} (by : State → Call → List X) (m : Machine) (before after : List Event) → along by (core_in m) (calls_in m (before ++ after))
    ≡ along by (core_in m) (calls_in m before) ++ along by (replay (core_in m) (calls_in m before)) (calls_in (events_replay m before) after)
along_two by m before after =
    ap (along by (core_in m)) (calls-append m before after) ∙ along-append by (core_in m) (calls_in m before) (calls_in (events_replay m before) after)

back-split : (m : State) (before after : List Call) → NoneGoesBack m (before ++ after) → NoneGoesBack m before × NoneGoesBack (replay m before) after
back-split m [] after none = (tt, none)
back-split m (call ∷ before) after none = let rest = back-split (step m call).0 before after none.1 in ((none.0, rest.0), rest.1)

pub never-split : (m : Machine) (before after : List Event) → AreEvents before → NeverGoesBack m (before ++ after) → NeverGoesBack m before × NeverGoesBack (events_replay m before) after
never-split m before after are never =
    let n : Machine = events_replay m before in
    let two = back-split (core_in m) (calls_in m before) (calls_in n after) (subst (λ (calls : List Call). NoneGoesBack (core_in m) calls) (calls-append m before after) never) in
    (two.0, subst (λ (k : State). NoneGoesBack k (calls_in n after)) (sym (reaches m before are).1) two.1)

-- a call that was answered reached the coordinator, and this is its answer

layer_reached : (m : Fenced) (call : FencedCall) (its : Call) (told : Answer) → call_of (Named call) ≡ Some its → its_answer (fenced_step m call).1 ≡ Some told
    → (passed call (fenced_step m call).1 ≡ its ∷ []) × ((step m.core its).1 ≡ told)
layer_reached m (Reserve term count) its told asked answers = absurd (none-some its asked)
layer_reached m (Forfeit term names) its told asked answers = absurd (none-some its asked)
layer_reached m (Make term call) its told asked answers =
    let same : call ≡ its = same_Some call its asked in
    let P : FencedStepped → Type 0 = λ x. its_answer x.1 ≡ Some told → (passed (Make term call) x.1 ≡ its ∷ []) × ((step m.core its).1 ≡ told) in
    fenced_step_by m (Make term call) P (λ why e. absurd (none-some told e))
    (λ _ e. (ap (λ (c : Call). c ∷ []) same, ap (λ (c : Call). (step m.core c).1) (sym same) ∙ same_Some (step m.core call).1 told e)) answers
layer_reached m (Advance now term first) its told asked answers =
    let same : restart now ≡ its = same_Some (restart now) its asked in
    let P : FencedStepped → Type 0 = λ x. its_answer x.1 ≡ Some told → (passed (Advance now term first) x.1 ≡ its ∷ []) × ((step m.core its).1 ≡ told) in
    fenced_step_by m (Advance now term first) P (λ why e. absurd (none-some told e))
    (λ _ e. (ap (λ (c : Call). c ∷ []) same, ap (λ (c : Call). (step m.core c).1) (sym same) ∙ same_Some (step m.core (restart now)).1 told e)) answers

pub answered_call : (m : Machine) (event : Event) (its : Call) (told : Answer) → call_of event ≡ Some its → answered m event ≡ Some told
    → (reached m event ≡ its ∷ []) × ((step (core_in m) its).1 ≡ told)
answered_call (machine.Plain m) (Plain call) its told asked answers =
    let same : call ≡ its = same_Some call its asked in
    (ap (λ (c : Call). c ∷ []) same, ap (λ (c : Call). (step m c).1) (sym same) ∙ same_Some (step m call).1 told answers)
answered_call (machine.Fenced m) (Plain call) its told asked answers = layer_reached m (Make 0 call) its told asked answers
answered_call (machine.Plain m) (Named call) its told asked answers = absurd (none-some told answers)
answered_call (machine.Fenced m) (Named call) its told asked answers = layer_reached m call its told asked answers
answered_call m (Fence first) its told asked answers = absurd (none-some its asked)

-- and made its step there
pub answered_step : (m : Machine) (event : Event) (its : Call) (told : Answer) → IsEvent event → call_of event ≡ Some its → answered m event ≡ Some told
    → core_in (event_step m event) ≡ (step (core_in m) its).0
answered_step m event its told is asked answers =
    (reaches m (event ∷ []) (is, tt)).1
    ∙ ap (replay (core_in m)) (append-nil (reached m event) ∙ (answered_call m event its told asked answers).0)

-- what is on the device was asked, so it is of a valid shape

pub are_made : (w : World) (turns : List Turn) → AreTurns turns → AreEvents w.made → AreEvents (goes_on w turns).made
are_made w [] are made = made
are_made w (Made event ∷ turns) are made = are_made (happens w (Made event)) turns are.1 (events-push w.made event made are.0)
are_made w (Looked ∷ turns) are made = are_made (happens w Looked) turns are made
are_made w (Committed ∷ turns) are made = are_made (happens w Committed) turns are made
are_made w (Imaged n ∷ turns) are made = are_made (happens w (Imaged n)) turns are made
are_made w (Crashed n ∷ turns) are made = are_made (happens w (Crashed n)) turns are made

pub within_are : (events made : List Event) → IsWithin events made → AreEvents made → AreEvents events
within_are [] made h are = tt
within_are (event ∷ events) [] h are = absurd h
within_are (event ∷ events) (one ∷ made) h are =
    ⊎_elim
    (λ (k : (event ≡ one) × IsWithin events made). (subst IsEvent (sym k.0) are.0, within_are events made k.1 are.1))
    (λ (k : IsWithin (event ∷ events) made). within_are (event ∷ events) made k are.1)
    h
