-- Calls made one list after the other.
use Rattle.ckpt_model.proofs.Names.{◌≡◌, List, [], ◌∷◌, ◌++◌, refl, ap, Call, Answer, State, step, replay, answers, AreCalls}

pub replay-append : (m : State) (before after : List Call) → replay m (before ++ after) ≡ replay (replay m before) after
replay-append m [] after = refl
replay-append m (call ∷ before) after = replay-append (step m call).0 before after

pub answers-append : (m : State) (before after : List Call) → answers m (before ++ after) ≡ answers m before ++ answers (replay m before) after
answers-append m [] after = refl
answers-append m (call ∷ before) after = ap (λ (xs : List Answer). (step m call).1 ∷ xs) (answers-append (step m call).0 before after)

pub calls-split : (before after : List Call) → AreCalls (before ++ after) → AreCalls before × AreCalls after
calls-split [] after a = (tt, a)
calls-split (call ∷ before) after a = let rest : AreCalls before × AreCalls after = calls-split before after a.1 in ((a.0, rest.0), rest.1)

pub calls-join : (before after : List Call) → AreCalls before → AreCalls after → AreCalls (before ++ after)
calls-join [] after a b = b
calls-join (call ∷ before) after a b = (a.0, calls-join before after a.1 b)
