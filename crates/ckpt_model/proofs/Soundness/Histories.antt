-- After every list of calls a coordinator is sound.
use Rattle.ckpt_model.proofs.Names.{List, [], ◌∷◌, Call, State, Opening, opened, step, replay, IsSound, CanOpen, AreCalls}
use Rattle.ckpt_model.proofs.Soundness.Opening.{opened_is_sound}
use Rattle.ckpt_model.proofs.Soundness.Calls.{step_keeps}

-- from a sound state on
pub replay_keeps : (m : State) (calls : List Call) → AreCalls calls → IsSound m → IsSound (replay m calls)
replay_keeps m [] a s = s
replay_keeps m (call ∷ calls) a s = replay_keeps (step m call).0 calls a.1 (step_keeps m call a.0 s)

-- an opening of which a coordinator can be made
pub opening_is_sound : (o : Opening) → CanOpen o → IsSound (opened o)
opening_is_sound o c = opened_is_sound o c.config c.shape c.start c.first_from c.first_to

-- from such an opening on
pub replay_is_sound : (o : Opening) (calls : List Call) → CanOpen o → AreCalls calls → IsSound (replay (opened o) calls)
replay_is_sound o calls c a = replay_keeps (opened o) calls a (opening_is_sound o c)
