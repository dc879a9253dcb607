-- Each call keeps a coordinator sound.
use Rattle.ckpt_model.proofs.Names.{Call, State, step, IsSound, IsCall}
use Rattle.ckpt_model.proofs.Stepping.Walk.{step_is}

pub step_keeps : (m : State) (call : Call) → IsCall call → IsSound m → IsSound (step m call).0
step_keeps m call c s = (step_is m call).sound c s
