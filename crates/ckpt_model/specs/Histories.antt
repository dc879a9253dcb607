-- The state after a list of calls, and each answer.
use Rattle.std.specs.Prelude.{List, [], ◌∷◌}
use Rattle.ckpt_ids.specs.declared.call.Call.{Call}
use Rattle.ckpt_ids.specs.declared.reply.Answer.{Answer}
use Rattle.ckpt_model.specs.State.{State}
use Rattle.ckpt_model.specs.Steps.{step}

abbrev pub replay : State → List Call → State
replay m [] = m
replay m (call ∷ calls) = replay (step m call).0 calls

abbrev pub answers : State → List Call → List Answer
answers m [] = []
answers m (call ∷ calls) = let s : State × Answer = step m call in s.1 ∷ answers s.0 calls
