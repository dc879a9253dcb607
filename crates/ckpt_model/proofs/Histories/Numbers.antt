-- The numbers given rise from the first by one.
use Rattle.ckpt_model.proofs.Names.{common_steps, ◌≡◌, ◌≤◌, arith, List, [], ◌∷◌, length, refl, range_with_len, Call, State, Opening, opened, step, along, given_by, Numbers}
use Rattle.ckpt_model.proofs.Stepping.Changes.{Gives}
use Rattle.ckpt_model.proofs.Stepping.Walk.{step_is}

-- each call gives no number, or the next one
pub step_gives : (m : State) (call : Call) → Gives m (step m call).0 (given_by m call)
step_gives m call = (step_is m call).gives

-- the next number does not fall
pub next_rises : (m : State) (call : Call) → m.next ≤ ((step m call).0).next
next_rises m call = grind (arith, common_steps, step_gives m call) steps 1000000

-- the numbers given from a state on rise from its next one
pub numbers_from : (m : State) (calls : List Call) → along given_by m calls ≡ range_with_len m.next (length (along given_by m calls))
numbers_from m [] = refl
numbers_from m (call ∷ calls) = grind (arith, common_steps, step_gives, numbers_from (step m call).0 calls)

-- the law
pub numbers : (o : Opening) (calls : List Call) → Numbers o calls
numbers o calls = numbers_from (opened o) calls
