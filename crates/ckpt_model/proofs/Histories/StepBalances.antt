-- What one step registers, hands out and deletes, and which files are present after it.
use Rattle.ckpt_model.proofs.Names.{◌≡◌, ℕ, ◌+◌, ◌<◌, Bool, true, not, ◌⊎◌, arith, filter, Call, Ack, IsIn, uses, is_present, State, is_known, step, IsSound, registered_by, handed_by, deleted_by}
use Rattle.ckpt_model.proofs.Names.{new_by, one_if, times, IsIn-from_times, common_steps}
use Rattle.ckpt_model.proofs.Stepping.Files.{IsSettled}
use Rattle.ckpt_model.proofs.Stepping.Walk.{registered_taken, step_is}

-- each call: by computation it registers, hands out and deletes what the laws say
pub step_settled : (m : State) (call : Call) → IsSound m → IsSettled m (step m call).0 (registered_by m call) (handed_by m call) (deleted_by m call)
step_settled m call h2 = grind (arith, common_steps, step_is)

-- a file that is present after was present before, or is newly named: by the balance of one file
present_before : (a b c : Bool) (n k : ℕ) → n + one_if a ≡ k + one_if b → b ≡ true → (0 < n) ⊎ (a ≡ true)
present_before a b c n k h5 h6 = grind (arith, common_steps)

-- through each call
pub newly_present : (m : State) (call : Call) (f : ℕ) → IsSound m → is_present (uses (step m call).0.records) f ≡ true → IsIn f (new_by m call) ⊎ (is_present (uses m.records) f ≡ true)
newly_present m (Ack now id subtask fresh reused) f s h =
    let call : Call = Ack now id subtask fresh reused in
    let b = present_before (is_present (uses m.records) f) (is_present (uses (step m call).0.records) f) true (times f (registered_by m call)) (times f (handed_by m call))
    ((step_settled m call s).even f) h in
    grind (arith, common_steps, (step_is m call).records s, registered_taken (step m call).1 fresh (filter (λ g. not (is_known m g)) fresh), IsIn-from_times f fresh) steps 1000000
newly_present m call f s h = let before =
    present_before (is_present (uses m.records) f) (is_present (uses (step m call).0.records) f) true 0 (times f (handed_by m call)) ((step_settled m call s).even f) h in
    grind (arith, common_steps, before)
