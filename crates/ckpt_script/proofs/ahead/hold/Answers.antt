-- Answers the goals of `hold`.
use Rattle.ckpt_script.proofs.{◌≡◌, ℕ, ◌-◌, List, length, min, ◌∙◌, arith, cond, Result, Ok, Err, OnOk, is_ok, held, take_room}
use Rattle.ckpt_script.proofs.ahead.hold.Goals as goal

grown : {T E : Type 0} (r : Result T E) (after more before all : List ℕ) → after ≡ cond (is_ok r) more before → more ≡ all → OnOk r (after ≡ all)
grown (Ok done) after more before all e f = e ∙ f
grown (Err why) after more before all e f = tt

pub returns : goal.returns
returns c =
    let count : c.min-count.result ≡ min (length c.args.bytes.now) (held - length c.args.line.now.items) = omega (arith, c.args.line.now.ok) in
    grown c.extend_from_slice.result _ _ _ _ c.extend_from_slice.ensures.items (rw count (take_room held c.args.line.now.items c.args.bytes.now c.requires))
