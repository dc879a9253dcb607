-- Answers the goals of `Pins::settle`.
use Rattle.ckpt_registry.proofs.{◌≡◌, ap, take, arith, times, times-from_IsIn, IsIn-from_times, files_in, files_of, times_of_take}
use Rattle.ckpt_registry.proofs.pins.Pins.settle.Goals as goal

pub count_once-requires-clause-present : goal.count_once-requires-clause-present
count_once-requires-clause-present c = λ f h.
    let parts = c.args.parts.now in
    let some : times f c.files_of_first.result.now ≡ times f (files_in (take c.in-Record.first.parts parts)) = ap (times f) c.files_of_first.ensures in
    c.requires.present f (IsIn-from_times f (files_in parts) (omega (arith, some, times-from_IsIn f c.files_of_first.result.now h, times_of_take files_of f c.in-Record.first.parts parts)))
