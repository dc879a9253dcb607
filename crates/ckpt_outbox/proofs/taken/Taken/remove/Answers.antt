-- Answers the goals of `Taken::remove`.
use Rattle.ckpt_outbox.proofs.{◌≡◌, false, length, ap, arith, option_map_or, Changed, changed, unchanged, length-without}
use Rattle.ckpt_outbox.proofs.taken.Taken.remove.Goals as goal

pub invariant_of-self : goal.invariant_of-self
invariant_of-self c =
    let before : Changed = option_map_or (λ s. s.value) c.self.inside.changes unchanged in
    let change : option_map_or (λ s. s.value) c.with_change.result unchanged ≡ changed before c.args.file false = rw (c.with_change.ensures, c.take.ensures.value) in
    let now : before.files ≡ c.args.self.now = c.self.view_is in
    omega (arith, c.self.invariant, ap length now, ap (λ (u : Changed). length u.files) change, rw (← now) at (length-without c.args.file c.args.self.now c.requires.distinct c.requires.there))
