-- Answers the goals of `waits`.
use Rattle.ckpt_outbox.proofs.{◌<◌, ◌+◌, ◌-◌, ◌%◌, ◌^◌, ℕ, List, length, refl, sym, false, arith, both_ways, get_or_default_zero, waits_there, waits_not}
use Rattle.ckpt_outbox.proofs.places.waits.Goals as goal

pub returns-in-Some : goal.returns-in-Some
returns-in-Some c =
    let waiting : List ℕ = c.args.waiting.now.items in
    let within : (c.args.drawn + (2 ^ 64 - c.args.front)) % 2 ^ 64 < length waiting = omega (arith, c.in-Some.ensures.variant.0 refl, c.args.waiting.now.ok.0) in
    rw (c.eq.ensures, c.in-Some.ensures.lookup, get_or_default_zero waiting _ c.in-Some.other.now within)
    (waits_there waiting c.args.front c.args.file c.args.drawn (omega arith) (omega arith) c.requires within)

pub returns-in-None : goal.returns-in-None
returns-in-None c =
    let w = c.args.waiting.now in
    sym (waits_not w.items c.args.front c.args.file c.args.drawn (omega arith) (omega arith) c.requires (λ h. both_ways false refl (c.in-None.ensures.variant.1 (omega (arith, h, w.ok.0)))))
