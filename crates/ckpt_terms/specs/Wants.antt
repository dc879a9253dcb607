-- The calls that may run out of memory. All others, and each call that the layer or the coordinator refuses, take no memory.
use Rattle.std.specs.Prelude.{Bool, true, false, is_none, ◌&&◌}
use Rattle.ckpt_model.specs.Memory.{may_want_memory}
use Rattle.ckpt_terms.specs.{declared.call.FencedCall.FencedCall, Fencing.Fenced, Fencing.fence}
use Rattle.ckpt_terms.specs.declared.call.FencedCall.TheVariants.{Reserve, Forfeit, Make, Advance}

-- a reservation, and what may run out of memory in the coordinator: by its own definition no call that it refuses
abbrev pub takes_memory : Fenced → FencedCall → Bool
takes_memory m (Reserve term count) = true
takes_memory m (Forfeit term names) = false
takes_memory m (Make term call) = may_want_memory m.core call
takes_memory m (Advance now term first) = false

-- and the layer does not refuse it
abbrev pub wants_memory : Fenced → FencedCall → Bool
wants_memory m call = is_none (fence m call) && takes_memory m call
