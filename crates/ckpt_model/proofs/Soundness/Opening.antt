-- A coordinator that is opened is sound, and its opening is within the bounds of what can be opened.
use Rattle.ckpt_model.proofs.Names.{◌≡◌, ℕ, ◌<◌, ◌≤◌, ◌^◌, arith, None, IsWithinLimits, IsShape, open_fault, Opening, opened, IsSound, common_steps}
use Rattle.ckpt_model.proofs.Records.{sound_from}

-- within the limits, at a moment and with a first number that leave room
pub opened_is_sound : (o : Opening) → IsWithinLimits o.config → IsShape o.shape → o.start < 2 ^ 62 → 1 ≤ o.first → o.first < 2 ^ 62 → IsSound (opened o)
opened_is_sound o config shape start first within = grind (arith, common_steps, sound_from)

-- an opening with no fault
pub record InBounds (now first : ℕ) : Type 0 where
  pub start : now < 2 ^ 62
  pub first_from : 1 ≤ first
  pub first_to : first < 2 ^ 62

pub in_bounds : (now first : ℕ) → open_fault now first ≡ None → InBounds now first
in_bounds now first e = grind (arith, common_steps)
