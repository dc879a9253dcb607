-- What a tick finds before it changes anything: the records that are too old, with their numbers noted, and what follows from them.
use Rattle.std.specs.Prelude.{◌≡◌, ℕ, ◌+◌, ◌&&◌, Bool, false, nat_lt, count_by}
use Rattle.ckpt_ids.specs.Ordered.{IsIn}
use Rattle.ckpt_ids.specs.Records.{Record}
use Rattle.ckpt_core.specs.declared.parts.Parts.{Parts}
use Rattle.ckpt_core.specs.declared.triggers.Expiry.{Expiry}
use Rattle.ckpt_model.specs.State.{State, is_checkpoint, is_expired}
use Rattle.ckpt_model.specs.Steps.{dropped_by, pending_checkpoints}
use Rattle.ckpt_core.specs.Inside.Parts.{is_noted, records_in, state_of}

-- a checkpoint that has expired has failed
abbrev pub is_late : State → Record → Bool
is_late m r = is_expired m m.latest r && is_checkpoint r

abbrev pub late_in : State → ℕ
late_in m = count_by (is_late m) m.records

pub record IsExpiry (p : Parts) (e : Expiry) : Type 0 where
  pub expired : e.expired ≡ dropped_by (state_of p) (is_expired (state_of p) p.clock.latest)
  pub left : e.left + late_in (state_of p) ≡ pending_checkpoints (state_of p)
  pub failures : e.failures ≡ record p.failures { number = p.failures.number + late_in (state_of p) }
  pub intolerable : e.intolerable ≡ (nat_lt 0 (late_in (state_of p)) && nat_lt p.opened.config.tolerable e.failures.number)
  -- those that have expired are noted, and no number that is still to come
  pub noted : (r : Record) → IsIn r (records_in p) → is_expired (state_of p) p.clock.latest r ≡ is_noted p.ended.items r
  pub not_next : (r : Record) → r.id ≡ p.next → is_noted p.ended.items r ≡ false
