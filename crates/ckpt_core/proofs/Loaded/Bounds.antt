-- What a list of sound records bounds: how many they are, and how often they use a file.
use Rattle.ckpt_core.proofs.Names.{ℕ, ◌<◌, ◌≤◌, List, length, arith, IsWithinLimits, Record, uses, count, Opening, AreSoundRecords, common_steps}
use Rattle.ckpt_core.proofs.Triggering.TriggerParts.{three_kinds, limit_bound}
use Rattle.ckpt_core.proofs.Using.CountBound.{count-records}

pub few_records : {o : Opening} {next : ℕ} (rs : List Record) → IsWithinLimits o.config → AreSoundRecords o next rs → length rs ≤ 2064
few_records {o} {next} rs config s = grind (arith, common_steps, limit_bound, three_kinds)

pub few_uses : {o : Opening} {next : ℕ} (rs : List Record) → IsWithinLimits o.config → AreSoundRecords o next rs → (f : ℕ) → count (uses rs) f < 4294967295
few_uses rs config s f = omega (arith, count-records f rs s.each, few_records rs config s)
