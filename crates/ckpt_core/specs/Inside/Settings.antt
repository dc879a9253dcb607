-- Which completed checkpoints another number retained leaves.
use Rattle.std.specs.Prelude.{ℕ, ◌-◌, Bool, ◌&&◌, nat_le, nat_lt, count_by, List, length, take, drop}
use Rattle.ckpt_ids.specs.Records.{Record}
use Rattle.ckpt_core.specs.declared.parts.Parts.{Parts}
use Rattle.ckpt_model.specs.State.{State, is_done_checkpoint}

-- one with as many newer ones as are retained
abbrev pub past : ℕ → State → Record → Bool
past n m r = is_done_checkpoint r && nat_le n (count_by (λ s. is_done_checkpoint s && nat_lt r.id s.id) m.records)

-- all but the n newest ones, of a row in rising number, and these n
abbrev pub oldest : ℕ → List Record → List Record
oldest n row = take (length row - n) row

abbrev pub newest : ℕ → List Record → List Record
newest n row = drop (length row - n) row

-- all but the n newest checkpoints were noted and taken out of the store
abbrev pub without_oldest : Parts → ℕ → Parts → Parts
without_oldest p n after = record p { store = record p.store { checkpoints = newest n p.store.checkpoints; spare = after.store.spare }; ended = after.ended }
