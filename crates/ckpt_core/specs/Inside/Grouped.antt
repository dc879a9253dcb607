-- The records of a coordinator as its parts keep them: pending ones without their pins, which the registry
-- holds, completed checkpoints, and completed savepoints.
use Rattle.std.specs.Prelude.{ℕ, Bool, ◌&&◌, ◌==◌, List, ◌++◌, map, filter}
use Rattle.ckpt_ids.specs.Ordered.{in_order}
use Rattle.ckpt_ids.specs.Records.{Record, Use, Holder, Pin, same_holder}
use Rattle.ckpt_model.specs.Soundness.{id_before}

abbrev pub is_pin : Holder → Bool
is_pin holder = same_holder holder Pin

abbrev pub pins : ℕ → Use → Bool
pins id u = (u.id == id) && is_pin u.holder

-- the files that the record of this number pins
abbrev pub pins_of : List Use → ℕ → List ℕ
pins_of us id = map (λ u. u.file) (filter (pins id) us)

abbrev pub with_pins : List Use → Record → Record
with_pins us r = record r { pins = pins_of us r.id }

abbrev pub grouped : List Use → List Record → List Record → List Record → List Record
grouped us pending checkpoints savepoints = map (with_pins us) pending ++ (checkpoints ++ savepoints)

-- all live records, in rising number
abbrev pub records_of : List Use → List Record → List Record → List Record → List Record
records_of us pending checkpoints savepoints = in_order id_before (grouped us pending checkpoints savepoints)
