-- What a change of the registry adds to its uses, and what it takes away.
use Rattle.std.specs.Prelude.{◌≡◌, ℕ, Bool, not, ◌&&◌, ◌||◌, ◌==◌, List, map, filter}
use Rattle.std.specs.List.{list_any}
use Rattle.ckpt_ids.specs.Ascending.{ascending_set}
use Rattle.ckpt_ids.specs.Ordered.{AreDistinct, IsIn}
use Rattle.ckpt_ids.specs.Records.{Use, Holder, Pin, same_holder}

-- each number is there once
abbrev pub IsEachOnce : List ℕ → Type 0
IsEachOnce = AreDistinct

-- the uses of these files by one holder of a record
abbrev pub triples : ℕ → Holder → List ℕ → List Use
triples id holder files = map (λ f. record { id = id; holder = holder; file = f }) files

-- this holder of this record uses no file
abbrev pub HasNoUse : List Use → ℕ → Holder → Type 0
HasNoUse us id holder = (u : Use) → IsIn u us → u.id ≡ id → u.holder ≡ holder → ⊥

-- the files that the subtasks of a record use, ascending, each once
abbrev pub files_by : ℕ → List Use → List ℕ
files_by id us = ascending_set (map (λ u. u.file) (filter (λ u. (u.id == id) && not (same_holder u.holder Pin)) us))

-- whether one of these records has the use
abbrev pub is_owned : List ℕ → Use → Bool
is_owned owners u = list_any (λ owner. u.id == owner) owners

-- the uses that stay when these records go
abbrev pub without : List ℕ → List Use → List Use
without owners us = filter (λ u. not (is_owned owners u)) us

-- whether the use goes when record `id` ends and these records go
abbrev pub is_ended : ℕ → List ℕ → Use → Bool
is_ended id owners u = is_owned owners u || ((u.id == id) && same_holder u.holder Pin)

-- the uses that stay when record `id` ends, which gives up its pins, and these records go
abbrev pub after_end : ℕ → List ℕ → List Use → List Use
after_end id owners us = filter (λ u. not (is_ended id owners u)) us

-- the uses of all other records
abbrev pub without_record : ℕ → List Use → List Use
without_record id us = filter (λ u. not (u.id == id)) us

-- the files that a record pins
abbrev pub pins_by : ℕ → List Use → List ℕ
pins_by id us = map (λ u. u.file) (filter (λ u. (u.id == id) && same_holder u.holder Pin) us)
