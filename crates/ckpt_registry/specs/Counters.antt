-- What the counters say of a file.
use Rattle.std.specs.Prelude.{◌≡◌, ℕ, ◌+◌, ◌^◌, ◌<◌, ◌≤◌, nat_eq, unwrap_or, Some, if◌then◌else◌, nat_lt, vec_len}
use Rattle.std.specs.Vec.{vec_capacity}
use Rattle.std.specs.declared.alloc.Global.{Global}
use Rattle.std.specs.declared.vec.Vec.{Vec}
use Rattle.indexmap.specs.IndexMap.{IndexMap, get, index_map_len}
use Rattle.ckpt_ids.specs.Counting.{times}
use Rattle.ckpt_hash.specs.declared.secret.Secret.{Secret}

abbrev pub Counts : Type 0
Counts = IndexMap ℕ ℕ Secret

-- how often a file is counted
abbrev pub counter : Counts → ℕ → ℕ
counter m f = unwrap_or (get nat_eq m f) 0

-- 1 if the file is counted, otherwise 0
abbrev pub counted_once : Counts → ℕ → ℕ
counted_once m f = if nat_lt 0 (counter m f) then 1 else 0

-- a file that has a counter is counted, below 2^32
abbrev pub AreInRange : Counts → Type 0
AreInRange m = (f n : ℕ) → get nat_eq m f ≡ Some n → (0 < n) × (n < 2 ^ 32)

-- the released files that a caller gets
abbrev pub Released : Type 0
Released = Vec ℕ Global

-- there is room for each file that is counted
abbrev pub HasRoom : Counts → Released → Type 0
HasRoom m out = index_map_len m + vec_len out ≤ vec_capacity out

-- between these counters and those, each file that is no longer counted was released once, in the room that was there
pub record AreReleased (m : Counts) (out : Released) (n : Counts) (more : Released) : Type 0 where
  pub each : (f : ℕ) → times f more.items + counted_once n f ≡ times f out.items + counted_once m f
  pub len : index_map_len n + vec_len more ≡ index_map_len m + vec_len out
  pub capacity : vec_capacity more ≡ vec_capacity out

-- each file has so many uses less, and is released with its last
pub record AreLowered (less : ℕ → ℕ) (m : Counts) (out : Released) (n : Counts) (more : Released) : Type 0 where
  pub lowered : (f : ℕ) → counter n f + less f ≡ counter m f
  pub released : AreReleased m out n more
  pub range : AreInRange n
