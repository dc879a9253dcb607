-- The files that records pin: those of a live record, or their own.
use Rattle.std.specs.Prelude.{◌≡◌, ℕ, ◌≤◌, ◌==◌, Bool, List, [], ◌∷◌, ◌++◌, ◌≢◌, filter, take, length, nat_lt}
use Rattle.std.specs.List.{flat_map, list_any, sum_by}
use Rattle.std.specs.Vec.{vec_capacity}
use Rattle.ckpt_ids.specs.Ascending.{ascending_set}
use Rattle.ckpt_ids.specs.Counting.{times}
use Rattle.ckpt_ids.specs.Ordered.{IsIn}
use Rattle.ckpt_ids.specs.Records.{Use, Pin}
use Rattle.ckpt_registry.specs.declared.pins.FirstParts.{FirstParts}
use Rattle.ckpt_registry.specs.declared.pins.Look.{Look}
use Rattle.ckpt_registry.specs.declared.pins.Pinner.{Pinner}
use Rattle.ckpt_registry.specs.declared.pins.Pins.{Pins}
use Rattle.ckpt_registry.specs.declared.pins.Pins.TheVariants.{Record, Files}
use Rattle.ckpt_registry.specs.Holdings.{Acknowledged, parts_of}
use Rattle.ckpt_registry.specs.RecordParts.{Part, files_in}
use Rattle.ckpt_registry.specs.Uses.{triples}

-- the files of these parts, each once
abbrev pub each_file : List Part → List ℕ
each_file parts = ascending_set (files_in parts)

-- the first parts of a live record
abbrev pub first_of : Acknowledged → FirstParts → List Part
first_of m first = take first.parts (parts_of m first.id)

-- the parts of a live record whose files are pinned
abbrev pub parts_pinned : Acknowledged → Pins → List Part
parts_pinned m (Record first room) = first_of m first
parts_pinned m (Files own) = []

-- the files that are pinned one by one
abbrev pub own_files : Pins → List ℕ
own_files (Record first room) = []
own_files (Files own) = own.items

abbrev pub pinned_by : Acknowledged → Pins → List ℕ
pinned_by m pins = each_file (parts_pinned m pins) ++ own_files pins

-- it says whether the file is in one of the first parts of the record
abbrev pub IsLook : Acknowledged → ℕ → Look → Type 0
IsLook m f look = look.found ≡ nat_lt 0 (times f (files_in (first_of m look.first)))

-- the pins of a record; a file of several parts is there once for each
abbrev pub named_by : Acknowledged → ℕ → List Pinner → List ℕ
named_by m id pinned = flat_map (λ one. files_in (parts_pinned m one.pins) ++ own_files one.pins) (filter (λ one. one.id == id) pinned)

-- the pins as uses
abbrev pub pins_in : Acknowledged → List Pinner → List Use
pins_in m pinned = flat_map (λ one. triples one.id Pin (pinned_by m one.pins)) pinned

-- the files that were pinned one by one
abbrev pub own_in : List Pinner → List ℕ
own_in pinned = flat_map (λ one. own_files one.pins) pinned

-- how often a file is pinned as one of a live record's
abbrev pub pins_of_records : Acknowledged → ℕ → List Pinner → ℕ
pins_of_records m f pinned = sum_by (λ one. times f (each_file (parts_pinned m one.pins))) pinned

-- Whoever pins a record pins parts that it has, and keeps room for their files.
abbrev pub IsKept : Acknowledged → Pins → Type 0
IsKept m (Record first room) = (first.parts ≤ length (parts_of m first.id)) × (room.items ≡ []) × (length (files_in (first_of m first)) ≤ vec_capacity room)
IsKept m (Files own) = Unit {0}

abbrev pub AreKept : Acknowledged → List Pinner → Type 0
AreKept m pinned = (one : Pinner) → IsIn one pinned → IsKept m one.pins

-- whether this is the number of one of these records
abbrev pub is_named : List ℕ → ℕ → Bool
is_named owners id = list_any (λ owner. owner == id) owners

-- the files that these records pinned one by one
abbrev pub own_of : List ℕ → List Pinner → List ℕ
own_of owners pinned = own_in (filter (λ one. is_named owners one.id) pinned)

-- pins of this record become pins of the files, and all others stay
abbrev pub IsSettled : ℕ → List Part → Pins → Pins → Type 0
IsSettled chosen parts (Record first room) (Files own) = (first.id ≡ chosen) × (own.items ≡ each_file (take first.parts parts))
IsSettled chosen parts (Record first room) (Record same left) = (first.id ≢ chosen) × (Record same left ≡ Record first room)
IsSettled chosen parts (Files own) after = after ≡ Files own

abbrev pub AreSettled : ℕ → List Part → List Pinner → List Pinner → Type 0
AreSettled chosen parts [] [] = Unit {0}
AreSettled chosen parts [] (n ∷ ns) = ⊥
AreSettled chosen parts (o ∷ os) [] = ⊥
AreSettled chosen parts (o ∷ os) (n ∷ ns) = (n.id ≡ o.id) × IsSettled chosen parts o.pins n.pins × AreSettled chosen parts os ns
