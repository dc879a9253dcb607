-- The uses that a registry stands for, and what its parts have in common.
use Rattle.std.specs.Prelude.{◌≡◌, ℕ, ◌+◌, ◌<◌, ◌≤◌, ◌^◌, Bool, List, ◌++◌, count_by}
use Rattle.indexmap.specs.IndexMap.{index_map_len}
use Rattle.ckpt_ids.specs.Counting.{times}
use Rattle.ckpt_ids.specs.Ordered.{in_order_once}
use Rattle.ckpt_ids.specs.Records.{Use, count, use_before}
use Rattle.ckpt_registry.specs.declared.pins.Pinner.{Pinner}
use Rattle.ckpt_registry.specs.declared.pins.Pins.{Pins}
use Rattle.ckpt_registry.specs.Counters.{Counts, counter, AreInRange}
use Rattle.ckpt_registry.specs.Holdings.{Acknowledged, AreRising, parts_of, uses_in}
use Rattle.ckpt_registry.specs.RecordParts.{Part}
use Rattle.ckpt_registry.specs.Pins.{AreKept, IsKept, each_file, own_in, parts_pinned, pins_in}

-- the uses by acknowledgements, then the pins
abbrev pub stored : Acknowledged → List Pinner → List Use
stored acknowledged pinned = uses_in acknowledged.items ++ pins_in acknowledged pinned

-- the same in the order of uses
abbrev pub in_use : Acknowledged → List Pinner → List Use
in_use acknowledged pinned = in_order_once use_before (stored acknowledged pinned)

-- each use is there once, so putting them in order loses none
abbrev pub StandsOnce : List Use → Type 0
StandsOnce us = (p : Use → Bool) → count_by p us ≡ count_by p (in_order_once use_before us)

-- what the counters say of the uses
pub record AreCounted (acknowledged : Acknowledged) (pinned : List Pinner) (counts : Counts) : Type 0 where
  pub ordered : AreRising acknowledged.items
  pub kept : AreKept acknowledged pinned
  -- Each counter is the count of its file, without the pins of records that pin a live record.
  -- A record that is pinned uses its files, so exactly the files that are present have a counter.
  pub counted : (f : ℕ) → counter counts f ≡ count (uses_in acknowledged.items) f + times f (own_in pinned)
  pub range : AreInRange counts
  -- with them too the count has its place
  pub below : (f : ℕ) → count (stored acknowledged pinned) f < 2 ^ 32

-- Before the record was dropped it had these parts, a pin of it was kept, and with the pin's files each count has its place.
abbrev pub WereKept : ℕ → List Part → Counts → Pins → Type 0
WereKept chosen parts counts pins =
    (before : Acknowledged) × (parts_of before chosen ≡ parts) × IsKept before pins × ((f : ℕ) → counter counts f + times f (each_file (parts_pinned before pins)) < 2 ^ 32)

pub record IsSound (acknowledged : Acknowledged) (pinned : List Pinner) (counts : Counts) (room : ℕ) : Type 0 where
  pub parts : AreCounted acknowledged pinned counts
  pub once : StandsOnce (stored acknowledged pinned)
  -- the answer of a release fits the room that is kept for it
  pub has_room : index_map_len counts ≤ room
