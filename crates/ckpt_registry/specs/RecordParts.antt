-- The parts of a record, and how its list of files stands for them.
use Rattle.std.specs.Prelude.{◌≡◌, ℕ, ◌≤◌, List, [], ◌∷◌, ◌++◌, length}
use Rattle.std.specs.List.{between, flat_map}
use Rattle.ckpt_ids.specs.Ascending.{IsAscending}
use Rattle.ckpt_ids.specs.declared.subtask.SubtaskId.{SubtaskId}
use Rattle.ckpt_registry.specs.declared.record_parts.Cut.{Cut}

-- what one subtask acknowledged: its fresh files, which nobody used before, and its reused ones
pub record Part : Type 0 where
  pub subtask : SubtaskId
  pub fresh : List ℕ
  pub reused : List ℕ

-- the files of one part
abbrev pub files_of : Part → List ℕ
files_of part = part.fresh ++ part.reused

-- the files of a record; a file that several subtasks use is there once for each
abbrev pub files_in : List Part → List ℕ
files_in parts = flat_map files_of parts

-- the fresh files of the part that begins here
abbrev pub fresh_from : ℕ → Cut → List ℕ → List ℕ
fresh_from start cut files = between start cut.middle files

-- and its reused ones
abbrev pub reused_of : Cut → List ℕ → List ℕ
reused_of cut files = between cut.middle cut.end files

-- the parts that end at these places, if the first begins here
abbrev pub parts_from : ℕ → List Cut → List ℕ → List Part
parts_from start [] files = []
parts_from start (cut ∷ cuts) files =
    record { subtask = cut.subtask; fresh = fresh_from start cut files; reused = reused_of cut files } ∷ parts_from cut.end cuts files

-- the files end with the last part, and both lists of each part are in ascending order
abbrev pub AreCut : ℕ → List Cut → List ℕ → Type 0
AreCut start [] files = start ≡ length files
AreCut start (cut ∷ cuts) files =
    (start ≤ cut.middle) × (cut.middle ≤ cut.end)
    × IsAscending (fresh_from start cut files) × IsAscending (reused_of cut files)
    × AreCut cut.end cuts files

-- the part that begins here lies within the files, and both its lists are in ascending order
pub record IsCutAt (start : ℕ) (cut : Cut) (files : List ℕ) : Type 0 where
  pub begins : start ≤ cut.middle
  pub ends : cut.middle ≤ cut.end
  pub within : cut.end ≤ length files
  pub fresh : IsAscending (fresh_from start cut files)
  pub reused : IsAscending (reused_of cut files)
