-- The files that are taken, by the changes that made them so. Only proofs and the type's view read this.
use Rattle.std.specs.Prelude.{ℕ, ◌+◌, Bool, List, [], ◌∷◌, ◌++◌, if◌then◌else◌}
use Rattle.ckpt_outbox.specs.Queues.{without}

-- The state after this many changes.
pub record Changed : Type 0 where
  pub files : List ℕ
  pub changes : ℕ

-- before the first
abbrev pub unchanged : Changed
unchanged = record { files = []; changes = 0 }

-- one file was fetched, or reported
abbrev pub changed : Changed → ℕ → Bool → Changed
changed before file is_fetched = record { files = if is_fetched then before.files ++ file ∷ [] else without file before.files; changes = before.changes + 1 }
