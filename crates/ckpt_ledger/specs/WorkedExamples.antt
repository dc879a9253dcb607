-- Worked examples: what a ledger publishes and holds, computed by the definitions. The expected values were written by hand.
use Rattle.std.specs.Prelude.{◌≡◌, ℕ, List, [], ◌∷◌, ◌++◌, refl}
use Rattle.ckpt_once.specs.Sinks.{Transaction, above, contents, up_to}
use Rattle.ckpt_ledger.specs.Ledgers.{Completes, Cuts, Entry, Held, Writes, after_entries, all_published, nothing}
use Rattle.ckpt_ledger.specs.Restarts.{published_with}

abbrev transaction : ℕ → List ℕ → Transaction
transaction id content = record { id = id; content = content }

-- Two records are cut before the first one is completed. Then only what was written before the first cut is published.
abbrev first : List Entry
first = Writes 1 ∷ Writes 2 ∷ Cuts 7 ∷ Writes 3 ∷ Cuts 8 ∷ Writes 4 ∷ Completes 7 ∷ []

pub first_published : all_published nothing first ≡ 1 ∷ 2 ∷ []
first_published = refl

pub first_held : after_entries nothing first ≡ record { waiting = transaction 8 (3 ∷ []) ∷ []; open_one = 4 ∷ [] }
first_held = refl

-- Record 7 is never completed. What it sealed is published with record 8, and once.
abbrev skipped : List Entry
skipped = Writes 1 ∷ Cuts 7 ∷ Writes 2 ∷ Cuts 8 ∷ Completes 8 ∷ Completes 8 ∷ []

pub skipped_published : all_published nothing skipped ≡ 1 ∷ 2 ∷ []
skipped_published = refl

-- A restore to record 8 publishes what its lost word would have, and gives up what was sealed later.
abbrev failed : Held
failed = after_entries nothing (Writes 1 ∷ Cuts 7 ∷ Completes 7 ∷ Writes 2 ∷ Cuts 8 ∷ Writes 3 ∷ Cuts 9 ∷ Writes 4 ∷ [])

pub failed_publishes : contents (up_to 8 failed.waiting) ≡ 2 ∷ []
failed_publishes = refl

pub failed_gives_up : above 8 failed.waiting ≡ transaction 9 (3 ∷ []) ∷ []
failed_gives_up = refl

-- A word that comes twice, or for a record that was not cut, publishes nothing more.
pub published_nothing : all_published nothing (Writes 1 ∷ Completes 5 ∷ Completes 5 ∷ []) ≡ []
published_nothing = refl

-- The ledger that wrote 1 to 4 is lost after record 8 was completed. Its snapshot of record 8 has what records 7 and 8 sealed,
-- but for what was published by then. A ledger that is made from it and restored to 8 gives the rest, so 2 comes again.
abbrev early : List Entry
early = Writes 1 ∷ Cuts 7 ∷ Completes 7 ∷ Writes 2 ∷ Cuts 8 ∷ []

abbrev late : List Entry
late = Writes 3 ∷ Completes 8 ∷ Writes 4 ∷ []

pub lost_published : all_published nothing (early ++ late) ≡ 1 ∷ 2 ∷ []
lost_published = refl

pub in_snapshot : (after_entries nothing early).waiting ≡ transaction 8 (2 ∷ []) ∷ []
in_snapshot = refl

pub over_restart : published_with 8 early ≡ 1 ∷ 2 ∷ []
over_restart = refl

-- Restored itself it gives nothing more, and gives up 3 and 4.
pub restored_itself : published_with 8 (early ++ late) ≡ 1 ∷ 2 ∷ []
restored_itself = refl
