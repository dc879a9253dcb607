-- A pending record that lacks acknowledgements, and what a completed checkpoint supersedes.
use Rattle.std.specs.Prelude.{Bool, ℕ, ◌≡◌, ◌&&◌, nat_lt, ◌==◌, List, [], ◌∷◌, ◌++◌, map, filter, find, Option, Some, None}
use Rattle.ckpt_ids.specs.Records.{Record, missing}
use Rattle.ckpt_store.specs.Storing.{Stored, past_retained}
use Rattle.ckpt_model.specs.State.{is_checkpoint}

-- the pending record with this number lacks this many acknowledgements
pub record IsMissing (pending : List Record) (id count : ℕ) : Type 0 where
  pub lacking : Record
  pub found : find (λ r. r.id == id) pending ≡ Some lacking
  pub counted : missing lacking ≡ count

-- the number, if there is one
abbrev pub number_in : Option ℕ → List ℕ
number_in None = []
number_in (Some id) = id ∷ []

-- the number of the completed checkpoint that is one too many, if there is one
abbrev pub surplus : Stored → Record → List ℕ
surplus store done = number_in (past_retained store.retained (store.checkpoints ++ done ∷ []))

-- whether it is a checkpoint before this number
abbrev pub is_before : ℕ → Record → Bool
is_before id r = is_checkpoint r && nat_lt r.id id

-- the numbers of the pending checkpoints before this one
abbrev pub earlier : ℕ → List Record → List ℕ
earlier id pending = map (λ r. r.id) (filter (is_before id) pending)

-- the numbers of all records that a completed checkpoint supersedes
abbrev pub superseded_ids : List Record → Stored → Record → List ℕ
superseded_ids pending store done = earlier done.id pending ++ surplus store done
