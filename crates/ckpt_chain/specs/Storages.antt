-- Files in a storage: tasks write them, and what may be deleted is removed, while the coordinator goes on, commits, is imaged and crashes.
use Rattle.std.specs.Prelude.{◌≡◌, ℕ, ◌==◌, true, List, [], ◌∷◌, if◌then◌else◌, Option, Some, None, ⊤}
use Rattle.ckpt_ids.specs.{declared.ack.Acked.Acked, Ordered.IsIn}
use Rattle.ckpt_ids.specs.Records.{Record, is_present, uses}
use Rattle.ckpt_model.specs.Laws.{along, registered_by}
use Rattle.ckpt_terms.specs.{declared.machine.Machine.Machine, Fencing.Fenced, Fencing.may_be_deleted, Machines.core_in}
use Rattle.ckpt_terms.specs.declared.machine.Machine.TheVariants as machine
use Rattle.ckpt_logged.specs.Events.{Event, calls_in}
use Rattle.ckpt_durable.specs.Groups.{AreTurns, Made, Receipt, Turn, World, happens, started}

-- Turned: the coordinator and its device make a turn.
-- Wrote: a file of this name is there from now on, with this content. Contents are named by numbers, as states are.
-- Removed: no file of this name is there any more.
pub data Act : Type 0 where
  Turned : Turn → Act
  Wrote : (file content : ℕ) → Act
  Removed : (file : ℕ) → Act

-- the content of each file that is there
abbrev pub Storage : Type 0
Storage = ℕ → Option ℕ

abbrev pub put : ℕ → Option ℕ → Storage → Storage
put file content s = λ f. if file == f then content else s f

-- the coordinator and its device; what is in the storage; and what would be there if nothing had been removed
pub record Site : Type 0 where
  pub world : World
  pub there : Storage
  pub ever : Storage

abbrev pub begun : Machine → Storage → Site
begun m s = record { world = started m; there = s; ever = s }

abbrev pub acted : Site → Act → Site
acted x (Turned turn) = record { world = happens x.world turn; there = x.there; ever = x.ever }
acted x (Wrote file content) = record { world = x.world; there = put file (Some content) x.there; ever = put file (Some content) x.ever }
acted x (Removed file) = record { world = x.world; there = put file None x.there; ever = x.ever }

abbrev pub goes_through : Site → List Act → Site
goes_through x [] = x
goes_through x (act ∷ acts) = goes_through (acted x act) acts

-- from a state of the coordinator and a storage on
abbrev pub site : Machine → Storage → List Act → Site
site m s acts = goes_through (begun m s) acts

-- WHAT AN ENGINE KEEPS

abbrev pub IsWritten : Option ℕ → Type 0
IsWritten o = (content : ℕ) × (o ≡ Some content)

-- a name has one content: under it nothing else is written, also once its file was removed
abbrev pub IsFreeFor : ℕ → Option ℕ → Type 0
IsFreeFor content None = ⊤
IsFreeFor content (Some before) = before ≡ content

-- the program was told of a state with names in which the file might be deleted
pub record MayBeRemoved (file : ℕ) (told : List Receipt) : Type 0 where
  pub receipt : Receipt
  pub is_told : IsIn receipt told
  pub names : Fenced
  pub state : receipt.state ≡ machine.Fenced names
  pub may_be : may_be_deleted names file ≡ true

-- the fresh files that the coordinator registers for an event
abbrev pub registered_in : Machine → Event → List ℕ
registered_in m event = along registered_by (core_in m) (calls_in m (event ∷ []))

-- they were written before
abbrev pub HasWritten : Site → Turn → Type 0
HasWritten x (Made event) = (f : ℕ) → IsIn f (registered_in x.world.life.now event) → IsWritten (x.ever f)
HasWritten x turn = ⊤

abbrev pub IsAllowed : Site → Act → Type 0
IsAllowed x (Turned turn) = AreTurns (turn ∷ []) × HasWritten x turn
IsAllowed x (Wrote file content) = IsFreeFor content (x.ever file)
IsAllowed x (Removed file) = MayBeRemoved file x.world.told

abbrev pub AreAllowed : Site → List Act → Type 0
AreAllowed x [] = ⊤
AreAllowed x (act ∷ acts) = IsAllowed x act × AreAllowed (acted x act) acts

-- each file that a live record uses at the beginning is there
abbrev pub AreStored : Machine → Storage → Type 0
AreStored m s = (f : ℕ) → is_present (uses (core_in m).records) f ≡ true → IsWritten (s f)

-- THE LAW

-- the file is there, with the content that was written
pub record IsThere (x : Site) (f : ℕ) : Type 0 where
  pub content : ℕ
  pub is_there : x.there f ≡ Some content
  pub was_written : x.ever f ≡ Some content

-- of each live record each file that a subtask acknowledged
abbrev pub FilesStay : Machine → Storage → List Act → Type 0
FilesStay m s acts =
    let x : Site = site m s acts in
    AreStored m s
    → AreAllowed (begun m s) acts
    → (r : Record) (a : Acked) (f : ℕ)
    → IsIn r (core_in x.world.life.now).records
    → IsIn a r.acks
    → IsIn f a.files
    → IsThere x f
