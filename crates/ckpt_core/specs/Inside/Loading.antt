-- What is made from an image, record by record.
use Rattle.std.specs.Prelude.{◌≡◌, ℕ, ◌-◌, true, false, List, [], ◌++◌, length, Option, Some, None}
use Rattle.std.specs.List.{flat_map}
use Rattle.ckpt_ids.specs.declared.ack.Acked.{Acked}
use Rattle.ckpt_ids.specs.Ordered.{AreDistinct, IsIn}
use Rattle.ckpt_ids.specs.Records.{Record, Use, Subtask, Pin, is_present}
use Rattle.ckpt_ids.specs.Shapes.{is_subtask}
use Rattle.ckpt_pending.specs.Acknowledging.{pending_record}
use Rattle.ckpt_registry.specs.Uses.{triples}
use Rattle.ckpt_model.specs.declared.image.Saved.{Saved}
use Rattle.ckpt_core.specs.declared.parts.Parts.{Parts}
use Rattle.ckpt_core.specs.Inside.Parts.{opening_of, records_in}
use Rattle.ckpt_core.specs.Inside.SoundRecords.{Joins, NamesEachOnce}
use Rattle.ckpt_model.specs.Soundness.{AreSoundRecords, IsRecord}
use Rattle.ckpt_model.specs.Refusals.{is_done_savepoint}
use Rattle.ckpt_model.specs.State.{State}

-- the uses by these acknowledgements of a record
abbrev pub uses_of_acks : ℕ → List Acked → List Use
uses_of_acks id acks = flat_map (λ a. triples id (Subtask a.subtask) a.files) acks

-- those by its pins too
abbrev pub uses_held : ℕ → List Acked → List ℕ → List Use
uses_held id acks pins = uses_of_acks id acks ++ triples id Pin pins

-- the pending record that has the acknowledgements of a saved one
abbrev pub IsMade : Record → Saved → Type 0
IsMade r s = r ≡ pending_record s.metadata.id s.metadata.kind s.metadata.shape s.metadata.started s.metadata.acks

-- the state without these
abbrev pub emptied : State → State
emptied m = record m { base = None; records = []; waiting = []; taken = [] }

-- the base, if there is one, is a done savepoint
abbrev pub HasBase : State → Option ℕ → Type 0
HasBase m base = (id : ℕ) → base ≡ Some id → is_done_savepoint m id ≡ true

-- each acknowledgement comes from a subtask of this shape
abbrev pub AreOfShape : List ℕ → List Acked → Type 0
AreOfShape shape acks = (a : Acked) → IsIn a acks → is_subtask shape a.subtask ≡ true

-- none of these files is in use, and none is there twice
pub record AreFilesApart (us : List Use) (files : List ℕ) : Type 0 where
  pub unused : (f : ℕ) → IsIn f files → is_present us f ≡ false
  pub apart : AreDistinct files

-- these files wait too, in places that were reserved
abbrev pub with_more_waiting : Parts → List ℕ → Parts
with_more_waiting p files = record p { outbox = record p.outbox { waiting = p.outbox.waiting ++ files; spare = p.outbox.spare - length files } }

-- none of these files, and of those that wait or were fetched, is in use, and none is there twice
abbrev pub MayWait : Parts → List ℕ → Type 0
MayWait p files = AreFilesApart p.registry ((p.outbox.waiting ++ files) ++ p.outbox.taken)

-- the records of the parts are sound as a list
abbrev pub HaveSoundRecords : Parts → Type 0
HaveSoundRecords p = AreSoundRecords (opening_of p.opened) p.next (records_in p)

-- what is tested of a record before memory is taken for it
pub record MayJoinParts (p : Parts) (r : Record) : Type 0 where
  pub place : IsRecord r → Joins (opening_of p.opened) p.next (records_in p) r
  pub once : NamesEachOnce r

-- a record may follow those of the parts
abbrev pub JoinsParts : Parts → Record → Type 0
JoinsParts p r = Joins (opening_of p.opened) p.next (records_in p) r
