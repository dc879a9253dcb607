-- The text that is saved for a handle's coordinator, and the coordinator that a handle is opened with.
use Rattle.std.specs.Prelude.{◌≡◌, ◌≢◌, ℕ, nat_lt, if◌then◌else◌, List, length, take, Option, Some, None}
use Rattle.core.specs.Str.{IsUtf8}
use Rattle.ckpt_model.specs.{Images.CanHold, Images.settled, State.State}
use Rattle.ckpt_image.specs.Written.{image_bytes}
use Rattle.ckpt_names_image.specs.Named.{Fenced, Named, Plain, Saved, named_bytes, saved_read}
use Rattle.ckpt_terms.specs.{declared.machine.Machine.Machine, TermsImages.CanHoldFenced, TermsImages.fenced_settled}
use Rattle.ckpt_terms.specs.declared.machine.Machine.TheVariants as machine
use Rattle.ckpt_terms.specs.Fencing as fencing
use Rattle.ckpt_terms.specs.Machines.{Issued, core_in, fenced_of, machine_of, names_in}
use Rattle.ckpt_terms.specs.Spans as spans
use Rattle.relkvanu.specs.{declared.answer.Answer.Answer, Buffers.StandsInFront}
use Rattle.relkvanu.specs.Told.{bad_argument, bad_image, done, no_memory, too_short}

-- the answer for a text if the buffer has this many places: how many bytes the text has
abbrev pub saved_told : List ℕ → ℕ → Answer
saved_told text places = if nat_lt places (length text) then too_short (length text) else done 45 (length text) 0

-- a save returns the length of the image's text, or how many places the buffer needs; unless memory ran out
abbrev pub IsSaveTold : State → ℕ → Answer → Type 0
IsSaveTold m places answer = answer.code ≢ no_memory → answer ≡ saved_told (image_bytes (settled m)) places

-- the image's text is at the start of the buffer
abbrev pub BringsImage : State → List ℕ → List ℕ → Answer → Type 0
BringsImage m old new answer = answer.code ≡ 0 → StandsInFront (image_bytes (settled m)) old new

-- the state and the names that an image with names has
abbrev pub fenced_from : Named → fencing.Fenced
fenced_from i = record { core = i.core; term = i.term; next_name = i.next_name; unspent = spans.names_of i.unspent }

-- An image of this state: its ranges are in ascending order, and none is empty. They have the names that the term holds, cut into
-- ranges in any way.
abbrev pub IsImageOf : fencing.Fenced → Named → Type 0
IsImageOf m i = (fenced_from i ≡ fenced_settled m) × spans.AreRanges i.unspent

-- the image that is saved of a coordinator with names: the fetched files in ascending order, and the names as few ranges as can be
abbrev pub image_with : State → Issued → Named
image_with m names = record { core = settled m; term = names.term; next_name = names.next_name; unspent = spans.ranges_of names.unspent }

-- the image that is saved of a coordinator, with names or without
abbrev pub image_by : State → Option Issued → Saved
image_by m None = Plain (settled m)
image_by m (Some names) = Fenced (image_with m names)

-- A save of a coordinator with names writes the text of this image to the start of the buffer, and returns its length, or how
-- many places the buffer needs; unless memory ran out.
abbrev pub IsNamedSave : State → Issued → List ℕ → List ℕ → Answer → Type 0
IsNamedSave m names old new answer =
    let i : Named = image_with m names in
    answer.code ≢ no_memory
    → (answer ≡ saved_told (named_bytes i) (length old)) × (answer.code ≡ 0 → StandsInFront (named_bytes i) old new)
    × IsImageOf (fenced_of m names) i

-- a coordinator can be made from the image: its state is one that an image may have, and its names are ranges in ascending order,
-- none of them empty
unfoldable pub CanBeOpened : Saved → Type 0
CanBeOpened (Plain m) = CanHold m
CanBeOpened (Fenced i) = spans.AreRanges i.unspent × CanHoldFenced (fenced_from i)

-- the coordinator that is made from it
unfoldable pub opened_with : Saved → Machine
opened_with (Plain m) = machine.Plain m
opened_with (Fenced i) = machine.Fenced (fenced_from i)

-- the bytes are the text of an image from which a coordinator can be made
abbrev pub Tells : List ℕ → Saved → Type 0
Tells bytes s = IsUtf8 bytes × (saved_read bytes ≡ Some s) × CanBeOpened s

-- What a save wrote, as many bytes as it says, is the text of such an image. It has the coordinator's state, with the fetched files
-- in ascending order, and the names. So an opening with these bytes brings both back.
abbrev pub OpensAgain : State → Option Issued → List ℕ → Answer → Type 0
OpensAgain m names new answer =
    answer.code ≡ 0 → Tells (take answer.a new) (image_by m names) × (opened_with (image_by m names) ≡ machine_of (settled m) names)

-- the bytes are no such text
abbrev pub TellsNothing : List ℕ → Type 0
TellsNothing bytes = (s : Saved) → Tells bytes s → ⊥

-- an opening takes memory only if the bytes are a text
abbrev pub SavedWantsMemory : List ℕ → Answer → Type 0
SavedWantsMemory bytes answer = answer.code ≡ no_memory → IsUtf8 bytes

-- a closed handle is opened with the state and the names that the bytes describe, or with no names if they describe none
abbrev pub IsOpenedSaved : Option State → Option State → Option Issued → List ℕ → Answer → Type 0
IsOpenedSaved old new names bytes answer =
    (s : Saved) → old ≡ None → answer.code ≢ no_memory → Tells bytes s
    → (answer ≡ done 0 0 0) × (new ≡ Some (core_in (opened_with s))) × (names ≡ names_in (opened_with s))

-- if the bytes describe no such coordinator, a closed handle stays closed, and says so
abbrev pub IsNotOpenedSaved : Option State → Option State → List ℕ → Answer → Type 0
IsNotOpenedSaved old new bytes answer =
    old ≡ None → answer.code ≢ no_memory → TellsNothing bytes → (answer ≡ bad_argument bad_image) × (new ≡ None)

-- the bytes describe no such coordinator, unless memory ran out
abbrev pub IsWhyNotSaved : List ℕ → Answer → Type 0
IsWhyNotSaved bytes answer = answer.code ≢ no_memory → (answer ≡ bad_argument bad_image) × TellsNothing bytes

-- no coordinator can be made from the image, unless memory ran out
abbrev pub IsWhyNotOpened : Saved → Answer → Type 0
IsWhyNotOpened s answer = answer.code ≢ no_memory → (answer ≡ bad_argument bad_image) × (CanBeOpened s → ⊥)
