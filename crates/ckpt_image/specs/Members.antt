-- How the members of an image are read: each by its key, so their order does not matter, and other keys are ignored. A
-- member that is not as it must be reads as none. The limits are those that `Config`, `Shape` and `Acks` keep.
use Rattle.std.specs.Prelude.{ℕ, ◌^◌, ◌==◌, Bool, true, false, ◌&&◌, nat_lt, List, [], ◌∷◌, codes, bytes_eq, if◌then◌else◌, is_some, Option, Some, None, option_map, option_and_then}
use Rattle.ckpt_ids.specs.declared.ack.Acked.{Acked}
use Rattle.ckpt_ids.specs.declared.numbers.Kind.{Kind}
use Rattle.ckpt_ids.specs.declared.numbers.Kind.TheVariants.{Checkpoint, Savepoint}
use Rattle.ckpt_ids.specs.Acknowledged.{acknowledges_before}
use Rattle.ckpt_ids.specs.Ascending.{ascending}
use Rattle.ckpt_ids.specs.Configuration.{Configuration, configured, is_within_limits}
use Rattle.ckpt_ids.specs.Records.{Record}
use Rattle.ckpt_ids.specs.Shapes.{is_shape}
use Rattle.ckpt_model.specs.declared.mode.Mode.{Mode}
use Rattle.ckpt_model.specs.declared.mode.Mode.TheVariants.{Running, Failed, Cancelled}
use Rattle.ckpt_model.specs.State.{Opening}
use Rattle.ckpt_image.specs.declared.members.Moments.{Moments}
use Rattle.ckpt_image.specs.declared.members.Opened.{Opened}
use Rattle.ckpt_image.specs.declared.members.Outbox.{Outbox}
use Rattle.ckpt_image.specs.Written.{version}
use Rattle.serde_json.specs.Data.{Data, Items, no_items, item}
use Rattle.serde_json.specs.Find.{as_array, as_bool, as_null, as_number, as_str, as_u64, get}

-- ---- any value

-- the value, if it passes the test
abbrev pub only : {X : Type 0} → (X → Bool) → X → Option X
only test x = if test x then Some x else None

-- what follows of the member under this key, which is read by `one`
abbrev pub with_key : {X Y : Type 0} → List ℕ → (Data → Option X) → Data → (X → Option Y) → Option Y
with_key key one d next = option_and_then next (option_and_then one (get key d))

-- each of the items, read by `one`
abbrev pub each : {X : Type 0} → (Data → Option X) → Items → Option (List X)
each one no_items = Some []
each one (item d ds) = option_and_then (λ x. option_map (λ xs. x ∷ xs) (each one ds)) (one d)

abbrev pub list_of : {X : Type 0} → (Data → Option X) → Data → Option (List X)
list_of one d = option_and_then (each one) (as_array d)

-- an integer that is not negative; of a text one of at most 2^64 - 1
abbrev pub number_of : Data → Option ℕ
number_of d = option_and_then as_u64 (as_number d)

-- a number, or `null` for none
abbrev pub optional_of : Data → Option (Option ℕ)
optional_of d = if is_some (as_null d) then Some None else option_map (λ n. Some n) (number_of d)

abbrev pub number_below : ℕ → Data → Option ℕ
number_below end d = option_and_then (only (λ n. nat_lt n end)) (number_of d)

-- ---- words

abbrev pub kind_named : List ℕ → Option Kind
kind_named word = if bytes_eq word (codes "checkpoint") then Some Checkpoint else (if bytes_eq word (codes "savepoint") then Some Savepoint else None)

abbrev pub state_named : List ℕ → Option Bool
state_named word = if bytes_eq word (codes "done") then Some true else (if bytes_eq word (codes "pending") then Some false else None)

abbrev pub mode_named : List ℕ → Option Mode
mode_named word =
    if bytes_eq word (codes "running") then Some Running
    else (if bytes_eq word (codes "failed") then Some Failed else (if bytes_eq word (codes "cancelled") then Some Cancelled else None))

unfoldable pub kind_of : Data → Option Kind
kind_of d = option_and_then kind_named (as_str d)

-- whether the record is done
unfoldable pub state_of : Data → Option Bool
state_of d = option_and_then state_named (as_str d)

unfoldable pub mode_of : Data → Option Mode
mode_of d = option_and_then mode_named (as_str d)

-- ---- records

-- the files of a set: they are sorted, in whatever order they are
unfoldable pub files_of : Data → Option (List ℕ)
files_of d = option_map ascending (list_of number_of d)

unfoldable pub shape_of : Data → Option (List ℕ)
shape_of d = option_and_then (only is_shape) (list_of number_of d)

unfoldable pub ack_of : Data → Option Acked
ack_of d =
    with_key (codes "files") files_of d (λ files.
    with_key (codes "index") (number_below (2 ^ 16)) d (λ index.
    with_key (codes "vertex") (number_below (2 ^ 16)) d (λ vertex.
    Some (record { subtask = record { vertex = vertex; index = index }; files = files }))))

-- the subtask of each acknowledgement comes before that of the next
abbrev pub are_in_subtask_order : List Acked → Bool
are_in_subtask_order [] = true
are_in_subtask_order (a ∷ []) = true
are_in_subtask_order (a ∷ b ∷ acks) = acknowledges_before a b && are_in_subtask_order (b ∷ acks)

unfoldable pub acks_of : Data → Option (List Acked)
acks_of d = option_and_then (only are_in_subtask_order) (list_of ack_of d)

unfoldable pub saved_of : Data → Option Record
saved_of d =
    with_key (codes "acks") acks_of d (λ acks.
    with_key (codes "id") number_of d (λ id.
    with_key (codes "kind") kind_of d (λ kind.
    with_key (codes "pins") files_of d (λ pins.
    with_key (codes "shape") shape_of d (λ shape.
    with_key (codes "started") number_of d (λ started.
    with_key (codes "state") state_of d (λ done.
    Some (record { id = id; kind = kind; done = done; shape = shape; started = started; acks = acks; pins = pins }))))))))

-- ---- what the job was opened with

unfoldable pub config_of : Data → Option Configuration
config_of d =
    with_key (codes "at_once") number_of d (λ at_once.
    with_key (codes "interval") number_of d (λ interval.
    with_key (codes "keep_on_cancel") as_bool d (λ keep_on_cancel.
    with_key (codes "pause") number_of d (λ pause.
    with_key (codes "retained") number_of d (λ retained.
    with_key (codes "timeout") number_of d (λ timeout.
    with_key (codes "tolerable") number_of d (λ tolerable.
    only is_within_limits (configured interval pause at_once timeout tolerable retained keep_on_cancel))))))))

abbrev pub opening_in : Opened → Opening
opening_in o = record { config = o.config; shape = o.shape; start = o.start; first = o.first }

unfoldable pub opening_of : Data → Option Opening
opening_of d =
    with_key (codes "config") config_of d (λ config.
    with_key (codes "first") number_of d (λ first.
    with_key (codes "shape") shape_of d (λ shape.
    with_key (codes "start") number_of d (λ start.
    Some (record { config = config; shape = shape; start = start; first = first })))))

-- ---- what changes

-- this format
unfoldable pub version_of : Data → Option ℕ
version_of d = option_and_then (only (λ n. n == version)) (number_of d)

unfoldable pub clock_of : Data → Option Moments
clock_of d =
    with_key (codes "completed") optional_of d (λ completed.
    with_key (codes "due") number_of d (λ due.
    with_key (codes "latest") number_of d (λ latest.
    Some (record { completed = completed; due = due; latest = latest }))))

-- the waiting files keep their order
unfoldable pub outbox_of : Data → Option Outbox
outbox_of d =
    with_key (codes "taken") files_of d (λ taken.
    with_key (codes "waiting") (list_of number_of) d (λ waiting.
    Some (record { taken = taken; waiting = waiting })))
