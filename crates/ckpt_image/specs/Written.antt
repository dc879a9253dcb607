-- The JSON object that is written for a state. The members of each object are in the order of their keys, because
-- `serde_json` keeps them that way. Two equal states have the same text.
use Rattle.std.specs.Prelude.{ℕ, List, [], ◌∷◌, ◌++◌, map, codes, Option, Some, None}
use Rattle.ckpt_ids.specs.declared.ack.Acked.{Acked}
use Rattle.ckpt_ids.specs.Configuration.{Configuration}
use Rattle.ckpt_ids.specs.Records.{Record}
use Rattle.ckpt_model.specs.declared.mode.Mode.{Mode}
use Rattle.ckpt_model.specs.declared.mode.Mode.TheVariants.{Running, Failed, Cancelled}
use Rattle.ckpt_model.specs.State.{Opening, State}
use Rattle.ckpt_answers.specs.MetadataTexts.{kind_name, list, members, natural, state_name}
use Rattle.serde_json.specs.Data.{Data, null, boolean, string, object}
use Rattle.serde_json.specs.Written.{compact_text}

-- the format of an image, as this page describes it
abbrev pub version : ℕ
version = 1

abbrev pub naturals : List ℕ → Data
naturals ns = list (map natural ns)

abbrev pub optional : Option ℕ → Data
optional None = null
optional (Some n) = natural n

abbrev pub mode_name : Mode → List ℕ
mode_name Running = codes "running"
mode_name Failed = codes "failed"
mode_name Cancelled = codes "cancelled"

unfoldable pub config_data : Configuration → Data
config_data c =
    object (members ((codes "at_once", natural c.at_once)
    ∷ (codes "interval", natural c.interval)
    ∷ (codes "keep_on_cancel", boolean c.keep_on_cancel)
    ∷ (codes "pause", natural c.pause)
    ∷ (codes "retained", natural c.retained)
    ∷ (codes "timeout", natural c.timeout)
    ∷ (codes "tolerable", natural c.tolerable)
    ∷ []))

unfoldable pub opening_data : Opening → Data
opening_data o =
    object (members ((codes "config", config_data o.config)
    ∷ (codes "first", natural o.first)
    ∷ (codes "shape", naturals o.shape)
    ∷ (codes "start", natural o.start)
    ∷ []))

unfoldable pub clock_data : State → Data
clock_data m =
    object (members ((codes "completed", optional m.completed)
    ∷ (codes "due", natural m.due)
    ∷ (codes "latest", natural m.latest)
    ∷ []))

unfoldable pub outbox_data : State → Data
outbox_data m =
    object (members ((codes "taken", naturals m.taken)
    ∷ (codes "waiting", naturals m.waiting)
    ∷ []))

unfoldable pub ack_data : Acked → Data
ack_data a =
    object (members ((codes "files", naturals a.files)
    ∷ (codes "index", natural a.subtask.index)
    ∷ (codes "vertex", natural a.subtask.vertex)
    ∷ []))

unfoldable pub record_data : Record → Data
record_data r =
    object (members ((codes "acks", list (map ack_data r.acks))
    ∷ (codes "id", natural r.id)
    ∷ (codes "kind", string (kind_name r.kind))
    ∷ (codes "pins", naturals r.pins)
    ∷ (codes "shape", naturals r.shape)
    ∷ (codes "started", natural r.started)
    ∷ (codes "state", string (state_name r.done))
    ∷ []))

abbrev pub early_members : State → List (List ℕ × Data)
early_members m =
    (codes "base", optional m.base)
    ∷ (codes "clock", clock_data m)
    ∷ (codes "failures", natural m.failures)
    ∷ (codes "mode", string (mode_name m.mode))
    ∷ (codes "next", natural m.next)
    ∷ []

abbrev pub later_members : State → List (List ℕ × Data)
later_members m =
    (codes "opening", opening_data m.opening)
    ∷ (codes "outbox", outbox_data m)
    ∷ (codes "records", list (map record_data m.records))
    ∷ (codes "shape", naturals m.shape)
    ∷ []

-- the members of an image in this format
abbrev pub image_members : ℕ → State → List (List ℕ × Data)
image_members format m = early_members m ++ later_members m ++ (codes "version", natural format) ∷ []

unfoldable pub image_data : State → Data
image_data m = object (members (image_members version m))

-- the image as JSON without spaces
unfoldable pub image_bytes : State → List ℕ
image_bytes m = compact_text (image_data m)
