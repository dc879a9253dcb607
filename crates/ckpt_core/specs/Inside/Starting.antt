-- The start of a checkpoint or savepoint: by a tick, without the expiry that goes with it, and what it pins. The names that
-- this takes are passed on from here.
use Rattle.std.specs.Prelude.{◌≡◌, ℕ, List, [], ◌++◌}
pub use Rattle.ckpt_ids.specs.declared.limits.TheConstants.{NUMBERS_END}
use Rattle.ckpt_ids.specs.declared.reply.TickEnd.{TickEnd}
use Rattle.ckpt_ids.specs.declared.reply.Reply.TheVariants.{Ticked}
use Rattle.ckpt_ids.specs.declared.reply.Answer.TheVariants.{Done}
use Rattle.ckpt_rules.specs.declared.hold.Hold.{Hold}
pub use Rattle.ckpt_rules.specs.declared.hold.Hold.TheVariants.{Go}
use Rattle.ckpt_rules.specs.Trigger.{hold}
use Rattle.ckpt_ids.specs.declared.reply.Choice.{Choice}
use Rattle.ckpt_ids.specs.declared.reply.Choice.TheVariants as choice
use Rattle.ckpt_ids.specs.Ordered.{in_order_once}
pub use Rattle.ckpt_ids.specs.Ordered.{IsIn, IsInOrder}
use Rattle.ckpt_ids.specs.Records.{Use}
pub use Rattle.ckpt_ids.specs.Records.{Pin, count, use_before}
use Rattle.ckpt_registry.specs.Uses.{files_by, triples}
pub use Rattle.ckpt_registry.specs.Uses.{HasNoUse}
use Rattle.ckpt_core.specs.declared.parts.Parts.{Parts}
use Rattle.ckpt_model.specs.State.{State}
use Rattle.ckpt_model.specs.Steps.{start_or_hold}
pub use Rattle.ckpt_model.specs.Steps.{tick, triggered}

-- what holds a checkpoint back while this many are pending
abbrev pub held_at : State → ℕ → Hold
held_at m pending = hold m.opening.config m.due m.completed m.latest pending

-- a checkpoint was started, or held back, while this many were pending
abbrev pub Starts : State → ℕ → State → TickEnd → Type 0
Starts m pending after end = (expired : ℕ) → start_or_hold m expired (held_at m pending) ≡ (after, Done (Ticked expired end))

-- the files of the record that is chosen, as the registry has them
abbrev pub files_chosen : Choice → List Use → List ℕ
files_chosen (choice.Checkpoint id) us = files_by id us
files_chosen (choice.Savepoint id) us = files_by id us
files_chosen choice.Fresh us = []

-- the record of this number pins these files
abbrev pub pinned : Parts → ℕ → List ℕ → Parts
pinned p id files = record p { registry = in_order_once use_before (p.registry ++ triples id Pin files) }
