-- A coordinator may cross threads.
use Rattle.ckpt_core.proofs.Names.{Declared, fields, shape, row, Struct, IsSend, AllSend, sendable, view_send, recorded_send, struct_send, crosses}
use Rattle.std.proofs.MapsCrossing as maps
use Rattle.ckpt_ids.specs.contracts.shape.Shape as Shape
use Rattle.ckpt_pending.specs.contracts.pending.Pending as Pending
use Rattle.ckpt_pending.specs.contracts.done.Done as Done
use Rattle.ckpt_store.specs.contracts.store.Store as Store
use Rattle.ckpt_registry.specs.contracts.registry.Registry as Registry
use Rattle.ckpt_outbox.specs.contracts.outbox.Outbox as Outbox
use Rattle.ckpt_core.specs.contracts.coordinator.Core as Core
use Rattle.ckpt_core.specs.contracts.coordinator.Core.TheInside as InCore
use Rattle.ckpt_core.specs.contracts.parts.Parts as Parts
use Rattle.ckpt_core.specs.contracts.pending_records.PendingRecords as PendingRecords

-- a struct crosses if its fields do
pub declared_send : (T : Declared) → AllSend (fields T) → IsSend (row T)
declared_send T s = recorded_send (Struct (shape T)) T.D T.to T.to_one (struct_send (shape T) s)

shape_send : IsSend Shape.the_row
shape_send = search (sendable, crosses) depth 80 fits 20000

pending_send : IsSend Pending.the_row
pending_send = search (sendable, crosses, maps.crosses) depth 80 fits 20000

done_send : IsSend Done.the_row
done_send = search (sendable, crosses, maps.crosses) depth 80 fits 20000

store_send : IsSend Store.the_row
store_send = search (done_send, sendable, crosses, maps.crosses) depth 80 fits 20000

registry_send : IsSend Registry.the_row
registry_send = search (sendable, crosses, maps.crosses) depth 80 fits 20000

outbox_send : IsSend Outbox.the_row
outbox_send = search (sendable, crosses, maps.crosses) depth 80 fits 20000

records_send : IsSend PendingRecords.the_row
records_send = search (pending_send, sendable, crosses, maps.crosses) depth 80 fits 20000

parts_fields : AllSend (fields Parts.the_type)
parts_fields = search (records_send, outbox_send, registry_send, store_send, shape_send, sendable, crosses) depth 80 fits 20000

pub core_send : IsSend Core.the_row
core_send = view_send _ _ _ _ _ (declared_send InCore.the_type (struct_send (shape Parts.the_type) parts_fields, tt))
