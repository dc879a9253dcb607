-- What the types of an image guarantee: a state that fits is written as JSON values that read back as the state.
use Rattle.std.specs.Prelude.{◌^◌, ◌<◌}
use Rattle.ckpt_ids.specs.declared.ack.Acked.{Acked}
use Rattle.ckpt_ids.specs.Acknowledged.{AreInSubtaskOrder}
use Rattle.ckpt_ids.specs.Ascending.{IsAscending}
use Rattle.ckpt_ids.specs.Configuration.{IsWithinLimits}
use Rattle.ckpt_ids.specs.Ordered.{IsIn}
use Rattle.ckpt_ids.specs.Records.{Record}
use Rattle.ckpt_ids.specs.Shapes.{IsShape}
use Rattle.ckpt_model.specs.State.{State}

pub record AckFits (a : Acked) : Type 0 where
  pub vertex : a.subtask.vertex < 2 ^ 16
  pub index : a.subtask.index < 2 ^ 16
  pub files : IsAscending a.files

pub record RecordFits (r : Record) : Type 0 where
  pub shape : IsShape r.shape
  pub order : AreInSubtaskOrder r.acks
  pub acks : (a : Acked) → IsIn a r.acks → AckFits a
  pub pins : IsAscending r.pins

pub record Fits (m : State) : Type 0 where
  pub config : IsWithinLimits m.opening.config
  pub first_shape : IsShape m.opening.shape
  pub shape : IsShape m.shape
  pub failures : m.failures < 2 ^ 32
  pub records : (r : Record) → IsIn r m.records → RecordFits r
  pub taken : IsAscending m.taken
