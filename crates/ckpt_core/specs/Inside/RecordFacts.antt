-- What clauses on the parts say of records: their kinds, their order, what is stored. Passed on from one place; declares nothing.
pub use Rattle.ckpt_ids.specs.Ordered.{IsIn, IsInOrder}
pub use Rattle.ckpt_ids.specs.Records.{Record, has_acknowledged}
pub use Rattle.ckpt_pending.specs.Acknowledging.{IsPending}
pub use Rattle.ckpt_store.specs.Storing.{IsAbove, IsStored, has_savepoint}
pub use Rattle.ckpt_model.specs.State.{is_checkpoint, is_done_checkpoint, is_pending}
pub use Rattle.ckpt_model.specs.Soundness.{id_before}
