-- What clauses on the parts say of files: which are in use, wait or are released. Passed on from one place; declares nothing.
pub use Rattle.ckpt_ids.specs.Ascending.{IsAscending, ascending}
pub use Rattle.ckpt_ids.specs.Ordered.{AreDistinct}
pub use Rattle.ckpt_ids.specs.Records.{is_present, released}
pub use Rattle.ckpt_registry.specs.Uses.{after_end, without}
pub use Rattle.ckpt_outbox.specs.Queues.{is_in, is_known}
