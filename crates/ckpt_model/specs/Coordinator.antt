-- The definition of a coordinator: the names that contracts on it cite most, passed on from one place. Declares nothing.
pub use Rattle.ckpt_model.specs.State.{State, choice_of, opened}
pub use Rattle.ckpt_model.specs.Steps.{step}
pub use Rattle.ckpt_model.specs.Refusals.{pending_of, refusal}
pub use Rattle.ckpt_model.specs.Memory.{answer_wants, may_want_memory}
pub use Rattle.ckpt_model.specs.Opening.{open_fault}
pub use Rattle.ckpt_model.specs.Soundness.{IsCall, IsSound}
