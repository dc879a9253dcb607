-- What contracts of private functions cite, and the definitions of `ckpt_model`, passed on to callers that cite them.
pub mod Inside
pub use Rattle.ckpt_model.specs.Coordinator
pub use Rattle.ckpt_model.specs.FaultTexts
pub use Rattle.ckpt_model.specs.Histories
pub use Rattle.ckpt_model.specs.Images
pub use Rattle.ckpt_model.specs.Interleavings
pub use Rattle.ckpt_model.specs.Laws
pub use Rattle.ckpt_model.specs.Memory
pub use Rattle.ckpt_model.specs.Opening
pub use Rattle.ckpt_model.specs.Reads
pub use Rattle.ckpt_model.specs.Refusals
pub use Rattle.ckpt_model.specs.Soundness
pub use Rattle.ckpt_model.specs.State
pub use Rattle.ckpt_model.specs.Steps
