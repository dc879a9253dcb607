-- The lemmas that the proofs use.
pub mod BeginLemmas
pub mod EachLemmas
pub mod FileLemmas
pub mod FirstNumbers
pub mod KeywordLemmas
pub mod LineLemmas
pub mod ListLemmas
mod Names
pub mod NumberLemmas
pub mod NumberWords
pub mod PieceLemmas
pub mod PlaceLemmas
pub mod ReadBack
pub mod ReadingLaws
pub mod SubtaskLemmas
pub mod UsualLemmas
pub mod WordSplits
pub use BeginLemmas.*
pub use EachLemmas.*
pub use FileLemmas.*
pub use FirstNumbers.{Reads-all, Short, Short-fits, Short-more, Short-none, after_sign, file_at-Err, file_at-None, file_at-Some, file_at-empty, number_at-None, number_at-Some, number_at-empty}
pub use KeywordLemmas.*
unfoldable pub use Names.*
pub use NumberLemmas.*
pub use PieceLemmas.*
pub use PlaceLemmas.*
pub use ReadBack.{config, job_of, start}
pub use ReadingLaws.*
pub use SubtaskLemmas.*
pub use UsualLemmas.*
pub use WordSplits.*
