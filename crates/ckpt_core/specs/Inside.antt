-- What private functions say of the parts; no promise of a public function rests on believing it.
pub mod Completing
pub mod Expiring
pub mod FileFacts
pub mod Grouped
pub mod Loading
pub mod Moving
pub mod Parts
pub mod PendingRecords
pub mod RecordFacts
pub mod Settings
pub mod SoundRecords
pub mod Starting
