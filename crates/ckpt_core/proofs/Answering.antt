-- Calls: what an accepted call leaves, the refusals as the parts find them, and the calls that read or move a file.
pub mod Calls
pub mod Reads
pub mod RefusalLookups
pub mod RefusalRepeats
pub mod Reports
