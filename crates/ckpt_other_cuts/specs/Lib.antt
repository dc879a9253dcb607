-- The definitions that contracts cite.
pub mod Finished
pub mod Loose
pub mod Rescaled
pub mod Reshaped
pub mod Restarted
pub mod Resumed
pub mod Stops
pub mod WorkedExamples
pub mod WorkedRecorders
pub mod WorkedRestarts
pub mod WorkedResumes
pub mod WorkedShapes
