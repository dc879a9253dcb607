-- A step is a refusal or an effect: the table of refusals, and what an accepted call may rely on.
pub mod Accepted
pub mod RefusalRows
pub mod StepCases
