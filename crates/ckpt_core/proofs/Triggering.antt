-- Ticks, and the triggers of checkpoints and savepoints: what they do to the parts is what they do to the state.
pub mod Chosen
pub mod TickParts
pub mod TickStates
pub mod TriggerParts
