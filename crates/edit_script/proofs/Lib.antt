mod Cuts
pub mod Deltas
pub mod Outcomes
pub mod Readings
mod Rising
mod Segments
pub mod Spelled
pub mod Standing
pub mod Stats
pub mod UnfitEvents
pub mod Written
