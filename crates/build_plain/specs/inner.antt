pub mod Keeping
pub mod Making
pub mod OneTree
pub mod Outcomes
