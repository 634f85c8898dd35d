pub mod Causes
pub mod Edits
pub mod Ending
pub mod Gathered
pub mod Step
pub mod View
