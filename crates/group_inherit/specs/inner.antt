pub mod View
pub mod Halves
pub mod Numbering
pub mod Tables
pub mod Checking
pub mod Bare
pub mod Faults
pub mod Outcomes
