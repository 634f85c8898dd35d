pub mod Ways
pub mod Saying
pub mod Holding
pub mod Showing
