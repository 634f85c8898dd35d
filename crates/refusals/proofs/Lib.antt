mod Parts
mod Refusals
pub mod Reports
