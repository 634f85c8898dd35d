pub mod Lists
pub mod Names
pub mod Listed
pub mod Outcomes
