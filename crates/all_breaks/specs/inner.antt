pub mod Putting
pub mod Making
pub mod Listing
