pub mod Orders
pub mod Parts
pub mod Expanding
pub mod Counting
pub mod Drafts
