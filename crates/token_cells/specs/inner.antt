pub mod Making
pub mod Kept
pub mod AddedToPages
pub mod Blocks
pub mod Earlier
pub mod Turns
pub mod Typing
