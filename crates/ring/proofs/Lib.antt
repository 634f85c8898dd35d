mod ApartLists
pub mod Ends
mod Frames
pub mod FirstRoutes
pub mod ListWords
pub mod Once
pub mod Renamings
mod Searches
pub mod Sums
pub mod Turns
pub mod Unique
pub mod ValuesExist
pub mod Within
mod Work
