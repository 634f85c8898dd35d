pub mod Escaping
pub mod Joins
mod Parts
mod PathMaps
pub mod Spellings
mod Steps
