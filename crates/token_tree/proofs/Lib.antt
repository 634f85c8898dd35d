pub mod PartsWithoutFlaws
pub mod Keeps
pub mod Moved
pub mod NameLists
pub mod Names
pub mod Objects
pub mod Places
pub mod Targets
mod Children
mod Groups
mod Listed
mod NamesStand
mod OneAnswer
mod Order
mod ShapesOfSlices
mod SortedLists
mod Sound
mod StableSorts
mod Steps
mod Weights
