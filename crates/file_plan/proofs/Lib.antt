mod OnePlans
mod EachPlans
mod SoundPlans
mod FoundPlans
mod FileMaps
pub mod FilesInUse
pub mod EventsTaken
mod ToldPlans
