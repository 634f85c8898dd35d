pub mod Places
pub mod Links
pub mod Forgetting
pub mod Settling
