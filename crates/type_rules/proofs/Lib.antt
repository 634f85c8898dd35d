pub mod Breaks
pub mod Finding
mod Places
mod Eaches
pub mod WordFacts
pub mod Keeping
pub mod LegacyTexts
pub mod Kept
pub mod Leading
pub mod Led
pub mod Somes
pub mod Standing
pub mod TextLaws
