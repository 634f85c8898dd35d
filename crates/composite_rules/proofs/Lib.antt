pub mod ByKind
mod Simples
mod WordFacts
mod Kept
mod Led
mod Somes
mod Typing
mod Placing
