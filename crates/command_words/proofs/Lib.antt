pub mod ClapDecides
pub mod CommandsSpelled
pub mod NumbersSpelled
pub mod PositionalWords
