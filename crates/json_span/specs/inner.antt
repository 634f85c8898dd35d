-- What private clauses alone rest on.
pub mod Scan
pub mod Alternatives
pub mod Skipping
pub mod SameContents
pub mod Once
pub mod Escapes
pub mod Names
pub mod Building
pub mod ListsLeft
pub mod NameOrder
pub mod PlainCopies
