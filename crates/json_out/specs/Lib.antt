-- A JSON file is read by json_span's own definition of what a text says, with the decimal of a
-- number in the place of its spelling.
--
-- What is promised, with the calls and clauses that carry it:
-- * a token gives a JSON file exactly one member: its path as a string, its type, value,
--   description, extensions (the slice of the source) and effective mark (`fragment`: `body`,
--   `bytes`, `reads`; `frame`)
-- * a file is one object whose members are the tokens' paths in order, each with its value, and
--   reads as nothing else; a slice of a source has the value that it has there; values of one kind
--   that differ have JSON values that differ (`reading_laws`, `fragment_laws`, `sheet_laws`)

pub mod PlatformValue
pub mod Reading
pub mod Properties
pub mod Spelling
pub mod Sheets
pub mod Laws
