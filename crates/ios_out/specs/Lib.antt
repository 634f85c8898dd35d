-- As android_out has it for elements: what a constant is to hold, how a text reads as constants,
-- the bytes, and `sheet_laws` over whole files.
--
-- What is promised, with the calls and clauses that carry it:
-- * a token gives a Swift file exactly the constants of the table under its names, or a comment
--   where Swift can't have the value; its text reads as just these (`fragment`: `names`, `body`,
--   `base`, `reads`; `frame`)
-- * a text that is read alone reads the same before any other; a text is one file at most; a file
--   of tokens that share no name has exactly these names, each with its value (`reading_laws`,
--   `fragment_laws`, `sheet_laws`)

pub mod Constant
pub mod PlatformValue
pub mod Spelling
pub mod Reading
pub mod Sheets
pub mod Laws
pub mod inner
