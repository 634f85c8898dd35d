-- As css_out has it for style sheets: what an element is to hold (`PlatformValue`), how a text
-- reads as elements (`Reading`), the bytes (`Spelling`), and `sheet_laws` over whole files. Nothing
-- refers there, so no rounds are needed.
--
-- What is promised, with the calls and clauses that carry it:
-- * a token gives a resource file exactly the elements of the table under its names, or a comment
--   where Android can't have the value; its text reads as just these (`fragment`: `names`, `body`,
--   `base`, `reads`; `frame`)
-- * a text that is read alone reads the same before any other; a text is one file at most; a file
--   of tokens that share no name has exactly these names, each with its value (`reading_laws`,
--   `fragment_laws`, `sheet_laws`)

pub mod Element
pub mod PlatformValue
pub mod Spelling
pub mod Reading
pub mod Sheets
pub mod Laws
pub mod inner
