-- What CSS is to have of a value is a list of marks (`PlatformValue`: numbers, numbers with a unit
-- or `%`, strings by their characters, words, functions, commas, slashes), without bytes and
-- without references. How a text reads as declarations is said for whole texts and for no token
-- (`Reading`); `var()` of a name is a piece of its own, and 256 rounds put in its place what the
-- sheet declares (`Rounds`). `fragment` leaves exactly the bytes of `Spelling` in the draft, and
-- says that they read as its lines. `Denotes` says that a text declares exactly some names and that
-- each has one value and no other; `sheet_laws` says so of every sheet whose tokens' links lead
-- where they should.
--
-- What is promised, with the calls and clauses that carry it:
-- * a token gives a style sheet exactly the lines of the table: its names, each with its value,
--   `var()` exactly where a part refers to a token of its kind and references are wanted; a comment
--   where CSS can't spell the value; its text reads as just these lines (`fragment`: `names`,
--   `body`, `reads`; `frame`)
-- * a text that is read alone reads the same before any other, so a sheet reads as its fragments in
--   a row; a text is one sheet at most (`reading_laws`)
-- * without references a token's lines have its values, and its names differ; each name in the
--   place of a part comes from a link of the part's kind; values of one kind that CSS gets alike
--   are equal but for `hex` (`fragment_laws`)
-- * a style sheet denotes the values of its tokens: of tokens that share no name, whose links lead
--   to tokens of the sheet that have the part as their value, at most 256 one after another,
--   exactly the names are declared, and each has its value and no other after 256 rounds of `var()`
--   (`sheet_laws`)

pub mod Piece
pub mod PlatformValue
pub mod Reading
pub mod Rounds
pub mod Links
pub mod Parts
pub mod Fragment
pub mod Spelling
pub mod Sources
pub mod Sheets
pub mod WithoutHex
pub mod Laws
pub mod inner
