-- `Cascade` says which value a name has on a page of given attributes by a sheet of several blocks,
-- as CSS has it: a block matches where each attribute of its selector is one of the page's; of the
-- matching blocks that declare the name the one with the most attributes holds, and of several with
-- as many the last; `initial` is none. `Sheet` says what the lines of a permutation's own sheet
-- declare, as texts, and how blocks are spelled. `Blocks` says what each block declares: what the
-- cascade over the blocks before it leaves to be said, and no more. `Denoting` reads the values that
-- the cascade gives as css_out's `Reads` reads those of a sheet of one block: `var()` is a piece of
-- its own, and is put in place by what the page has for its name. `Themes` has the order of blocks,
-- the names that no selector can hold, and the sheet of files.
--
-- What is promised, with the calls and clauses that carry it:
-- * the sheet of files is the blocks of their permutations, first by how many of its contexts are
--   not the usual ones and then in the order of permutations, and each declares exactly the names
--   whose value on its permutation's page differs from that in the permutation's own sheet, in the
--   order of that sheet, and then `initial` for those that have none there, in byte order; a block
--   that declares nothing is not written, but for the first (`themes`: `sheet`); files have one such
--   sheet (`one_sheet`)
-- * what the cascade takes for a name is said by a block that wins over each before and each behind
--   it, and it takes nothing only where no block that matches declares the name (`cascade_laws`)
-- * on a page of a permutation's attributes each name has the value that its own sheet declares, and
--   no other name has one (so `shows_each` of `IsSheetOf`); so each name denotes there what it denotes
--   in that sheet, and nothing else, with each `var()` put in place by the page (so `denotes_each` of
--   `IsThemeSheet`)
-- * a refusal among the outputs is told exactly where there is one, and it is the first in byte
--   order; else a name that no selector can hold is told exactly where there is one, and it is the
--   first, modifiers in order and after each its contexts; memory may always run out (`themes`:
--   `stop`, `refused`, `named`)
--
-- That each name of the outputs' own sheets is declared there once, and that the sheets read line by
-- line, is looked at when a sheet is made: `NoMemory` is answered of others, which no build makes.

pub mod Cascade
pub mod Blocks
pub mod Sheet
pub mod Denoting
pub mod Themes
pub mod Laws
pub mod inner
