-- `IsCell` gives a token its first break (`IsTokenBreak`: of the walk of its references, else a
-- missing type, else of its value) or what it gives to each platform. `Means` of alias_ref,
-- `value_of` of composite_rules and the `Denotes` of the four writers meet in `sheets_denote` and
-- `other_sheets_denote`: the value that a name has on a platform is the one that the token's
-- references mean, read under its kind. Their premises come from laws of the layers below: links
-- are real and at most 256 follow one another (alias_ref), what stands at the steps of a link is a
-- part of its kind (composite_rules), no two tokens share a name (transforms), paths and
-- definitions are sound (source_trees).
--
-- What is promised, with the calls and clauses that carry it:
-- * a token comes to its four fragments or to its first break, as the flat tree, the path and the
--   configuration decide; cells hold places and no offsets; each is one step, also where it is
--   taken from an earlier tree (`cell`: `cell`, `step`; `cells_of`; `one_cells`)
-- * a token from which no walk of references leads to a change comes in a new tree to what it came
--   to in the old one, wherever its file stands (`unchanged_cells`)
-- * a token that is not reached comes in both trees, where their definitions are what their sources
--   show, to the same under one configuration, refused or not, wherever its file stands; so the
--   cells of a tree may be taken from any other, but for the tokens that are reached
--   (`unreached_cells`: `alike`, `taken`)
-- * each token of a flat tree that texts define comes to something under settings that a
--   configuration can have, and to one thing (`each_cell`: `one`, `all`; `one_cells`)
-- * the text of the first break of a flat tree's tokens, and none exactly where there is none; a
--   sheet is the fragments of its tokens in their format's frame (`verdict_text`, `sheet_of`)
-- * the texts of all breaks of a flat tree's tokens, in their order (`break_texts`)
-- * sheets denote what tokens mean: where cells have no break, the bytes of the style sheet are
--   read as one sheet that declares exactly the names of the tokens, each with the value that the
--   token's whole value means, read under its kind, after 256 rounds of `var()`; each name that
--   stands for a part is that of a token with that part as its value; the files for Android and
--   Swift have exactly the names and values that their platforms are to have; and the file for
--   programs is one JSON object, and no other, with one member for each token, in their order: its
--   path joined by `.`, its type, its value with all parts, its description, the value that the
--   slice of its `$extensions` has, and the mark of deprecation that holds for it
--   (`sheets_denote`, `other_sheets_denote`)
-- * what is told of a token's break holds: a cycle is real, a wrong spelling and a lost target
--   stand where they are told, where a walk is told to be too deep or too big as many places or
--   visits come before the place, a token that lacks a type breaks no rule of references and
--   nothing gives it a kind, and a rule of values is broken there by what the token means; it is
--   told in the file of a definition that is there, at the span of the place in it; a clash that is
--   told is one, and none is told exactly where no token has a name of an earlier one
--   (`breaks_are_real`, `clashes_are_real`)
-- * of a value under a kind with parts the first broken part in the order of the kind's row is told,
--   a missing one at its object; of a list the first broken item, and the list itself where its
--   length is wrong; of a curve and of a colour's components a broken form before a number out of
--   its range (`value_row_laws`)

pub mod TokenCell
pub mod Cell
pub mod Evaluated
pub mod Breaks
pub mod Sheets
pub mod Denotes
pub mod OtherSheets
pub mod Laws
pub mod ValueRows
pub mod Existence
pub mod inner
