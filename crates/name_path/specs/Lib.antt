-- `SpellsPath`, `SpellsPlace` and `SpellsGroup` say which texts refer to what (RFC 6901 for
-- pointers). Each reader answers what its text spells, and `BadRef` exactly where the text spells
-- nothing. A text spells one thing, and what `print_place` writes is a pointer to that place alone,
-- for every path that a token can have. The order of paths is the lexicographic one over names,
-- proved to be a total order; `PathMap` is a finite map over it.
--
-- What is promised, with the calls and clauses that carry it:
-- * curly aliases, pointers and group references are read exactly by their spellings, and refused
--   exactly where they have none; a text has one reading, and what is printed of a place is a
--   pointer to that place alone (`read_curly`, `read_pointer`, `read_group`; `one_path`,
--   `one_place`, `one_group`, `place_reads_back`)
-- * paths are ordered name by name, each by its bytes; values under paths are a finite map, and the
--   list of its entries in path order (`Path`, `PathMap`)

pub mod Names
pub mod Reference
pub mod Kinds
pub mod inner
