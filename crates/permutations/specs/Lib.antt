-- `choices` is every way to take a set, or one context of a modifier, from each item in order; a
-- permutation has the name of its choices and the sources of what was taken, with each reference to
-- a set replaced by what the set comes to. `list` answers exactly these where there are at most 64,
-- with at most 1,024 sources each. `source_laws` says that a set comes to what its sources come to,
-- so the depth in the definition does not matter.
--
-- What is promised, with the calls and clauses that carry it:
-- * the permutations of a resolver are one for each way to choose a context for each modifier, the
--   last modifier fastest, each with its name and its sources in order; too many of them, or of the
--   sources of one, are told exactly, up to a million (`list`: `perms`, `within`, `fault`)
-- * the choices are all ways to pick one of each item, each once, the contexts of a modifier in
--   their order and the first item weighing most, and as many as the product (`choice_laws`)
-- * each plan is within the limits, or beyond one of them (`each_list_answers`)
-- * names of different choices are different, and so are the names of a document's permutations
--   where contexts of one modifier differ in name; a set comes to what its sources come to; tokens
--   among the sources are parts of the document, and a string of it names each file (`name_laws`,
--   `source_laws`)

pub mod Name
pub mod Permutation
pub mod Choices
pub mod View
pub mod Answer
pub mod Laws
pub mod inner
