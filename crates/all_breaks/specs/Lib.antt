-- `Tells settings files permutation reports` says what is told of a permutation: the first break of
-- each of its sources, where one has a break, or else all that build_plain's `Finds` finds in its
-- tree. `AllTold files told` lays the permutations of the plan behind one another: a break that
-- reads like one before adds its permutation's name to that.
--
-- What is promised, with the calls and clauses that carry it:
-- * what is told of files is the one break of a configuration or a plan that breaks a rule, or for
--   each permutation of the plan all its breaks, in this order: of each source the first, or of the
--   merged tree the first, or of each token in path order the first and then each pair of tokens
--   that have one name, on CSS, Android and Swift; breaks that read the same are told once, with the
--   names of their permutations (`all_breaks`: `ok`)
-- * each file in use is read once, each merged tree is made flat once, and each token evaluated
--   once, as a build does it; no more where memory runs out (`all_breaks`: `work`, `at_most`)
-- * something is told of a permutation exactly where its outputs are a refusal, and the first that
--   is told is the one that the refusal tells (`first_is_refused`)
-- * files have one list of breaks (`one_listing`)
-- * of permutations exactly the breaks that they have are told, each with exactly the names of
--   those that have it, and no two read the same (`told_are_had`: `had`, `differ`)
-- * the text of a list: each break's permutations, a line each, and its lines, with an empty line
--   between two breaks (`listing`)

pub mod Told
pub mod Telling
pub mod All
pub mod Laws
pub mod inner
