-- `IsMergedOf` lays the sources of a permutation over one another in their order (group_inherit's
-- `merged`), or gives the first break; `read_named` reads each file once, and `merge_of` is
-- `flatten` as a value that can be kept. `one_merge` says that sources have one list of breaks, one
-- of trees, one merged tree or first break and one flat tree; `merged_by_content` that these are
-- the same for other files and other lists, where each source holds the same. `merged_tokens`
-- carries to the flat tree of all sources what token_tree says of one file: paths, definitions, and
-- that each stands in its file.
--
-- What is promised, with the calls and clauses that carry it:
-- * the sources of a permutation come to one tree, each laid over those before, or to the first
--   break in their order: a file that is absent, its JSON, its shape; each file in use is read
--   once, as one step; what they come to is one thing, decided by what each source holds: the
--   file's name and text, or the object's slice and start (`read_named`, `shapes_since`,
--   `shapes_of`, `merged_sources`, `merge_of`; `shapes_known`, `one_merge`, `merged_by_content`)
-- * the tokens of a flat tree of sources without a break stand at paths that tokens can have, each
--   is a definition, and its source is the slice of its file's text between its offsets
--   (`merged_tokens`)
-- * any sources come to trees or breaks, and their merged tree has its members in order; where the
--   files are texts, so are the names, marks and sources of merged tokens (`each_merge`;
--   `merged_tokens`: `texts`)
-- * the list of a token file's breaks is what the rules say: `ShapeRules` states, place by place, what
--   stands where in a file and which place breaks which rule, and each entry is such a break and each
--   such break an entry (`shape_rule_laws`)
-- * a group needs its child groups in byte order of names, and then its target; its count is the
--   number of its members and the counts of all that it needs; of a ring the first group is told
--   whose target is the ring's next one (`extension_rule_laws`)

pub mod Texts
pub mod Sources
pub mod View
pub mod Trees
pub mod Reading
pub mod Merging
pub mod Merges
pub mod Contents
pub mod MergedTokens
pub mod ShapeRules
pub mod ExtensionRules
pub mod Laws
pub mod inner
