-- Groups are named by their paths. `over` is the merging of two groups, and `over_by_name` says
-- what stands at each name. A group `needs` its child groups in byte order of names and then its
-- target; `lost_targets` lists the groups whose target is no group, in path order. Cycles and their
-- order are `ring`'s, over paths as nodes; `Counts` and `Heights` are the values that come from
-- those of what a group needs (`ring`'s `Comes`), and `Expands` is a relation with a constructor
-- for a group, whose child groups and target are expanded before it; so they hold of something
-- exactly where nothing needs itself. `flat_of` is the flat tree of an expanded group: each token's
-- path, its definition, and the `$type` and `$deprecated` of the nearest group upwards that has
-- one.
--
-- `flatten` answers a flat tree only for a tree that breaks no rule (`sound`), and then the one of
-- the root's expansion (`ok`); and a fault only where it is the rule that the tree breaks first
-- (`broken`). `one_answer` says that no tree has two answers, and `each_tree_answers` that each has
-- one. The code numbers the groups, keeps of each a row of its `children` and its `target`, and
-- goes along an order of needs. `ring`'s laws on graphs whose nodes are renamed carry counts,
-- heights and cycles to the paths; expansions need no carrying, since the table holds of each
-- number what `Expands` says of its path.
--
-- What is promised, with the calls and clauses that carry it:
-- * a tree is expanded and made flat, or refused exactly where it breaks a rule of extension: the
--   first target in path order that is no group, the cycle of the first closed route of needs, a
--   count above 16,384 or a height above 64, with that group, ring, count or height and the place
--   (`flatten`: `ok`, `sound`, `broken`, `step`)
-- * a flat tree is a finite map from path to token, and the list of its entries, ascending in path
--   order (`Flat::as_slice`: `entries`, `ascending`; `get`, `at`, `len`, `put`)
-- * one group over another has, at each name, what the two groups have there; sources are folded in
--   order, and one source alone is its own shape (`over`, `over_by_name`, `merged_in_order`)
-- * at each name of an expanded group stands its own token, or the expansion of its child group
--   over what the target has there, or what the target has there; a group has one expansion
--   (`expanded_by_name`)
-- * the flat tree has at each path the token to which its names lead in the expanded tree, and is
--   the list of these in ascending path order; members ascend at every level; the lost targets are
--   just those that are no group, in path order (`flat_by_path`, `ordered_trees`, `lost_in_order`)
-- * a tree has one flat tree, and breaks one rule first; and each tree whose members ascend breaks
--   a rule of extension, or breaks none and has a flat tree (`one_answer`, `each_tree_answers`)

pub mod Merging
pub mod Ordered
pub mod Extension
pub mod Expansion
pub mod Putting
pub mod Flattening
pub mod Span
pub mod Answer
pub mod Laws
pub mod Codes
pub mod View
pub mod inner
