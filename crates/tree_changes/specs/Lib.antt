-- A path is changed where two flat trees differ at it, and reached where a walk of references leads
-- from it to a changed one (`Reached`). `Standing` pairs the tokens of two trees that stand the
-- same, and keeps of these pairs those that are not reached. `Named` is what is known of the tokens
-- that a token names.
--
-- What is promised, with the calls and clauses that carry it:
-- * a path of a tree is reached from a change exactly where it is changed or refers to one that is
--   reached; between a tree and itself none is (`reached_laws`: `one`, `none`)
-- * each token of a flat tree is told its place in an earlier one, where a token of its path stands
--   with the same source, kind and mark, and none exactly where its path is changed
--   (`unchanged_places`)
-- * what an edit or a theme did not touch is found exactly: each token is told its place in an
--   earlier tree where no walk of its references, names at which no token stands included, leads to
--   a path that is changed, and none exactly where one does (`kept_places`: `places`)
-- * each token of a flat tree is what its source shows (`definitions_stand`)

pub mod Reached
pub mod Standing
pub mod Named
pub mod Laws
pub mod inner
