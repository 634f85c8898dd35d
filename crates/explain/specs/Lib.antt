-- `Valid` says when a certificate holds of a flat tree: each hop is a written reference that leads
-- to its target, where each place before a step is settled by the hops before it alone; the place
-- that is explained settles by all hops at the end, which is no reference; and files and spans are
-- those of the tree. It knows nothing of how hops are found. `AreHopsOf` says which hops explain a
-- place, and in which order: of a reference those that explain each place before a step, then its own,
-- and then those that explain the place to which it leads.
--
-- What is promised, with the calls and clauses that carry it:
-- * whether a place is written is told exactly (`written`)
-- * whether a certificate is valid is told exactly, whoever made it (`verify`)
-- * the certificate of a written place, in a tree of which no token breaks a rule of references, is
--   valid, and its hops are those that explain the place, in their order, none twice (`show`); where
--   the tree's tokens have a place in the lines of certificates (`HasLines`), it is spelled by its
--   lines, and so is any that is valid there (`show`: `spelled`; `valid_is_spelled`)
-- * of a valid certificate each hop leads to its target, the place that is explained settles at the
--   end, and the end is no reference; what the end means, the place means; and valid certificates of
--   one place have one end (`valid_explains`, `explained_value`)

pub mod Following
pub mod Validity
pub mod Needs
pub mod Laws
pub mod inner
