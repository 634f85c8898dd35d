-- Walks know no stack. `reach` answers exactly the nodes with a walk to a changed one, both ways,
-- ascending.
--
-- What is promised, with the calls and clauses that carry it:
-- * `reach` answers, ascending, exactly the nodes from which a walk of none or more edges leads to
--   a changed one (`Graph::reach`: `found`, `only`, `ascending`)

pub mod Walk
pub mod Edges
pub mod inner
