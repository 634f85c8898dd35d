-- Routes know no stack. `ring_or_order` answers the cycle of the first closed route, where routes
-- are ordered position by position by the place of the next node among the needs; or, exactly where
-- no route closes, an order of exactly the reached nodes.
--
-- What is promised, with the calls and clauses that carry it:
-- * the cycle of the first closed route from a root, or, exactly where no closed route exists, a
--   topological order of all reached nodes; totals along it, capped at a million; a graph whose
--   nodes have other names has the same rings, orders and values by these names (`ring_or_order`,
--   `capped_totals`, `one_ring`, `one_value`, `one_total`, `renamed_graph`, `renamed_values`)
-- * a graph of finitely many reached nodes has a first closed route, or none is closed, and then no
--   chain of needs goes on for ever and each node has a value; lists are told by std's words
--   (`each_graph_answers`, `grounded_values`; `list_words`)

pub mod Lists
pub mod Routes
pub mod Order
pub mod Values
pub mod Existence
pub mod Renaming
pub mod Graph
pub mod Answer
pub mod Laws
pub mod inner
