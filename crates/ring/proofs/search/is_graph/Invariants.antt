use Rattle.std.proofs.Common.{◌<◌, length, take, All}
use Rattle.ring.proofs.search.is_graph.Given as goal

-- the needs of the rows so far are nodes
abbrev pub invariant-loop-row : goal.invariant-loop-row
invariant-loop-row l = All (λ row. All (λ w. w < length l.graph) row.items) (take l.row-index l.graph)
