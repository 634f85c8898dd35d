-- With the sets that are still to come, all have their rows.
use Rattle.std.proofs.Common.{◌≡◌, ◌++◌, drop, map}
use Rattle.resolver_doc.specs.Rings.{sets_in}
use Rattle.resolver_doc.specs.View.{sets_view}
use Rattle.resolver_doc.proofs.graph.rows.Given as goal

abbrev pub invariant-loop-set : goal.invariant-loop-set
invariant-loop-set l =
    map (λ row. row.items) l.rows.items ++ map (λ s. sets_in s.sources) (sets_view (drop l.set-index l.sets))
    ≡ map (λ s. sets_in s.sources) (sets_view l.sets)
