-- The hops so far hold, and with those that are left all hold.
use Rattle.std.proofs.Common.{[], take, drop}
use Rattle.explain.specs.inner.Ways.{Knows}
use Rattle.explain.specs.inner.Holding.{EachHolds}
use Rattle.explain.proofs.checking.all_hold.Given as goal

abbrev pub invariant-loop-hop : goal.invariant-loop-hop
invariant-loop-hop l =
    Knows (take l.hop-index l.hops) l.ways
    × (EachHolds l.flat (take l.hop-index l.hops) (drop l.hop-index l.hops) → EachHolds l.flat [] l.hops)
    × (EachHolds l.flat [] l.hops → EachHolds l.flat (take l.hop-index l.hops) (drop l.hop-index l.hops))
