use Rattle.std.proofs.Common.{◌≡◌, List, take}
use Rattle.json_span.specs.Tree.{Entry}
use Rattle.json_span.specs.inner.Names.{AreNamesOf}
use Rattle.json_span.specs.inner.NameOrder.{placed_from}
use Rattle.json_span.proofs.names.sort_names.Given as goal

-- the names so far, as they stand
abbrev pub invariant-loop-place : goal.invariant-loop-place
invariant-loop-place l = (es : List Entry) → AreNamesOf l.text l.names es → l.sorted.items ≡ placed_from 0 (take l.place es)
