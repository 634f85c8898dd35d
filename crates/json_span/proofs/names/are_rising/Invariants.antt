use Rattle.std.proofs.Common.{List}
use Rattle.json_span.specs.Tree.{Entry}
use Rattle.json_span.specs.inner.Names.{AreNamesOf}
use Rattle.json_span.proofs.RisingNames.{RiseTo}
use Rattle.json_span.proofs.names.are_rising.Given as goal

-- the names so far rise, so that none repeats another
abbrev pub invariant-loop-i : goal.invariant-loop-i
invariant-loop-i l = (es : List Entry) → AreNamesOf l.text l.names es → RiseTo es l.i
