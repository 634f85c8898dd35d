use Rattle.std.proofs.Common.{◌≡◌, List, [], take, drop}
use Rattle.json_span.specs.Tree.{Entry}
use Rattle.json_span.specs.inner.Names.{AreNamesOf, names_flaw, reversed_names}
use Rattle.json_span.proofs.names.flaw_in_pairs.Given as goal

-- the flaw is still to come
abbrev pub invariant-loop-i : goal.invariant-loop-i
invariant-loop-i l = (es : List Entry) → AreNamesOf l.text l.names es → names_flaw [] es ≡ names_flaw (reversed_names (take l.i es) []) (drop l.i es)
