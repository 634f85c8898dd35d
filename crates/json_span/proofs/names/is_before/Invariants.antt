use Rattle.std.proofs.Common.{◌≡◌, List, [], take, false, Some, slice_get}
use Rattle.json_span.specs.Tree.{Entry}
use Rattle.json_span.specs.Flaw.{is_seen}
use Rattle.json_span.specs.inner.Names.{AreNamesOf, reversed_names}
use Rattle.json_span.proofs.names.is_before.Given as goal

-- none of those so far
abbrev pub invariant-loop-k : goal.invariant-loop-k
invariant-loop-k l = (es : List Entry) (e : Entry) → AreNamesOf l.text l.names es → slice_get es l.i ≡ Some e → is_seen (reversed_names (take l.k es) []) e.name ≡ false
