-- The first few names are added.
use Rattle.std.proofs.Common.{◌≡◌, ◌++◌, take}
use Rattle.transforms.proofs.frag.push_each.Given as goal

abbrev pub invariant-loop-name : goal.invariant-loop-name
invariant-loop-name l = l.texts ≡ l.fn.texts ++ take l.name-index l.names
