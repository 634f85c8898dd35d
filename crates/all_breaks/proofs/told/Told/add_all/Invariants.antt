-- With those that are still to come it is all of them.
use Rattle.std.proofs.Common.{◌≡◌, drop}
use Rattle.all_breaks.specs.Told.{with_breaks}
use Rattle.all_breaks.proofs.told.Told.add_all.Given as goal

abbrev pub invariant-loop-text : goal.invariant-loop-text
invariant-loop-text l = with_breaks l.self l.name (drop l.text-index l.texts) ≡ with_breaks l.initial.self l.name l.texts
