use Rattle.std.proofs.Common.{◌≡◌, take}
use Rattle.tk_io.proofs.text.shared.Given as goal

abbrev pub invariant-loop-text : goal.invariant-loop-text
invariant-loop-text l = l.owned.items ≡ take l.text-index l.texts
