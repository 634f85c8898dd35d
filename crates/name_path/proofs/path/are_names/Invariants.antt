use Rattle.std.proofs.Common.{take}
use Rattle.name_path.specs.Names.{AreNames}
use Rattle.name_path.proofs.path.are_names.Given as goal

abbrev pub invariant-loop-name : goal.invariant-loop-name
invariant-loop-name l = AreNames (take l.name-index l.names)
