use Rattle.std.proofs.Common.{◌≡◌, ◌++◌, take}
use Rattle.name_path.specs.Reference.{escaped_step}
use Rattle.name_path.proofs.escapes.append_bytes.Given as goal

abbrev pub invariant-loop-byte : goal.invariant-loop-byte
invariant-loop-byte l = l.out ≡ l.initial.out ++ escaped_step (take l.byte-index l.step)
