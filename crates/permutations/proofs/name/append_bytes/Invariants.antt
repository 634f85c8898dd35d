-- What was appended are the bytes so far, escaped.
use Rattle.std.proofs.Common.{◌≡◌, ◌++◌, take}
use Rattle.std.specs.String.{string_bytes}
use Rattle.permutations.specs.Name.{escaped_name}
use Rattle.permutations.proofs.name.append_bytes.Given as goal

abbrev pub invariant-loop-byte : goal.invariant-loop-byte
invariant-loop-byte l = string_bytes l.out ≡ string_bytes l.fn.out ++ escaped_name (take l.byte-index l.name)
