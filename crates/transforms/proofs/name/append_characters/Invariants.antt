-- What was appended are the characters so far, spelled.
use Rattle.std.proofs.Common.{◌≡◌, ◌++◌}
use Rattle.std.specs.List.{flat_map}
use Rattle.transforms.specs.PlatformName.{spelled_char}
use Rattle.transforms.proofs.name.append_characters.Given as goal

abbrev pub invariant-loop-c : goal.invariant-loop-c
invariant-loop-c l = l.out ≡ l.fn.out ++ flat_map (spelled_char l.platform) l.yielded
