use Rattle.std.proofs.Common.{◌≡◌, ◌++◌, codes}
use Rattle.std.specs.List.{flat_map, range_with_len}
use Rattle.generated_script.specs.Tokens.{generated_token}
use Rattle.generated_script.proofs.core_file.core_text.Given as goal

abbrev pub invariant-loop-i : goal.invariant-loop-i
invariant-loop-i l =
    l.text ≡ codes "{\"t\":{\"$type\":\"dimension\"" ++ flat_map (generated_token l.seed l.size l.edits) (range_with_len 0 l.i)
