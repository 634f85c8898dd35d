use Rattle.std.proofs.Common.{◌≡◌, ◌-◌}
use Rattle.generated_script.specs.Tokens.{literal}
use Rattle.generated_script.proofs.core_file.literal.Given as goal

abbrev pub invariant-loop-edit : goal.invariant-loop-edit
invariant-loop-edit l = l.number ≡ literal l.seed l.size (l.edit - 1) l.i
