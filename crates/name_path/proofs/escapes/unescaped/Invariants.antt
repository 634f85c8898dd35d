use Rattle.std.proofs.Common.{◌≡◌, ◌≢◌, ◌++◌, length, All}
use Rattle.std.specs.String.{string_bytes}
use denote.Shadow.{shadow}
use denote.Text.{Utf8}
use Rattle.name_path.specs.Reference.{escaped_step}
use Rattle.name_path.proofs.escapes.unescaped.Given as goal

-- what was read and what is left
abbrev pub invariant-loop-plain : goal.invariant-loop-plain
invariant-loop-plain l = record {
  text : shadow (Utf8 l.left);
  whole : escaped_step (string_bytes l.step) ++ l.left ≡ l.segment;
  plain : All (λ b. b ≢ 47) l.left;
}

abbrev pub decreases-loop-plain : goal.decreases-loop-plain
decreases-loop-plain l = length l.left
