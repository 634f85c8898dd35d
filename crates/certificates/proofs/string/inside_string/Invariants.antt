use Rattle.std.proofs.Common.{◌≤◌, length}
use Rattle.std.specs.String.{string_bytes}
use denote.Shadow.{shadow}
use denote.Text.{Utf8}
use Rattle.certificates.proofs.Strings.{IsReadTo}
use Rattle.certificates.proofs.string.inside_string.Given as goal

-- what was read and what is left
abbrev pub invariant-loop-plain : goal.invariant-loop-plain
invariant-loop-plain l = record {
  text : shadow (Utf8 l.left);
  reads : IsReadTo l.text (string_bytes l.characters) l.left;
  short : length l.left ≤ length l.text;
}

abbrev pub decreases-loop-plain : goal.decreases-loop-plain
decreases-loop-plain l = length l.left
