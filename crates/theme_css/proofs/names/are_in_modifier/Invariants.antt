-- The bytes so far are right.
use Rattle.std.proofs.Common.{◌≡◌, drop}
use Rattle.std.specs.List.{list_all}
use Rattle.theme_css.specs.Themes.{in_modifier}
use Rattle.theme_css.proofs.names.are_in_modifier.Given as goal

abbrev pub invariant-loop-byte : goal.invariant-loop-byte
invariant-loop-byte l = list_all in_modifier (drop l.byte-index l.name) ≡ list_all in_modifier l.name
