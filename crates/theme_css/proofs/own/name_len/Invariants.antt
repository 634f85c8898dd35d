-- The bytes so far are those of a name.
use Rattle.std.proofs.Common.{◌≡◌, take, true}
use Rattle.std.specs.List.{list_all}
use Rattle.css_out.specs.Reading.{in_name}
use Rattle.theme_css.proofs.own.name_len.Given as goal

abbrev pub invariant-loop-i : goal.invariant-loop-i
invariant-loop-i l = list_all in_name (take l.i l.text) ≡ true
