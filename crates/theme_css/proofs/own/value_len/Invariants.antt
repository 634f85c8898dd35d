-- The bytes so far do not end the value.
use Rattle.std.proofs.Common.{◌≡◌, take, false, fold}
use Rattle.theme_css.specs.Sheet.{is_over, next_standing}
use Rattle.theme_css.specs.declared.own.Standing.TheVariants.{Plain}
use Rattle.theme_css.proofs.own.value_len.Given as goal

abbrev pub invariant-loop-i : goal.invariant-loop-i
invariant-loop-i l = (l.standing ≡ fold next_standing Plain (take l.i l.text)) × (is_over l.standing ≡ false)
