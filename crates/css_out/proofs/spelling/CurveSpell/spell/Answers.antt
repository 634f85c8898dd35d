use Rattle.std.proofs.Common.{refl}
use Rattle.css_out.proofs.spelling.CurveSpell.spell.Goals as goal

pub returns : goal.returns
returns c = rw (c.in_ok-closes.ensures, c.in_ok-number-4.ensures, c.in_ok-comma-3.ensures, c.in_ok-number-3.ensures, c.in_ok-comma-2.ensures, c.in_ok-number-2.ensures, c.in_ok-comma.ensures, c.in_ok-number.ensures, c.in_ok-opens.ensures) refl
