use Rattle.std.proofs.Common.{refl}
use Rattle.json_span.specs.PlainView.{plain_view}
use Rattle.type_rules.specs.declared.fault.ValueRule.TheVariants.{ColorHex}
use Rattle.type_rules.specs.Checked.{or_broken}
use Rattle.type_rules.specs.Forms.{text_in}
use Rattle.type_rules.specs.Value.{hex_digits}
use Rattle.type_rules.specs.Value.{hex_in}
use Rattle.type_rules.proofs.Breaks.{stays}
use Rattle.type_rules.proofs.color.hex_of.Goals as goal

pub returns-in_err-text-clause-broken : goal.returns-in_err-text-clause-broken
unfolding hex_in
returns-in_err-text-clause-broken c = stays (text_in (plain_view c.args.plain.now)) _ _ _ c.from_residual.ensures.1 c.in_err-text.ensures.broken

pub returns-in_err-digits-clause-broken : goal.returns-in_err-digits-clause-broken
unfolding hex_in
returns-in_err-digits-clause-broken c = rw c.in_ok-text.ensures.ok (stays (or_broken ColorHex (hex_digits c.in_ok-text.text.now)) _ _ _ c.from_residual-in_err-digits.ensures.1 (rw (c.hex_digits.ensures, c.as_str.ensures) at c.in_err-digits.ensures.broken))

pub returns-clause-ok : goal.returns-clause-ok
unfolding hex_in
returns-clause-ok c = rw (c.in_ok-text.ensures.ok, (rw (c.hex_digits.ensures, c.as_str.ensures) at c.in_ok-digits.ensures.ok)) refl
