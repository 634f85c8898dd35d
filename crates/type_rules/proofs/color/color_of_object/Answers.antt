use Rattle.std.proofs.Common.{refl, codes, None, pos}
use Rattle.json_span.specs.PlainView.{plain_view, plain_fields_view}
use Rattle.dec_fix.specs.Arithmetic.{whole_decimal}
use Rattle.type_rules.specs.declared.fault.ValueRule.TheVariants.{ColorSpace}
use Rattle.type_rules.specs.Forms.{members_in, member, member_or}
use Rattle.type_rules.specs.Words.{word_in, spaces}
use Rattle.type_rules.specs.Value.{components_in, alpha_in, hex_in}
use Rattle.type_rules.specs.Value.{color_in_object}
use Rattle.type_rules.proofs.Breaks.{stays}
use Rattle.type_rules.proofs.color.color_of_object.Goals as goal

pub returns-in_err-members-clause-broken : goal.returns-in_err-members-clause-broken
unfolding color_in_object
returns-in_err-members-clause-broken c = stays (members_in (plain_view c.args.plain.now)) _ _ _ c.from_residual.ensures.1 c.in_err-members.ensures.broken

pub returns-in_err-space-clause-broken : goal.returns-in_err-space-clause-broken
unfolding color_in_object
returns-in_err-space-clause-broken c = rw c.in_ok-members.ensures.ok (stays (member (word_in ColorSpace spaces) (codes "colorSpace") (plain_fields_view c.in_ok-members.members.now)) _ _ _ c.from_residual-in_err-space.ensures.1 c.in_err-space.ensures.broken)

pub returns-in_err-components-clause-broken : goal.returns-in_err-components-clause-broken
unfolding color_in_object
returns-in_err-components-clause-broken c = rw (c.in_ok-members.ensures.ok, c.in_ok-space.ensures.ok) (stays (member (components_in c.in_ok-space.space) (codes "components") (plain_fields_view c.in_ok-members.members.now)) _ _ _ c.from_residual-in_err-components.ensures.1 c.in_err-components.ensures.broken)

pub returns-in_err-alpha-clause-broken : goal.returns-in_err-alpha-clause-broken
unfolding color_in_object
returns-in_err-alpha-clause-broken c = rw (c.in_ok-members.ensures.ok, c.in_ok-space.ensures.ok, c.in_ok-components.ensures.ok) (stays (member_or alpha_in (whole_decimal (pos 1)) (codes "alpha") (plain_fields_view c.in_ok-members.members.now)) _ _ _ c.from_residual-in_err-alpha.ensures.1 c.in_err-alpha.ensures.broken)

pub returns-in_err-hex-clause-broken : goal.returns-in_err-hex-clause-broken
unfolding color_in_object
returns-in_err-hex-clause-broken c = rw (c.in_ok-members.ensures.ok, c.in_ok-space.ensures.ok, c.in_ok-components.ensures.ok, c.in_ok-alpha.ensures.ok) (stays (member_or hex_in None (codes "hex") (plain_fields_view c.in_ok-members.members.now)) _ _ _ c.from_residual-in_err-hex.ensures.1 c.in_err-hex.ensures.broken)

pub returns-clause-ok : goal.returns-clause-ok
unfolding color_in_object
returns-clause-ok c = rw (c.in_ok-members.ensures.ok, c.in_ok-space.ensures.ok, c.in_ok-components.ensures.ok, c.in_ok-alpha.ensures.ok, c.in_ok-hex.ensures.ok) refl
