use Rattle.std.proofs.Common.{refl, codes}
use Rattle.json_span.specs.PlainView.{plain_view, plain_fields_view}
use Rattle.std.specs.Prelude.{false}
use Rattle.type_rules.specs.Forms.{members_in, member, member_or}
use Rattle.type_rules.specs.Value.{color_in, size_in}
use Rattle.type_rules.proofs.Breaks.{stays}
use Rattle.composite_rules.specs.Value.{shadow_item_in, boolean_in}
use Rattle.composite_rules.proofs.shadow.ShadowItemPart.check.Goals as goal

pub returns-in_err-members-clause-broken : goal.returns-in_err-members-clause-broken
unfolding shadow_item_in
returns-in_err-members-clause-broken c = stays (members_in (plain_view c.args.plain.now)) _ _ _ c.from_residual.ensures.1 c.in_err-members.ensures.broken

pub returns-in_err-color-clause-broken : goal.returns-in_err-color-clause-broken
unfolding shadow_item_in
returns-in_err-color-clause-broken c = rw c.in_ok-members.ensures.ok (stays (member (color_in c.args.legacy) (codes "color") (plain_fields_view c.in_ok-members.members.now)) _ _ _ c.from_residual-in_err-color.ensures.1 c.in_err-color.ensures.broken)

pub returns-in_err-offset_x-clause-broken : goal.returns-in_err-offset_x-clause-broken
unfolding shadow_item_in
returns-in_err-offset_x-clause-broken c = rw (c.in_ok-members.ensures.ok, c.in_ok-color.ensures.ok) (stays (member (size_in c.args.legacy) (codes "offsetX") (plain_fields_view c.in_ok-members.members.now)) _ _ _ c.from_residual-in_err-offset_x.ensures.1 c.in_err-offset_x.ensures.broken)

pub returns-in_err-offset_y-clause-broken : goal.returns-in_err-offset_y-clause-broken
unfolding shadow_item_in
returns-in_err-offset_y-clause-broken c = rw (c.in_ok-members.ensures.ok, c.in_ok-color.ensures.ok, c.in_ok-offset_x.ensures.ok) (stays (member (size_in c.args.legacy) (codes "offsetY") (plain_fields_view c.in_ok-members.members.now)) _ _ _ c.from_residual-in_err-offset_y.ensures.1 c.in_err-offset_y.ensures.broken)

pub returns-in_err-blur-clause-broken : goal.returns-in_err-blur-clause-broken
unfolding shadow_item_in
returns-in_err-blur-clause-broken c = rw (c.in_ok-members.ensures.ok, c.in_ok-color.ensures.ok, c.in_ok-offset_x.ensures.ok, c.in_ok-offset_y.ensures.ok) (stays (member (size_in c.args.legacy) (codes "blur") (plain_fields_view c.in_ok-members.members.now)) _ _ _ c.from_residual-in_err-blur.ensures.1 c.in_err-blur.ensures.broken)

pub returns-in_err-spread-clause-broken : goal.returns-in_err-spread-clause-broken
unfolding shadow_item_in
returns-in_err-spread-clause-broken c = rw (c.in_ok-members.ensures.ok, c.in_ok-color.ensures.ok, c.in_ok-offset_x.ensures.ok, c.in_ok-offset_y.ensures.ok, c.in_ok-blur.ensures.ok) (stays (member (size_in c.args.legacy) (codes "spread") (plain_fields_view c.in_ok-members.members.now)) _ _ _ c.from_residual-in_err-spread.ensures.1 c.in_err-spread.ensures.broken)

pub returns-in_err-inset-clause-broken : goal.returns-in_err-inset-clause-broken
unfolding shadow_item_in
returns-in_err-inset-clause-broken c = rw (c.in_ok-members.ensures.ok, c.in_ok-color.ensures.ok, c.in_ok-offset_x.ensures.ok, c.in_ok-offset_y.ensures.ok, c.in_ok-blur.ensures.ok, c.in_ok-spread.ensures.ok) (stays (member_or boolean_in false (codes "inset") (plain_fields_view c.in_ok-members.members.now)) _ _ _ c.from_residual-in_err-inset.ensures.1 c.in_err-inset.ensures.broken)

pub returns-clause-ok : goal.returns-clause-ok
unfolding shadow_item_in
returns-clause-ok c = rw (c.in_ok-members.ensures.ok, c.in_ok-color.ensures.ok, c.in_ok-offset_x.ensures.ok, c.in_ok-offset_y.ensures.ok, c.in_ok-blur.ensures.ok, c.in_ok-spread.ensures.ok, c.in_ok-inset.ensures.ok) refl
