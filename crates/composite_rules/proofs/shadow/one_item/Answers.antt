use Rattle.std.proofs.Common.{refl}
use Rattle.json_span.specs.PlainView.{plain_view}
use Rattle.type_rules.proofs.Breaks.{stays}
use Rattle.composite_rules.specs.Value.{shadow_item_in, one_item}
use Rattle.composite_rules.proofs.shadow.one_item.Goals as goal

pub returns-in_err-item-clause-broken : goal.returns-in_err-item-clause-broken
unfolding one_item
returns-in_err-item-clause-broken c = stays (shadow_item_in c.args.legacy (plain_view c.args.plain.now)) _ _ _ c.from_residual.ensures.1 c.in_err-item.ensures.broken

pub returns-clause-ok : goal.returns-clause-ok
unfolding one_item
returns-clause-ok c = rw (c.in_ok-item.ensures.ok, c.in_ok-items.ensures) refl
