use Rattle.std.proofs.Common.{refl}
use Rattle.json_span.specs.PlainView.{plain_view, plain_items_view}
use Rattle.type_rules.specs.Forms.{items_of_length, item}
use Rattle.type_rules.specs.Value.{component_in}
use Rattle.type_rules.specs.Value.{three_components}
use Rattle.type_rules.proofs.Breaks.{stays}
use Rattle.type_rules.proofs.components.three_components.Goals as goal

pub returns-in_err-items-clause-broken : goal.returns-in_err-items-clause-broken
unfolding three_components
returns-in_err-items-clause-broken c = stays (items_of_length 3 (plain_view c.args.plain.now)) _ _ _ c.from_residual.ensures.1 c.in_err-items.ensures.broken

pub returns-in_err-first-clause-broken : goal.returns-in_err-first-clause-broken
unfolding three_components
returns-in_err-first-clause-broken c = rw c.in_ok-items.ensures.ok (stays (item component_in 0 (plain_items_view c.in_ok-items.items.now)) _ _ _ c.from_residual-in_err-first.ensures.1 c.in_err-first.ensures.broken)

pub returns-in_err-second-clause-broken : goal.returns-in_err-second-clause-broken
unfolding three_components
returns-in_err-second-clause-broken c = rw (c.in_ok-items.ensures.ok, c.in_ok-first.ensures.ok) (stays (item component_in 1 (plain_items_view c.in_ok-items.items.now)) _ _ _ c.from_residual-in_err-second.ensures.1 c.in_err-second.ensures.broken)

pub returns-in_err-third-clause-broken : goal.returns-in_err-third-clause-broken
unfolding three_components
returns-in_err-third-clause-broken c = rw (c.in_ok-items.ensures.ok, c.in_ok-first.ensures.ok, c.in_ok-second.ensures.ok) (stays (item component_in 2 (plain_items_view c.in_ok-items.items.now)) _ _ _ c.from_residual-in_err-third.ensures.1 c.in_err-third.ensures.broken)

pub returns-clause-ok : goal.returns-clause-ok
unfolding three_components
returns-clause-ok c = rw (c.in_ok-items.ensures.ok, c.in_ok-first.ensures.ok, c.in_ok-second.ensures.ok, c.in_ok-third.ensures.ok) refl
