use Rattle.std.proofs.Common.{refl}
use Rattle.json_span.specs.PlainView.{plain_view, plain_items_view}
use Rattle.type_rules.specs.Forms.{items_of_length, number_in, item}
use Rattle.type_rules.specs.Value.{four_numbers}
use Rattle.type_rules.proofs.Breaks.{stays}
use Rattle.type_rules.proofs.curve.four_numbers.Goals as goal

pub returns-in_err-items-clause-broken : goal.returns-in_err-items-clause-broken
unfolding four_numbers
returns-in_err-items-clause-broken c = stays (items_of_length 4 (plain_view c.args.plain.now)) _ _ _ c.from_residual.ensures.1 c.in_err-items.ensures.broken

pub returns-in_err-x1-clause-broken : goal.returns-in_err-x1-clause-broken
unfolding four_numbers
returns-in_err-x1-clause-broken c = rw c.in_ok-items.ensures.ok (stays (item number_in 0 (plain_items_view c.in_ok-items.items.now)) _ _ _ c.from_residual-in_err-x1.ensures.1 c.in_err-x1.ensures.broken)

pub returns-in_err-y1-clause-broken : goal.returns-in_err-y1-clause-broken
unfolding four_numbers
returns-in_err-y1-clause-broken c = rw (c.in_ok-items.ensures.ok, c.in_ok-x1.ensures.ok) (stays (item number_in 1 (plain_items_view c.in_ok-items.items.now)) _ _ _ c.from_residual-in_err-y1.ensures.1 c.in_err-y1.ensures.broken)

pub returns-in_err-x2-clause-broken : goal.returns-in_err-x2-clause-broken
unfolding four_numbers
returns-in_err-x2-clause-broken c = rw (c.in_ok-items.ensures.ok, c.in_ok-x1.ensures.ok, c.in_ok-y1.ensures.ok) (stays (item number_in 2 (plain_items_view c.in_ok-items.items.now)) _ _ _ c.from_residual-in_err-x2.ensures.1 c.in_err-x2.ensures.broken)

pub returns-in_err-y2-clause-broken : goal.returns-in_err-y2-clause-broken
unfolding four_numbers
returns-in_err-y2-clause-broken c = rw (c.in_ok-items.ensures.ok, c.in_ok-x1.ensures.ok, c.in_ok-y1.ensures.ok, c.in_ok-x2.ensures.ok) (stays (item number_in 3 (plain_items_view c.in_ok-items.items.now)) _ _ _ c.from_residual-in_err-y2.ensures.1 c.in_err-y2.ensures.broken)

pub returns-clause-ok : goal.returns-clause-ok
unfolding four_numbers
returns-clause-ok c = rw (c.in_ok-items.ensures.ok, c.in_ok-x1.ensures.ok, c.in_ok-y1.ensures.ok, c.in_ok-x2.ensures.ok, c.in_ok-y2.ensures.ok) refl
