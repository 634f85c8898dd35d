use Rattle.json_span.specs.PlainView.{plain_view}
use Rattle.type_rules.specs.Forms.{some_items_in, some_in}
use Rattle.type_rules.proofs.Breaks.{stays}
use Rattle.type_rules.proofs.parts.some_of.Goals as goal

pub returns-in_err-items-clause-broken : goal.returns-in_err-items-clause-broken
unfolding some_in
returns-in_err-items-clause-broken g c = stays (some_items_in (plain_view c.args.plain.now)) _ _ _ c.from_residual.ensures.1 c.in_err-items.ensures.broken

pub returns-clause-ok : goal.returns-clause-ok
unfolding some_in
returns-clause-ok g c = rw c.in_ok-items.ensures.ok c.each_part.ensures.ok

pub returns-clause-broken : goal.returns-clause-broken
unfolding some_in
returns-clause-broken g c = rw c.in_ok-items.ensures.ok c.each_part.ensures.broken
