use Rattle.json_span.specs.PlainView.{plain_view, plain_items_view}
use Rattle.type_rules.proofs.Finding.{no_item, item_ok, item_broken}
use Rattle.type_rules.proofs.parts.part_at.Goals as goal

pub returns-in_err-plain-clause-broken : goal.returns-in_err-plain-clause-broken
returns-in_err-plain-clause-broken g c = no_item (g.P.Part.part_in c.args.legacy) c.args.i (plain_items_view c.args.items.now) _ c.from_residual.result c.from_residual.ensures.1 c.in_err-plain.ensures.broken

pub returns-clause-ok : goal.returns-clause-ok
returns-clause-ok g c = item_ok (g.P.Part.part_in c.args.legacy) c.args.i (plain_items_view c.args.items.now) (plain_view c.in_ok-plain.plain.now) c.part_of.result c.in_ok-plain.ensures.ok c.part_of.ensures.ok

pub returns-clause-broken : goal.returns-clause-broken
returns-clause-broken g c = item_broken (g.P.Part.part_in c.args.legacy) c.args.i (plain_items_view c.args.items.now) (plain_view c.in_ok-plain.plain.now) c.part_of.result c.in_ok-plain.ensures.ok c.part_of.ensures.broken
