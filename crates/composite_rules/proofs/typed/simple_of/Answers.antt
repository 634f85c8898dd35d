use Rattle.std.proofs.Common.{refl}
use Rattle.json_span.specs.PlainView.{plain_view}
use Rattle.type_rules.specs.Value.{simple_value}
use Rattle.type_rules.proofs.Breaks.{stays}
use Rattle.composite_rules.specs.Value.{simple_in}
use Rattle.composite_rules.proofs.Simples.{simple_is}
use Rattle.composite_rules.proofs.typed.simple_of.Goals as goal

pub returns-in_err-simple-clause-broken : goal.returns-in_err-simple-clause-broken
unfolding simple_in
returns-in_err-simple-clause-broken c = rw (simple_is c.args.legacy c.args.kind (plain_view c.args.plain.now) c.requires) (stays (simple_value c.args.legacy c.args.kind (plain_view c.args.plain.now)) _ _ _ c.from_residual.ensures.1 c.in_err-simple.ensures.broken)

pub returns-clause-ok : goal.returns-clause-ok
unfolding simple_in
returns-clause-ok c = rw (simple_is c.args.legacy c.args.kind (plain_view c.args.plain.now) c.requires, c.in_ok-simple.ensures.ok) refl
