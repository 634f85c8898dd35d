use Rattle.json_span.specs.PlainView.{plain_view}
use Rattle.type_rules.specs.Forms.{number_in}
use Rattle.type_rules.specs.Value.{alpha_in}
use Rattle.type_rules.proofs.Breaks.{stays}
use Rattle.type_rules.proofs.color.alpha_of.Goals as goal

pub returns-in_err-alpha-clause-broken : goal.returns-in_err-alpha-clause-broken
unfolding alpha_in
returns-in_err-alpha-clause-broken c = stays (number_in (plain_view c.args.plain.now)) _ _ _ c.from_residual.ensures.1 c.in_err-alpha.ensures.broken

pub returns-clause-ok : goal.returns-clause-ok
unfolding alpha_in
returns-clause-ok c = rw c.in_ok-alpha.ensures.ok c.ranged.ensures.ok

pub returns-clause-broken : goal.returns-clause-broken
unfolding alpha_in
returns-clause-broken c = rw c.in_ok-alpha.ensures.ok c.ranged.ensures.broken
