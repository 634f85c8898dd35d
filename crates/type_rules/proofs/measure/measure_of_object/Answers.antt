use Rattle.std.proofs.Common.{refl, codes}
use Rattle.json_span.specs.PlainView.{plain_view, plain_fields_view}
use Rattle.type_rules.specs.Forms.{members_in, number_in, member}
use Rattle.type_rules.specs.Words.{word_in, rows_of}
use Rattle.type_rules.specs.Value.{measure_in_object}
use Rattle.type_rules.proofs.Breaks.{stays}
use Rattle.type_rules.proofs.measure.measure_of_object.Goals as goal

pub returns-in_err-members-clause-broken : goal.returns-in_err-members-clause-broken
unfolding measure_in_object
returns-in_err-members-clause-broken g c = stays (members_in (plain_view c.args.plain.now)) _ _ _ c.from_residual.ensures.1 c.in_err-members.ensures.broken

pub returns-in_err-value-clause-broken : goal.returns-in_err-value-clause-broken
unfolding measure_in_object
returns-in_err-value-clause-broken g c = rw c.in_ok-members.ensures.ok (stays (member number_in (codes "value") (plain_fields_view c.in_ok-members.members.now)) _ _ _ c.from_residual-in_err-value.ensures.1 c.in_err-value.ensures.broken)

pub returns-in_err-unit-clause-broken : goal.returns-in_err-unit-clause-broken
unfolding measure_in_object
returns-in_err-unit-clause-broken g c = rw (c.in_ok-members.ensures.ok, c.in_ok-value.ensures.ok) (stays (member (word_in c.args.rule (rows_of c.args.units.now)) (codes "unit") (plain_fields_view c.in_ok-members.members.now)) _ _ _ c.from_residual-in_err-unit.ensures.1 c.in_err-unit.ensures.broken)

pub returns-clause-ok : goal.returns-clause-ok
unfolding measure_in_object
returns-clause-ok g c = rw (c.in_ok-members.ensures.ok, c.in_ok-value.ensures.ok, c.in_ok-unit.ensures.ok) refl
