use Rattle.std.proofs.Common.{refl, codes}
use Rattle.json_span.specs.PlainView.{plain_view}
use Rattle.type_rules.specs.Forms.{member_or}
use Rattle.type_rules.proofs.Breaks.{under_ok, under_broken}
use Rattle.composite_rules.specs.Value.{boolean_in}
use Rattle.composite_rules.proofs.shadow.inset_under.Goals as goal

pub returns-in-Some-clause-ok : goal.returns-in-Some-clause-ok
unfolding member_or
returns-in-Some-clause-ok c = rw (← c.in-Some.ensures) (under_ok (boolean_in (plain_view c.in-Some.plain.now)) (codes "inset") c.check_boolean.result c.under.result c.check_boolean.ensures.ok c.under.ensures.ok c.under.ensures.broken)

pub returns-in-Some-clause-broken : goal.returns-in-Some-clause-broken
unfolding member_or
returns-in-Some-clause-broken c = rw (← c.in-Some.ensures) (under_broken (boolean_in (plain_view c.in-Some.plain.now)) (codes "inset") c.check_boolean.result c.under.result c.check_boolean.ensures.broken c.under.ensures.ok c.under.ensures.broken)

pub returns-in-None-clause-ok : goal.returns-in-None-clause-ok
unfolding member_or
returns-in-None-clause-ok c = rw (← c.in-None.ensures) refl
