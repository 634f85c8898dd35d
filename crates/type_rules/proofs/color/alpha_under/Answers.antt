use Rattle.std.proofs.Common.{refl, codes}
use Rattle.json_span.specs.PlainView.{plain_view}
use Rattle.type_rules.specs.Forms.{member_or}
use Rattle.type_rules.specs.Value.{alpha_in}
use Rattle.type_rules.proofs.Breaks.{under_ok, under_broken}
use Rattle.type_rules.proofs.color.alpha_under.Goals as goal

pub returns-in-Some-clause-ok : goal.returns-in-Some-clause-ok
unfolding member_or
returns-in-Some-clause-ok c = rw (← c.in-Some.ensures) (under_ok (alpha_in (plain_view c.in-Some.plain.now)) (codes "alpha") c.alpha_of.result c.under.result c.alpha_of.ensures.ok c.under.ensures.ok c.under.ensures.broken)

pub returns-in-Some-clause-broken : goal.returns-in-Some-clause-broken
unfolding member_or
returns-in-Some-clause-broken c = rw (← c.in-Some.ensures) (under_broken (alpha_in (plain_view c.in-Some.plain.now)) (codes "alpha") c.alpha_of.result c.under.result c.alpha_of.ensures.broken c.under.ensures.ok c.under.ensures.broken)

pub returns-in-None-clause-ok : goal.returns-in-None-clause-ok
unfolding member_or
returns-in-None-clause-ok c = rw (← c.in-None.ensures, c.whole.ensures) refl
