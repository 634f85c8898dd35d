use Rattle.std.proofs.Common.{refl, codes, Err}
use Rattle.json_span.specs.PlainView.{plain_view}
use Rattle.type_rules.specs.declared.fault.ValueRule.TheVariants.{ValueShape}
use Rattle.type_rules.specs.Checked.{broken}
use Rattle.type_rules.specs.Forms.{members_in}
use Rattle.type_rules.proofs.Breaks.{stays, under_ok, under_broken}
use Rattle.composite_rules.specs.Value.{one_shadow}
use Rattle.composite_rules.proofs.shadow.one_shadow.Goals as goal

pub returns-in_err-members-clause-broken : goal.returns-in_err-members-clause-broken
unfolding one_shadow
returns-in_err-members-clause-broken c = stays (members_in (plain_view c.args.plain.now)) _ _ _ c.from_residual.ensures.1 c.in_err-members.ensures.broken

pub returns-in-Some-clause-ok : goal.returns-in-Some-clause-ok
unfolding one_shadow
returns-in-Some-clause-ok c = rw (c.in_ok-members.ensures.ok, ← c.in-Some.ensures) (under_ok (broken ValueShape) (codes "0") (Err c.broken.result) c.under.result tt c.under.ensures.ok c.under.ensures.broken)

pub returns-in-Some-clause-broken : goal.returns-in-Some-clause-broken
unfolding one_shadow
returns-in-Some-clause-broken c = rw (c.in_ok-members.ensures.ok, ← c.in-Some.ensures) (under_broken (broken ValueShape) (codes "0") (Err c.broken.result) c.under.result (rw c.broken.ensures refl) c.under.ensures.ok c.under.ensures.broken)

pub returns-in-None-clause-ok : goal.returns-in-None-clause-ok
unfolding one_shadow
returns-in-None-clause-ok c = rw (c.in_ok-members.ensures.ok, ← c.in-None.ensures) c.one_item.ensures.ok

pub returns-in-None-clause-broken : goal.returns-in-None-clause-broken
unfolding one_shadow
returns-in-None-clause-broken c = rw (c.in_ok-members.ensures.ok, ← c.in-None.ensures) c.one_item.ensures.broken
