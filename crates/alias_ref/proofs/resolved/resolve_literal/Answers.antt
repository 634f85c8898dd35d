use Rattle.std.proofs.Common.{rules, sym, refl, subst}
use Rattle.json_span.specs.PlainView.{plain_view}
use Rattle.json_span.specs.declared.plain.Plain.{Plain}
use Rattle.alias_ref.specs.Kinds.{KindOf, LinksAt, own_in, group_in}
use Rattle.alias_ref.specs.Meaning.{Means}
use Rattle.alias_ref.specs.Written.{whole, written_in}
use Rattle.alias_ref.specs.inner.Literals.{IsWholeLiteral}
use Rattle.alias_ref.proofs.LiteralsMean.{whole_literal, literal_unbroken, literal_counted}
use Rattle.alias_ref.proofs.resolved.resolve_literal.Goals as goal

pub returns-clause-resolved : goal.returns-clause-resolved
returns-clause-resolved c = λ flat token there.
    let T = written_in flat in
    let v = plain_view c.in-Some.plain in
    let values = c.literal.new.values in
    let is : IsWholeLiteral c.args.entry.now.def v 0 values = search rules in
    let k = whole_literal flat c.args.entry.now token v 0 values there is in
    record {
      unbroken = literal_unbroken flat c.args.entry.now token v values k;
      meaning = subst (λ (p : Plain). Means T (whole token) (plain_view p)) (sym c.in_ok-value.ensures.ok) k.means;
      kind = subst (KindOf T (own_in flat) (group_in flat) token) c.in-Some-kind_here.is (k.kind _ c.kind_here.ensures refl);
      links = subst (LinksAt T (own_in flat) (group_in flat) (whole token)) (sym c.new-links.ensures) k.links;
    }

pub returns-clause-counted : goal.returns-clause-counted
returns-clause-counted c = λ flat token there.
    let v = plain_view c.in-Some.plain in
    let values = c.literal.new.values in
    let is : IsWholeLiteral c.args.entry.now.def v 0 values = search rules in
    literal_counted flat c.args.entry.now token v values (whole_literal flat c.args.entry.now token v 0 values there is)
