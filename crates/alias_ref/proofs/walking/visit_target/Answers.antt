use Rattle.std.proofs.Common.{rules, sym, subst}
use Rattle.json_span.specs.PlainView.{plain_view}
use Rattle.alias_ref.specs.inner.Literals.{IsLiteralVisit}
use Rattle.alias_ref.specs.inner.Walks.{IsMeantAt}
use Rattle.alias_ref.proofs.LiteralsMean.{literal_visited, visited_clean}
use Rattle.alias_ref.proofs.walking.visit_target.Goals as goal

pub returns-in-Ok-Some-clause-told : goal.returns-in-Ok-Some-clause-told
returns-in-Ok-Some-clause-told c = λ flat at.
    let spot = c.args.spot.now in
    let token = spot.token.now in
    let visited : IsLiteralVisit c.args.trace.now c.visit_literal.new.self spot.place token.def (plain_view c.in-Ok-Some.plain) = search rules in
    let found = literal_visited flat token at.stands visited in
    record {
      seen = visited_clean flat token visited found;
      means = subst (λ v. IsMeantAt flat spot.place v) (sym c.found_here.ensures.plain) found.means;
      kind = found.kind _ c.found_here.ensures.kind;
    }
