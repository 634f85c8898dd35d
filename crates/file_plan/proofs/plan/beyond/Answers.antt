use Rattle.std.proofs.Common.{ℕ, sym, subst}
use Rattle.json_span.specs.View.{node_view}
use Rattle.resolver_doc.specs.Document.{resolver_of}
use Rattle.permutations.specs.Answer.{IsListFault}
use Rattle.permutations.specs.declared.fault.ListFault.{ListFault}
use Rattle.file_plan.specs.Plan.{refused, too_many, too_many_sources, order_start, OfDocument, many, long}
use Rattle.file_plan.proofs.plan.beyond.Goals as goal

pub returns-in-TooMany : goal.returns-in-TooMany
returns-in-TooMany c is =
    let root = node_view c.args.root.now in
    let span = c.order_span-start.result in
    let n = c.in-TooMany.count in
    subst (λ (start : ℕ). OfDocument root (refused (too_many start span.1 n))) (sym c.order_span-start.ensures.start)
    (subst (λ (end : ℕ). OfDocument root (refused (too_many (order_start root) end n))) (sym c.order_span-start.ensures.end)
    (many n c.requires (subst (λ (e : ListFault). IsListFault (resolver_of root) e) c.in-TooMany.is is)))

pub returns-in-TooManySources : goal.returns-in-TooManySources
returns-in-TooManySources c is =
    let root = node_view c.args.root.now in
    let span = c.order_span-start.result in
    let n = c.in-TooManySources.count in
    subst (λ (start : ℕ). OfDocument root (refused (too_many_sources start span.1 n))) (sym c.order_span-start.ensures.start)
    (subst (λ (end : ℕ). OfDocument root (refused (too_many_sources (order_start root) end n))) (sym c.order_span-start.ensures.end)
    (long n c.requires (subst (λ (e : ListFault). IsListFault (resolver_of root) e) c.in-TooManySources.is is)))
