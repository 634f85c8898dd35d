use Rattle.std.proofs.Common.{Some, ap}
use Rattle.json_span.specs.View.{node_view}
use Rattle.resolver_doc.specs.View.{order_view}
use Rattle.theme_css.specs.Themes.{Resolves}
use Rattle.theme_css.proofs.Answering.{answer_of}
use Rattle.theme_css.proofs.sheet.sheet_of_document.Goals as goal

pub returns : goal.returns
returns c text answer =
    answer_of c.args.outputs.now (Resolves (Some text)) (order_view c.in-Ok.resolver.order) c.sheet_of_resolver.result
    (node_view c.args.root.now, answer, c.in-Ok.ensures.sound, ap (λ r. r.order) c.in-Ok.ensures.ok) c.sheet_of_resolver.ensures.sheet c.sheet_of_resolver.ensures.stop
