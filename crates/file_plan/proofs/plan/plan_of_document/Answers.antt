use Rattle.json_span.specs.View.{node_view}
use Rattle.file_plan.proofs.plan.plan_of_document.Goals as goal

pub returns-in-Err-clause-refused : goal.returns-in-Err-clause-refused
returns-in-Err-clause-refused c = c.broken.ensures (node_view c.args.root.now) c.in-Err.ensures.broken
