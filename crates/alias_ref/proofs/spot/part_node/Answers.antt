use Rattle.std.proofs.Common.{sym, ap, ◌∙◌}
use Rattle.alias_ref.specs.Written.{part_under}
use Rattle.alias_ref.specs.inner.Contents.{content_parts}
use Rattle.json_span.specs.View.{fields_view}
use Rattle.alias_ref.proofs.ContentsOfValues.{under_named}
use Rattle.alias_ref.proofs.spot.part_node.Goals as goal

pub returns-in-Object : goal.returns-in-Object
returns-in-Object c = c.get.ensures ∙ sym (under_named c.args.step.now (fields_view c.in-Object.fields)) ∙ sym (ap (λ x. part_under c.args.step.now (content_parts x)) c.in-Object.is)
