use Rattle.std.proofs.Common.{◌∙◌}
use Rattle.json_span.proofs.Lying.{type_told}
use Rattle.json_span.proofs.node_ref.NodeRef.value_type.Goals as goal

pub returns : goal.returns
returns c = let v = c.args.self in c.type_of_byte.ensures ∙ type_told v.document.now.value.text.now v.stands.0.1.1 c.first_byte.result v.stands.1.1 c.first_byte.ensures
