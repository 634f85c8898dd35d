use Rattle.json_span.proofs.node_ref.NodeRef.span.Goals as goal

pub returns : goal.returns
returns c = let v = c.args.self in c.span_at.ensures v.stands.0.0 v.stands.0.1.0 v.stands.0.1.1 v.stands.1
