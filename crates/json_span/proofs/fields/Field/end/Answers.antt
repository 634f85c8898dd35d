use Rattle.json_span.proofs.fields.Field.end.Goals as goal

pub span_at-requires : goal.span_at-requires
span_at-requires c = let f = c.args.self in ((f.stands.0.start, (f.stands.0.end, f.stands.0.value)), f.stands.1.1)
