use Rattle.json_span.proofs.fields.Field.value.Goals as goal

pub new-requires : goal.new-requires
new-requires c = let f = c.args.self in ((f.stands.0.start, (f.stands.0.end, f.stands.0.value)), f.stands.1.1)
