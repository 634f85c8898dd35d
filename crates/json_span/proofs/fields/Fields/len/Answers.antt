use Rattle.std.proofs.Common.{rules}
use Rattle.json_span.proofs.Lying.{no_more_members}
use Rattle.json_span.proofs.fields.Fields.len.Goals as goal

pub overflow_add-count : goal.overflow_add-count
overflow_add-count c =
    let i = c.args.self.now in
    let most = no_more_members i.stand.0 in
    let places = i.stand.1.1 in
    search (rules, most, places)
