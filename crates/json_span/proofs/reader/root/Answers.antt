use Rattle.std.proofs.Common.{sym, subst}
use Rattle.json_span.specs.Answer.{IsAnswer, shows}
use Rattle.json_span.specs.Table.{Standing, Lies}
use Rattle.json_span.proofs.Fitting.{table_lies}
use Rattle.json_span.proofs.reader.root.Goals as goal

pub new-requires-in-Ok : goal.new-requires-in-Ok
new-requires-in-Ok c =
    let (n, a, made) = c.requires in
    subst (λ d. Standing d.text.now d.nodes.items 0) (sym c.in-Ok.ensures.ok) ((0, (0, n)), table_lies c.args.text.now c.utf8.text c.args.nodes.items n a.0 made)

pub returns-in-Ok-clause-found : goal.returns-in-Ok-clause-found
returns-in-Ok-clause-found c =
    let (n, a, made) = c.requires in
    let e = c.new-in-Ok.ensures 0 0 n (subst (λ d. Lies d.text.now d.nodes.items 0 0 0 n) (sym c.in-Ok.ensures.ok) (table_lies c.args.text.now c.utf8.text c.args.nodes.items n a.0 made)) in
    subst (λ z. IsAnswer c.args.text.now (shows z)) (sym e) a
