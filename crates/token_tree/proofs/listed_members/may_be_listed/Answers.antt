use Rattle.std.proofs.Common.{arith}
use Rattle.json_span.specs.View.{field_view}
use Rattle.token_tree.proofs.NamesStand.{not_reserved, within}
use Rattle.token_tree.proofs.listed_members.may_be_listed.Goals as goal

pub bounds-as_bytes-start : goal.bounds-as_bytes-start
bounds-as_bytes-start c = omega (arith, c.start.ensures, c.as_bytes.ensures.len, within c.args.text.now (field_view c.args.field) c.requires)

pub returns-else-byte-eq36 : goal.returns-else-byte-eq36
returns-else-byte-eq36 c = not_reserved c.args.text.now c.as_bytes.result.now (field_view c.args.field) c.start.result c.requires c.as_bytes.ensures.value c.start.ensures c.if-byte-eq36.false
