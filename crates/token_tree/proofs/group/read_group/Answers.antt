use Rattle.json_span.specs.View.{fields_view}
use Rattle.token_tree.proofs.group.read_group.Goals as goal

pub returns-clause-ok : goal.returns-clause-ok
returns-clause-ok c =
    c.in_ok-group.ensures c.args.text.now (fields_view c.args.fields.now) c.requires.listed c.in_ok-members.ensures.ok
