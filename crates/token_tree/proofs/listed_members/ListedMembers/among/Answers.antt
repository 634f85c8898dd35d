use Rattle.json_span.specs.View.{field_view, fields_view}
use Rattle.token_tree.proofs.Listed.{all_listed, taken_in}
use Rattle.token_tree.proofs.NamesStand.{stand_behind}
use Rattle.token_tree.proofs.listed_members.ListedMembers.among.Goals as goal

pub note-requires : goal.note-requires
note-requires c = (stand_behind c.args.text.now (field_view c.in-Some.field) _ _ c.in-Some.ensures.steps c.loop-field.invariant.names).0

pub loop-field-preserved : goal.loop-field-preserved
loop-field-preserved c =
    let e = field_view c.in-Some.field in
    let left = fields_view c.next.new.self in
    record {
      listed = taken_in c.loop-field.listed c.note.new.self e left (fields_view c.loop-field.field-iterator) (fields_view c.args.fields.now) c.in-Some.ensures.steps c.in_ok-note.ensures c.loop-field.invariant.listed;
      names = (stand_behind c.args.text.now e left _ c.in-Some.ensures.steps c.loop-field.invariant.names).1;
    }

pub returns : goal.returns
returns c = all_listed c.loop-field.listed (fields_view c.loop-field.field-iterator) (fields_view c.args.fields.now) c.in-None.ensures.steps.0 c.loop-field.invariant.listed
