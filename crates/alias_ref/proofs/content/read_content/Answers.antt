use Rattle.std.proofs.Common.{sym, ap, ◌∙◌, option_map}
use Rattle.alias_ref.specs.inner.Contents.{role_of}
use Rattle.json_span.specs.View.{json_view, fields_view}
use Rattle.alias_ref.proofs.ContentsOfValues.{object_content}
use Rattle.alias_ref.proofs.content.read_content.Goals as goal

pub returns-in-Some-as_object : goal.returns-in-Some-as_object
returns-in-Some-as_object c =
    object_content c.object_content.result (role_of c.args.by_ref) (json_view c.args.node) (fields_view c.in-Some-as_object.fields) (sym c.as_object.ensures ∙ ap (option_map fields_view) c.in-Some-as_object.is) c.object_content.ensures.written c.object_content.ensures.parts
