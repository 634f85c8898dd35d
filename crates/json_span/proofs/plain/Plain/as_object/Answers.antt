use Rattle.std.proofs.Common.{Some, sym, ap, ◌∙◌}
use Rattle.json_span.specs.Plain.{plain_object_in}
use Rattle.json_span.specs.PlainView.{plain_view, plain_fields_view}
use Rattle.json_span.proofs.PlainViews.{object_view, plain_entries_in-of}
use Rattle.json_span.proofs.plain.Plain.as_object.Goals as goal

pub returns-in-Obj : goal.returns-in-Obj
returns-in-Obj c = sym (ap plain_object_in (ap plain_view c.in-Obj.is ∙ object_view c.in-Obj.members) ∙ ap Some (plain_entries_in-of (plain_fields_view c.in-Obj.members)))
