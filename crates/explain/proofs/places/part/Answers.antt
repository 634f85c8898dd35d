use Rattle.std.proofs.Common.{rules, ◌≡◌, Some, None, sym, ◌∙◌}
use Rattle.json_span.specs.Tree.{array_in, object_in}
use Rattle.json_span.specs.View.{json_view, items_view, fields_view}
use Rattle.explain.proofs.PlacesWritten.{array_parts, object_parts, no_parts}
use Rattle.explain.proofs.places.part.Goals as goal

pub returns-in-Some : goal.returns-in-Some
returns-in-Some c =
    let is : array_in (json_view c.args.node) ≡ Some (items_view c.in-Some.items) = search rules in
    c.item.ensures ∙ sym (array_parts (json_view c.args.node) (items_view c.in-Some.items) c.args.step.now is)

pub returns-in-Some-as_object : goal.returns-in-Some-as_object
returns-in-Some-as_object c =
    let is : object_in (json_view c.args.node) ≡ Some (fields_view c.in-Some-as_object.fields) = search rules in
    c.get.ensures ∙ sym (object_parts (json_view c.args.node) (fields_view c.in-Some-as_object.fields) c.args.step.now is)

pub returns : goal.returns
returns c =
    let array : array_in (json_view c.args.node) ≡ None = search rules in
    let object : object_in (json_view c.args.node) ≡ None = search rules in
    sym (no_parts (json_view c.args.node) c.args.step.now array object)
