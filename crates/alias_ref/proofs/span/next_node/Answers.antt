use Rattle.std.proofs.Common.{rules, ◌≡◌, None, sym, ◌∙◌, codes}
use Rattle.json_span.specs.Tree.{value_of_name}
use Rattle.json_span.specs.View.{ref_view, fields_view}
use Rattle.alias_ref.proofs.SpansInTurn.{next_object, none_there}
use Rattle.alias_ref.proofs.span.next_node.Goals as goal

pub returns : goal.returns
returns c = λ role.
    let fields = fields_view c.in_ok-fields.fields in
    let none : value_of_name (codes "$ref") fields ≡ None = none_there ref_view c.get.result (value_of_name (codes "$ref") fields) c.get.ensures (sym c.is_some.ensures ∙ c.if-is_some.false) in
    c.get-2.ensures ∙ sym (next_object role (ref_view c.args.node) fields c.args.step.now None (search rules) none)
