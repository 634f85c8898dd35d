use Rattle.std.proofs.Common.{sym, ap, ◌∙◌, arith, option_map}
use Rattle.json_span.specs.View.{ref_view, items_view, fields_view}
use Rattle.json_span.proofs.PlainCopies.{array_larger, object_larger, array_copied, object_copied}
use Rattle.json_span.proofs.copying.+copying.Goals as goal

pub plain_value-plain_items-requires : goal.plain_value-plain_items-requires
plain_value-plain_items-requires t c =
    (omega (arith, c.decreases, array_larger (ref_view c.args.node) (items_view c.in-Some.items) (sym c.as_array.ensures ∙ ap (option_map items_view) c.in-Some.is)), tt)

pub plain_value-returns-in-Some : goal.plain_value-returns-in-Some
plain_value-returns-in-Some t c =
    array_copied (ref_view c.args.node) (items_view c.in-Some.items) c.in_ok-list.list (sym c.as_array.ensures ∙ ap (option_map items_view) c.in-Some.is) c.in_ok-list.ensures

pub plain_value-plain_fields-requires : goal.plain_value-plain_fields-requires
plain_value-plain_fields-requires t c =
    (omega (arith, c.decreases, object_larger (ref_view c.args.node) (fields_view c.in-Some-as_object.fields) (sym c.as_object.ensures ∙ ap (option_map fields_view) c.in-Some-as_object.is)), tt)

pub plain_value-returns-in-Some-as_object : goal.plain_value-returns-in-Some-as_object
plain_value-returns-in-Some-as_object t c =
    object_copied (ref_view c.args.node) (fields_view c.in-Some-as_object.fields) c.in_ok-list-2.list (sym c.as_object.ensures ∙ ap (option_map fields_view) c.in-Some-as_object.is) c.in_ok-list-2.ensures
