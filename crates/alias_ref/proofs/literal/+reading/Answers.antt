use Rattle.std.proofs.Common.{rules, ◌≡◌, ◌<◌, false, sym, ap, ◌∙◌, arith, codes, Option, option_map}
use Rattle.std.specs.Str.{bytes_eq}
use Rattle.json_span.specs.PlainView.{plain_fields_view}
use Rattle.json_span.specs.View.{ref_view, items_view, fields_view}
use Rattle.alias_ref.specs.Visits.{most_on_branch}
use Rattle.alias_ref.specs.Written.{parts_by_index, parts_by_name}
use Rattle.alias_ref.proofs.LiteralsInTurn.{all_read, item_read, field_read, not_named, leaf_literal, array_literal, object_literal}
use Rattle.alias_ref.proofs.Weights.{weights, entry_weights, array_lighter, object_lighter}
use Rattle.alias_ref.proofs.literal.+reading.Goals as goal

-- what a node is read as is what stands there
seen_as : {A B : Type 0} (view : A → B) {read found : Option A} {there : Option B} → option_map view read ≡ there → read ≡ found →
    there ≡ option_map view found
seen_as view shown is = sym shown ∙ ap (option_map view) is

pub literal_items-loop-node-preserved : goal.literal_items-loop-node-preserved
literal_items-loop-node-preserved t c =
    let inv = c.loop-node.invariant in
    let first = c.in-Some.ensures.steps in
    (tt, tt, item_read inv.2.1 inv.2.0 inv.2.3 first inv.2.2 c.in_ok-plain.ensures c.in_ok-push.ensures.ok, omega (arith, inv.3, ap weights first))

pub literal_items-returns : goal.literal_items-returns
literal_items-returns t c =
    let read = c.loop-node.invariant.2 in
    (read.1, all_read read.1 read.3 (ap (parts_by_index read.0) c.in-None.ensures.steps.0), read.2)

pub literal_fields-loop-field-preserved : goal.literal_fields-loop-field-preserved
literal_fields-loop-field-preserved t c =
    let inv = c.loop-field.invariant in
    let first = c.in-Some.ensures.steps in
    let other : bytes_eq c.in_ok-name.name (codes "$ref") ≡ false = search rules in (
      tt,
      tt,
      field_read (plain_fields_view c.loop-field.list) inv.2 first c.in_ok-name.ensures c.value.ensures c.in_ok-value.ensures c.in_ok-push.ensures.ok,
      inv.3 ∙ not_named first c.in_ok-name.ensures other,
      omega (arith, inv.4, ap entry_weights first),
    )

pub literal_fields-returns-clause-read : goal.literal_fields-returns-clause-read
literal_fields-returns-clause-read t c = all_read (plain_fields_view c.loop-field.list) c.loop-field.invariant.2 (ap parts_by_name c.in-None.ensures.steps.0)

pub literal_value-literal_items-requires : goal.literal_value-literal_items-requires
literal_value-literal_items-requires t c =
    (omega (arith, array_lighter (ref_view c.args.node) (items_view c.in-Some.items) (seen_as items_view c.as_array.ensures c.in-Some.is)), tt)

pub literal_value-returns-in-Some : goal.literal_value-returns-in-Some
literal_value-returns-in-Some t c =
    let few : c.args.values.now < most_on_branch = grind (arith, c.if-values-ge-MOST_VALUES.false) in
    array_literal (ref_view c.args.node) (items_view c.in-Some.items) c.in_ok-list.list few (seen_as items_view c.as_array.ensures c.in-Some.is) c.in_ok-list.ensures

pub literal_value-literal_fields-requires : goal.literal_value-literal_fields-requires
literal_value-literal_fields-requires t c =
    (omega (arith, object_lighter (ref_view c.args.node) (fields_view c.in-Some-as_object.fields) (seen_as fields_view c.as_object.ensures c.in-Some-as_object.is)), tt)

pub literal_value-returns-in-Some-as_object : goal.literal_value-returns-in-Some-as_object
literal_value-returns-in-Some-as_object t c =
    let few : c.args.values.now < most_on_branch = grind (arith, c.if-values-ge-MOST_VALUES.false) in
    let list = c.in_ok-list-2.ensures in
    object_literal (ref_view c.args.node) (fields_view c.in-Some-as_object.fields) c.in_ok-list-2.list few
    (seen_as fields_view c.as_object.ensures c.in-Some-as_object.is) list.plain list.read

pub literal_value-returns : goal.literal_value-returns
literal_value-returns t c =
    let few : c.args.values.now < most_on_branch = grind (arith, c.if-values-ge-MOST_VALUES.false) in
    let no_array = seen_as items_view c.as_array.ensures c.in_default.is in
    let no_object = seen_as fields_view c.as_object.ensures c.in_default-as_object.is in
    leaf_literal c.literal_leaf.result (ref_view c.args.node) few no_array no_object c.literal_leaf.ensures
