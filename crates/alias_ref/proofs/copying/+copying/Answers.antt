use Rattle.std.proofs.Common.{option_map, sym, ap, ap₂, ◌∙◌, arith, map}
use Rattle.std.specs.Borrow.{Bor}
use Rattle.std.proofs.lemmas.List.{take_all}
use Rattle.std.proofs.lemmas.Result.{IfOk-weaker}
use Rattle.json_span.specs.PlainView.{plain_view, plain_field_view, plain_items_view, plain_fields_view}
use Rattle.json_span.specs.declared.plain.PlainItems.{PlainItems}
use Rattle.json_span.specs.declared.plain.PlainFields.{PlainFields}
use Rattle.alias_ref.proofs.PlainViews.{array_view, object_view}
use Rattle.alias_ref.proofs.PlainCopies.{value_weights, entry_weights, array_heavier, object_heavier, item_lighter, member_lighter, copied_more, array_copied, object_copied}
use Rattle.alias_ref.proofs.copying.+copying.Goals as goal

pub copy_plain-copy_items-requires : goal.copy_plain-copy_items-requires
copy_plain-copy_items-requires t c =
    (omega (arith, array_heavier (plain_view c.args.plain.now) (plain_items_view c.in-Some.items.now) (sym c.as_array.ensures ∙ ap (option_map (λ (i : Bor PlainItems). plain_items_view i.now)) c.in-Some.is)), tt)

pub copy_plain-returns-in-Some : goal.copy_plain-returns-in-Some
copy_plain-returns-in-Some t c =
    array_view c.in_ok-list.list ∙ array_copied (plain_view c.args.plain.now) (plain_items_view c.in-Some.items.now) (plain_items_view c.in_ok-list.list) (sym c.as_array.ensures ∙ ap (option_map (λ (i : Bor PlainItems). plain_items_view i.now)) c.in-Some.is) c.in_ok-list.ensures

pub copy_plain-copy_fields-requires : goal.copy_plain-copy_fields-requires
copy_plain-copy_fields-requires t c =
    (omega (arith, object_heavier (plain_view c.args.plain.now) (plain_fields_view c.in-Some-as_object.fields.now) (sym c.as_object.ensures ∙ ap (option_map (λ (i : Bor PlainFields). plain_fields_view i.now)) c.in-Some-as_object.is)), tt)

pub copy_plain-returns-in-Some-as_object : goal.copy_plain-returns-in-Some-as_object
copy_plain-returns-in-Some-as_object t c =
    object_view c.in_ok-list-2.list ∙ object_copied (plain_view c.args.plain.now) (plain_fields_view c.in-Some-as_object.fields.now) (plain_fields_view c.in_ok-list-2.list) (sym c.as_object.ensures ∙ ap (option_map (λ (i : Bor PlainFields). plain_fields_view i.now)) c.in-Some-as_object.is) c.in_ok-list-2.ensures

pub copy_plain-returns : goal.copy_plain-returns
copy_plain-returns t c =
    let no_array = sym c.as_array.ensures ∙ ap (option_map (λ (i : Bor PlainItems). plain_items_view i.now)) c.in_default.is in
    let no_object = sym c.as_object.ensures ∙ ap (option_map (λ (i : Bor PlainFields). plain_fields_view i.now)) c.in_default-as_object.is in
    IfOk-weaker c.copy_leaf.result _ _ (λ p h. h no_array no_object) c.copy_leaf.ensures

pub copy_items-copy_plain-requires : goal.copy_items-copy_plain-requires
copy_items-copy_plain-requires t c =
    let values = c.as_slice-values.result.now in
    (omega (arith, item_lighter plain_view values c.loop-item.item-index c.item-item.result c.loop-item-test.true c.item-item.is, ap value_weights c.as_slice-values.ensures), tt)

pub copy_items-loop-item-preserved : goal.copy_items-loop-item-preserved
copy_items-loop-item-preserved t c =
    copied_more plain_view c.as_slice-values.result.now c.loop-item.item-index c.item-item.result (plain_items_view c.loop-item.list) (plain_items_view c.push.new.self) (plain_view c.in_ok-value.value)
    c.loop-item-test.true c.item-item.is c.loop-item.invariant c.in_ok-push.ensures.ok c.in_ok-value.ensures

pub copy_items-returns : goal.copy_items-returns
copy_items-returns t c =
    c.loop-item.invariant ∙ ap (map plain_view) (take_all c.loop-item.item-index c.as_slice-values.result.now c.loop-item-test.false) ∙ c.as_slice-values.ensures

pub copy_fields-copy_plain-requires : goal.copy_fields-copy_plain-requires
copy_fields-copy_plain-requires t c =
    let members = c.as_slice-members.result.now in
    (omega (arith, member_lighter plain_field_view members c.loop-field.field-index c.field-item.result c.loop-field-test.true c.field-item.is, ap entry_weights c.as_slice-members.ensures), tt)

pub copy_fields-loop-field-preserved : goal.copy_fields-loop-field-preserved
copy_fields-loop-field-preserved t c =
    copied_more plain_field_view c.as_slice-members.result.now c.loop-field.field-index c.field-item.result (plain_fields_view c.loop-field.list) (plain_fields_view c.push.new.self)
    (record { name = c.in_ok-name.name; value = plain_view c.in_ok-value.value }) c.loop-field-test.true c.field-item.is c.loop-field.invariant c.in_ok-push.ensures.ok
    (ap₂ (λ n v. record { name = n; value = v }) c.in_ok-name.ensures c.in_ok-value.ensures)

pub copy_fields-returns : goal.copy_fields-returns
copy_fields-returns t c =
    c.loop-field.invariant ∙ ap (map plain_field_view) (take_all c.loop-field.field-index c.as_slice-members.result.now c.loop-field-test.false) ∙ c.as_slice-members.ensures
