-- What plain arrays and objects are seen as.
use Rattle.std.proofs.Common.{rules, ◌≡◌}
use Rattle.json_span.specs.Plain.{plain_array, plain_object, plains_of, plain_members_of}
use Rattle.json_span.specs.PlainView.{plain_view, plain_items_view, plain_fields_view}
use Rattle.json_span.specs.declared.plain.PlainItems.{PlainItems}
use Rattle.json_span.specs.declared.plain.PlainFields.{PlainFields}
use Rattle.json_span.specs.declared.plain.Plain.{Arr, Obj, the_lemmas}

pub array_view : (l : PlainItems) → plain_view (Arr l) ≡ plain_array (plains_of (plain_items_view l))
array_view l = search (rules, the_lemmas)

pub object_view : (l : PlainFields) → plain_view (Obj l) ≡ plain_object (plain_members_of (plain_fields_view l))
object_view l = search (rules, the_lemmas)
