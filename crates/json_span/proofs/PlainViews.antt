-- What plain arrays and objects are seen as.
use Rattle.std.proofs.Common.{rules, ◌≡◌, List, [], ◌∷◌, refl, ap}
use Rattle.json_span.specs.Plain.{plain_array, plain_object, plains_of, plain_members_of, plains_in, plain_entries_in}
use Rattle.json_span.specs.PlainView.{Value, ValueEntry, plain_view, plain_items_view, plain_fields_view}
use Rattle.json_span.specs.declared.plain.PlainItems.{PlainItems}
use Rattle.json_span.specs.declared.plain.PlainFields.{PlainFields}
use Rattle.json_span.specs.declared.plain.Plain.{Arr, Obj, the_lemmas}

pub array_view : (l : PlainItems) → plain_view (Arr l) ≡ plain_array (plains_of (plain_items_view l))
array_view l = search (rules, the_lemmas)

pub object_view : (l : PlainFields) → plain_view (Obj l) ≡ plain_object (plain_members_of (plain_fields_view l))
object_view l = search (rules, the_lemmas)

pub plains_in-of : (vs : List Value) → plains_in (plains_of vs) ≡ vs
plains_in-of [] = refl
plains_in-of (v ∷ vs) = ap (λ z. v ∷ z) (plains_in-of vs)

pub plain_entries_in-of : (es : List ValueEntry) → plain_entries_in (plain_members_of es) ≡ es
plain_entries_in-of [] = refl
plain_entries_in-of (e ∷ es) = ap (λ z. e ∷ z) (plain_entries_in-of es)
