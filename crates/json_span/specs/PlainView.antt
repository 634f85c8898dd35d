-- The data that a plain value of the code stands for. A number is kept as its spelling.
use Rattle.std.specs.Prelude.{◌≡◌, ℕ, List, [], ◌∷◌, ◌++◌, map, Option, option_map}
use Rattle.std.specs.Borrow.{Bor}
use Rattle.json_span.specs.Plain.{PlainValue, plain_null, plain_boolean, plain_number, plain_string, plain_array, plain_object, PlainEntry, plains_of, plain_members_of}
use Rattle.json_span.specs.declared.plain.Plain.{Plain}
use Rattle.json_span.specs.declared.plain.PlainField.{PlainField}
use Rattle.json_span.specs.declared.plain.PlainItems.{PlainItems}
use Rattle.json_span.specs.declared.plain.PlainFields.{PlainFields}
use Rattle.json_span.specs.declared.plain.Plain.TheOpen.{Plain-F, PlainField-F, PlainItems-F, PlainFields-F}
use Rattle.json_span.specs.declared.plain.Plain.TheFolds.{fold-Plain}
use Rattle.json_span.specs.declared.plain.Plain.TheViews.{out-PlainFields}

abbrev pub Value : Type 0
Value = PlainValue (List ℕ)

abbrev pub ValueEntry : Type 0
ValueEntry = PlainEntry (List ℕ)

-- one level of each type: the enum, then the structs by name
abbrev pub plain_step : Plain-F Value ValueEntry (List ValueEntry) (List Value) → Value
plain_step Plain-F.Null = plain_null
plain_step (Plain-F.Bool b) = plain_boolean b
plain_step (Plain-F.Num s) = plain_number s.now
plain_step (Plain-F.Str t) = plain_string t
plain_step (Plain-F.Arr items) = plain_array (plains_of items)
plain_step (Plain-F.Obj fields) = plain_object (plain_members_of fields)

abbrev pub field_step : PlainField-F Value ValueEntry (List ValueEntry) (List Value) → ValueEntry
field_step f = record { name = f.name; value = f.value }

abbrev pub fields_step : PlainFields-F Value ValueEntry (List ValueEntry) (List Value) → List ValueEntry
fields_step f = f.list.items

abbrev pub items_step : PlainItems-F Value ValueEntry (List ValueEntry) (List Value) → List Value
items_step i = i.list.items

-- a value
abbrev pub plain_view : Plain → Value
plain_view = fold-Plain Value ValueEntry (List ValueEntry) (List Value) plain_step field_step fields_step items_step

-- a member
abbrev pub plain_field_view : PlainField → ValueEntry
plain_field_view f = record { name = f.name; value = plain_view f.value }

-- the elements of an array
abbrev pub plain_items_view : PlainItems → List Value
plain_items_view i = map plain_view i.list.items

-- the members of an object
abbrev pub plain_fields_view : PlainFields → List ValueEntry
plain_fields_view f = map plain_field_view (out-PlainFields f).list.items

-- what is kept of a number
abbrev pub as_spelled : List ℕ → List ℕ
as_spelled k = k

-- one that is lent, where there is one
abbrev pub lent_plain : Option (Bor Plain) → Option Value
lent_plain = option_map (λ v. plain_view v.now)

abbrev pub lent_field : Option (Bor PlainField) → Option ValueEntry
lent_field = option_map (λ f. plain_field_view f.now)

-- one more at the end
abbrev pub IsItemAdded : PlainItems → Plain → PlainItems → Type 0
IsItemAdded old item new = plain_items_view new ≡ plain_items_view old ++ plain_view item ∷ []

abbrev pub IsFieldAdded : PlainFields → PlainField → PlainFields → Type 0
IsFieldAdded old field new = plain_fields_view new ≡ plain_fields_view old ++ plain_field_view field ∷ []
