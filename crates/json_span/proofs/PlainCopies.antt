-- Values of a text are larger than their parts, and are without their places what their parts are.
use Rattle.std.proofs.Common.{◌≡◌, ℕ, ◌+◌, ◌<◌, List, [], ◌∷◌, Some, refl, ap, ◌∙◌, arith}
use Rattle.json_span.specs.Tree.{a_null, a_boolean, a_number, a_string, an_array, an_object, Placed, placed, Elements, no_elements, an_element, Members, no_members, a_member, Entry, tree_of, elements_in, entries_in, array_in, object_in}
use Rattle.json_span.specs.Table.{size, sizes, member_sizes}
use Rattle.json_span.specs.Plain.{plain_array, plain_object, plains, plain_members, plains_of, plain_members_of}
use Rattle.json_span.specs.Says.{plain_of, plain_elements, plain_fields}
use Rattle.json_span.specs.PlainView.{plain_view, plain_items_view, plain_fields_view, as_spelled}
use Rattle.json_span.specs.inner.PlainCopies.{plain_each, plain_entries}
use Rattle.json_span.specs.declared.plain.PlainItems.{PlainItems}
use Rattle.json_span.specs.declared.plain.PlainFields.{PlainFields}
use Rattle.json_span.specs.declared.plain.Plain.{Arr, Obj}
use Rattle.json_span.proofs.PlainViews.{array_view, object_view}

-- how many values there are in lists of them
abbrev pub list_size : List Placed → ℕ
list_size [] = 0
list_size (n ∷ ns) = size n + list_size ns

abbrev pub entries_size : List Entry → ℕ
entries_size [] = 0
entries_size (e ∷ es) = size e.value + entries_size es

elements_size : (ns : Elements) → sizes ns ≡ list_size (elements_in ns)
elements_size no_elements = refl
elements_size (an_element n ns) = ap (λ k. size n + k) (elements_size ns)

members_size : (ms : Members) → member_sizes ms ≡ entries_size (entries_in ms)
members_size no_members = refl
members_size (a_member s start end n ms) = ap (λ k. size n + k) (members_size ms)

pub array_larger : (n : Placed) (ns : List Placed) → array_in (tree_of n) ≡ Some ns → list_size ns < size n
array_larger (placed a_null start end) ns e = absurd (cc)
array_larger (placed (a_boolean b) start end) ns e = absurd (cc)
array_larger (placed (a_number k) start end) ns e = absurd (cc)
array_larger (placed (a_string s) start end) ns e = absurd (cc)
array_larger (placed (an_array es) start end) ns e = let same : elements_in es ≡ ns = cc in omega (arith, elements_size es, ap list_size same)
array_larger (placed (an_object ms) start end) ns e = absurd (cc)

pub object_larger : (n : Placed) (es : List Entry) → object_in (tree_of n) ≡ Some es → entries_size es < size n
object_larger (placed a_null start end) es e = absurd (cc)
object_larger (placed (a_boolean b) start end) es e = absurd (cc)
object_larger (placed (a_number k) start end) es e = absurd (cc)
object_larger (placed (a_string s) start end) es e = absurd (cc)
object_larger (placed (an_array ns) start end) es e = absurd (cc)
object_larger (placed (an_object ms) start end) es e = let same : entries_in ms ≡ es = cc in omega (arith, members_size ms, ap entries_size same)

-- lists, part after part
each_element : (ns : Elements) → plains_of (plain_each (elements_in ns)) ≡ plain_elements as_spelled ns
each_element no_elements = refl
each_element (an_element n ns) = ap (plains (plain_of as_spelled n)) (each_element ns)

each_member : (ms : Members) → plain_members_of (plain_entries (entries_in ms)) ≡ plain_fields as_spelled ms
each_member no_members = refl
each_member (a_member s start end n ms) = ap (plain_members s (plain_of as_spelled n)) (each_member ms)

pub array_copied : (n : Placed) (ns : List Placed) (l : PlainItems) → array_in (tree_of n) ≡ Some ns → plain_items_view l ≡ plain_each ns → plain_view (Arr l) ≡ plain_of as_spelled n
array_copied (placed a_null start end) ns l e h = absurd (cc)
array_copied (placed (a_boolean b) start end) ns l e h = absurd (cc)
array_copied (placed (a_number k) start end) ns l e h = absurd (cc)
array_copied (placed (a_string s) start end) ns l e h = absurd (cc)
array_copied (placed (an_array es) start end) ns l e h =
    let same : ns ≡ elements_in es = cc in
    array_view l ∙ ap (λ vs. plain_array (plains_of vs)) (h ∙ ap plain_each same) ∙ ap plain_array (each_element es)
array_copied (placed (an_object ms) start end) ns l e h = absurd (cc)

pub object_copied : (n : Placed) (es : List Entry) (l : PlainFields) → object_in (tree_of n) ≡ Some es → plain_fields_view l ≡ plain_entries es → plain_view (Obj l) ≡ plain_of as_spelled n
object_copied (placed a_null start end) es l e h = absurd (cc)
object_copied (placed (a_boolean b) start end) es l e h = absurd (cc)
object_copied (placed (a_number k) start end) es l e h = absurd (cc)
object_copied (placed (a_string s) start end) es l e h = absurd (cc)
object_copied (placed (an_array ns) start end) es l e h = absurd (cc)
object_copied (placed (an_object ms) start end) es l e h =
    let same : es ≡ entries_in ms = cc in
    object_view l ∙ ap (λ vs. plain_object (plain_members_of vs)) (h ∙ ap plain_entries same) ∙ ap plain_object (each_member ms)
