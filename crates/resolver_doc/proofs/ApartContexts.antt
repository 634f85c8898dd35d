-- In a document without a flaw the contexts of a modifier have different names.
use Rattle.std.proofs.Common.{◌≡◌, ◌⊎◌, inl, inr, ℕ, zero, suc, Bool, true, false, ◌||◌, not, List, [], ◌∷◌, Option, Some, None, option_map, option_and_then, unwrap_or, if◌then◌else◌, cond, map, codes, refl, sym, ◌∙◌, subst}
use Rattle.std.proofs.lemmas.Slice.Eq.{bytes_eq-Decides}
use Rattle.std.specs.List.{AllByRecursion}
use Rattle.ring.specs.Lists.{In, AreApart}
use Rattle.std.specs.Str.{bytes_eq}
use Rattle.json_span.specs.Tree.{a_null, a_boolean, a_number, a_string, an_array, an_object, Placed, placed, Elements, no_elements, an_element, Members, no_members, a_member, Entry, tree_of, object_in, elements_in, entries_in, value_of_name}
use Rattle.json_span.specs.Flaw.{Flaw, equal_names, or_else, is_seen, most_open, flaw_in, flaw_in_elements, flaw_in_members}
use Rattle.resolver_doc.specs.Document.{set_item, HasContextsApart, elements_at, set_entries, modifier_entries, order_items, set_number, modifier_number, name_in, member_entries, text_at, member_text, sources_in, context_of, modifier_of, named_modifier, named_item, own_name, item_by, order_item}
use Rattle.resolver_doc.specs.Form.{is_reserved, unreserved, entries_at}
use Rattle.resolver_doc.specs.Laws.{ContextsAreApart}

-- Values without a flaw, and their parts.

abbrev Flawless : Placed → Type 0
Flawless n = (room : ℕ) × (flaw_in room n ≡ None)

left_none : (a b : Option Flaw) → or_else a b ≡ None → a ≡ None
left_none None b e = refl
left_none (Some x) b e = cc

right_none : (a b : Option Flaw) → or_else a b ≡ None → b ≡ None
right_none None b e = e
right_none (Some x) b e = cc

not_seen : (t : Bool) (f : Flaw) (o : Option Flaw) → cond t (Some f) o ≡ None → t ≡ false
not_seen true f o e = cc
not_seen false f o e = refl

rest_none : (t : Bool) (f : Flaw) (o : Option Flaw) → cond t (Some f) o ≡ None → o ≡ None
rest_none true f o e = cc
rest_none false f o e = e

-- no name of these members is among the names before, no two of them have one, and no value has a flaw
abbrev EntriesFlawless : List (List ℕ) → List Entry → Type 0
EntriesFlawless names [] = Unit {0}
EntriesFlawless names (e ∷ es) = (is_seen names e.name ≡ false) × Flawless e.value × EntriesFlawless (e.name ∷ names) es

abbrev AllFlawless : List Placed → Type 0
AllFlawless [] = Unit {0}
AllFlawless (n ∷ ns) = Flawless n × AllFlawless ns

abbrev IfFlawless : Option Placed → Type 0
IfFlawless None = Unit {0}
IfFlawless (Some n) = Flawless n

members_flawless : (room : ℕ) (names : List (List ℕ)) (ms : Members) → flaw_in_members room names ms ≡ None → EntriesFlawless names (entries_in ms)
members_flawless room names no_members e = tt
members_flawless room names (a_member s start end n ms) e =
    let rest = or_else (flaw_in room n) (flaw_in_members room (s ∷ names) ms) in
    let k : rest ≡ None = rest_none (is_seen names s) (equal_names start end) rest e in (
      not_seen (is_seen names s) (equal_names start end) rest e,
      (room, left_none (flaw_in room n) (flaw_in_members room (s ∷ names) ms) k),
      members_flawless room (s ∷ names) ms (right_none (flaw_in room n) (flaw_in_members room (s ∷ names) ms) k),
    )

elements_flawless : (room : ℕ) (ns : Elements) → flaw_in_elements room ns ≡ None → AllFlawless (elements_in ns)
elements_flawless room no_elements e = tt
elements_flawless room (an_element n ns) e =
    ((room, left_none (flaw_in room n) (flaw_in_elements room ns) e), elements_flawless room ns (right_none (flaw_in room n) (flaw_in_elements room ns) e))

object_flawless : (n : Placed) → Flawless n → EntriesFlawless [] (entries_at n)
object_flawless (placed a_null start end) f = tt
object_flawless (placed (a_boolean b) start end) f = tt
object_flawless (placed (a_number k) start end) f = tt
object_flawless (placed (a_string s) start end) f = tt
object_flawless (placed (an_array ns) start end) f = tt
object_flawless (placed (an_object ms) start end) (zero, e) = absurd (cc)
object_flawless (placed (an_object ms) start end) (suc room, e) = members_flawless room [] ms e

array_flawless : (n : Placed) → Flawless n → AllFlawless (elements_at n)
array_flawless (placed a_null start end) f = tt
array_flawless (placed (a_boolean b) start end) f = tt
array_flawless (placed (a_number k) start end) f = tt
array_flawless (placed (a_string s) start end) f = tt
array_flawless (placed (an_array ns) start end) (zero, e) = absurd (cc)
array_flawless (placed (an_array ns) start end) (suc room, e) = elements_flawless room ns e
array_flawless (placed (an_object ms) start end) f = tt

if_under : (b : Bool) (n : Placed) (o : Option Placed) → Flawless n → IfFlawless o → IfFlawless (if b then Some n else o)
if_under true n o f g = f
if_under false n o f g = g

under_flawless : (names : List (List ℕ)) (es : List Entry) (name : List ℕ) → EntriesFlawless names es → IfFlawless (value_of_name name es)
under_flawless names [] name f = tt
under_flawless names (e ∷ es) name f = if_under (bytes_eq e.name name) e.value (value_of_name name es) f.1 (under_flawless (e.name ∷ names) es name f.2)

-- Names that differ.

either_false : (a b : Bool) → (a || b) ≡ false → (a ≡ false) × (b ≡ false)
either_false true b e = cc
either_false false b e = (refl, e)

-- one of the names is the name
abbrev Has : List ℕ → List (List ℕ) → Type 0
Has name [] = ⊥
Has name (x ∷ xs) = (x ≡ name) ⊎ Has name xs

seen_not : (names : List (List ℕ)) (name other : List ℕ) → Has name names → is_seen names other ≡ false → bytes_eq name other ≡ false
seen_not [] name other h e = absurd h
seen_not (x ∷ xs) name other (inl same) e = subst (λ (z : List ℕ). bytes_eq z other ≡ false) same (either_false (bytes_eq x other) (is_seen xs other) e).0
seen_not (x ∷ xs) name other (inr h) e = seen_not xs name other h (either_false (bytes_eq x other) (is_seen xs other) e).1

differ : (a b : List ℕ) → bytes_eq a b ≡ false → a ≡ b → ⊥
differ a b e same = let yes : bytes_eq a b ≡ true = (bytes_eq-Decides a b).1 same in false_true (sym e ∙ yes)
  where
    false_true : false ≡ true → ⊥
    false_true h = cc

-- the values of members
abbrev ValuesFlawless : List Entry → Type 0
ValuesFlawless [] = Unit {0}
ValuesFlawless (e ∷ es) = Flawless e.value × ValuesFlawless es

counted_flawless : (names : List (List ℕ)) (es : List Entry) → EntriesFlawless names es → ValuesFlawless (unreserved es)
counted_flawless names [] f = tt
counted_flawless names (e ∷ es) f = at (not (is_reserved e.name)) (counted_flawless (e.name ∷ names) es f.2)
  where
    at : (b : Bool) → ValuesFlawless (unreserved es) → ValuesFlawless (if b then e ∷ unreserved es else unreserved es)
    at true g = (f.1, g)
    at false g = g

module _ (sets : List Entry) where
  abbrev names_of : List Entry → List (List ℕ)
  names_of es = map (λ c. c.name) (map (context_of sets) es)

  none_named : (name : List ℕ) (names : List (List ℕ)) (es : List Entry) → Has name names → EntriesFlawless names es → In name (names_of (unreserved es)) → ⊥
  none_named name names [] h f i = i
  none_named name names (e ∷ es) h f i =
      at (not (is_reserved e.name)) (differ name e.name (seen_not names name e.name h f.0)) (none_named name (e.name ∷ names) es (inr h) f.2) i
    where
      at : (b : Bool) → (name ≡ e.name → ⊥) → (In name (names_of (unreserved es)) → ⊥) → In name (names_of (if b then e ∷ unreserved es else unreserved es)) → ⊥
      at true p q (inl same) = p same
      at true p q (inr j) = q j
      at false p q j = q j

  names_differ : (names : List (List ℕ)) (es : List Entry) → EntriesFlawless names es → AreApart (names_of (unreserved es))
  names_differ names [] f = tt
  names_differ names (e ∷ es) f = at (not (is_reserved e.name)) (none_named e.name (e.name ∷ names) es (inl refl) f.2) (names_differ (e.name ∷ names) es f.2)
    where
      at : (b : Bool) → (In e.name (names_of (unreserved es)) → ⊥) → AreApart (names_of (unreserved es)) → AreApart (names_of (if b then e ∷ unreserved es else unreserved es))
      at true p q = (p, q)
      at false p q = q

  modifier_apart : (name : List ℕ) (names : List (List ℕ)) (es : List Entry) → EntriesFlawless names es → HasContextsApart (modifier_of sets name es)
  modifier_apart name names es f = at (value_of_name (codes "contexts") es) (under_flawless names es (codes "contexts") f)
    where
      at : (o : Option Placed) → IfFlawless o → AreApart (names_of (unreserved (unwrap_or (option_and_then (λ n. object_in (tree_of n)) o) [])))
      at None g = tt
      at (Some n) g = names_differ [] (entries_at n) (object_flawless n g)

  number_apart : (name : List ℕ) (es : List Entry) (v : ℕ) → ValuesFlawless es → HasContextsApart (modifier_of sets name (member_entries es v))
  number_apart name [] v f = tt
  number_apart name (e ∷ es) zero f = modifier_apart name [] (entries_at e.value) (object_flawless e.value f.0)
  number_apart name (e ∷ es) (suc v) f = number_apart name es v f.1

  module _ (modifiers : List Entry) (are : ValuesFlawless modifiers) where
    item_apart : (n : Placed) → Flawless n → HasContextsApart (order_item sets modifiers n)
    item_apart n f = at (value_of_name (codes "$ref") (entries_at n))
      where
        named : (text : List ℕ) (o : Option ℕ) → HasContextsApart (named_modifier sets modifiers o)
        named text None = tt
        named text (Some v) = number_apart (name_in modifiers v) modifiers v are

        item_named : (text : List ℕ) (o : Option ℕ) → HasContextsApart (named_item sets modifiers text o)
        item_named text None = named text (modifier_number modifiers text)
        item_named text (Some v) = tt

        own : (b : Bool) → HasContextsApart (if b then set_item (sources_in sets (entries_at n)) else modifier_of sets (own_name (entries_at n)) (entries_at n))
        own true = tt
        own false = modifier_apart (own_name (entries_at n)) [] (entries_at n) (object_flawless n f)

        at : (o : Option Placed) → HasContextsApart (item_by sets modifiers (entries_at n) o)
        at None = own (bytes_eq (unwrap_or (member_text (codes "type") (entries_at n)) []) (codes "set"))
        at (Some string) = item_named (text_at string) (set_number sets (text_at string))

    items_apart : (ns : List Placed) → AllFlawless ns → AllByRecursion HasContextsApart (map (order_item sets modifiers) ns)
    items_apart [] f = tt
    items_apart (n ∷ ns) f = (item_apart n f.0, items_apart ns f.1)

section_flawless : (o : Option Placed) → IfFlawless o → ValuesFlawless (unreserved (unwrap_or (option_map entries_at o) []))
section_flawless None f = tt
section_flawless (Some n) f = counted_flawless [] (entries_at n) (object_flawless n f)

order_flawless : (o : Option Placed) → IfFlawless o → AllFlawless (unwrap_or (option_map elements_at o) [])
order_flawless None f = tt
order_flawless (Some n) f = array_flawless n f

pub contexts_are_apart : ContextsAreApart
contexts_are_apart root e =
    let es = entries_at root in
    let f = object_flawless root (most_open, e) in
    items_apart (set_entries root) (modifier_entries root) (section_flawless (value_of_name (codes "modifiers") es) (under_flawless [] es (codes "modifiers") f))
    (order_items root) (order_flawless (value_of_name (codes "resolutionOrder") es) (under_flawless [] es (codes "resolutionOrder") f))
