-- The names of modifiers and contexts in a resolver document are those of strings in its text, and so of bytes.
use Rattle.std.proofs.Common.{◌≡◌, ℕ, zero, suc, Bool, true, false, cond, List, [], ◌∷◌, ◌++◌, map, codes, Option, Some, None}
use Rattle.std.specs.List.{AllByRecursion, filter, flat_map, slice_get}
use Rattle.std.specs.Prelude.{IfSome, not, option_and_then, option_map, unwrap_or, if◌then◌else◌}
use Rattle.std.specs.Str.{IsUtf8, bytes_eq}
use Rattle.std.proofs.lemmas.Str.{IsUtf8-nil}
use Rattle.json_span.specs.FitsIn.{FitsIn, ItemsFitIn, MembersFitIn}
use Rattle.json_span.specs.Says.{plain_of, plain_tree, plain_elements, plain_fields}
use Rattle.json_span.specs.Tree.{Tree, a_null, a_boolean, a_number, a_string, an_array, an_object, Placed, placed, Elements, no_elements, an_element, Members, no_members, a_member, Entry, tree_of, string_in, array_in, object_in, elements_in, entries_in, value_of_name}
use Rattle.json_span.proofs.Utf8.{utf8_bytes}
use Rattle.resolver_doc.specs.Document.{ItemData, set_item, modifier_item, SetData, elements_at, text_at, section, modifier_entries, order_items, modifier_number, set_number, name_in, member_entries, member_text, context_of, modifier_of, named_modifier, named_item, own_name, own_item, item_by, order_item, resolver_of, sources_in, set_entries}
use Rattle.resolver_doc.specs.Form.{context_entries, entries_at, is_reserved, unreserved}
use Rattle.permutations.specs.Permutation.{Permutation, Pick, choices, context_pick, permutation, permutations, picks}
use Rattle.build_plain.specs.Names.{is_name}
use Rattle.build_plain.proofs.PermutationNames.{IsOfBytes, name_fits}

-- What holds of all elements of a list holds of all that is made of them.

all_map : {X Y : Type 0} (P : X → Type 0) (Q : Y → Type 0) (f : X → Y) → ((x : X) → P x → Q (f x)) → (xs : List X) → AllByRecursion P xs → AllByRecursion Q (map f xs)
all_map P Q f each [] h = tt
all_map P Q f each (x ∷ xs) h = (each x h.0, all_map P Q f each xs h.1)

all_joined : {X : Type 0} (P : X → Type 0) (xs ys : List X) → AllByRecursion P xs → AllByRecursion P ys → AllByRecursion P (xs ++ ys)
all_joined P [] ys h k = k
all_joined P (x ∷ xs) ys h k = (h.0, all_joined P xs ys h.1 k)

all_flat : {X Y : Type 0} (P : X → Type 0) (Q : Y → Type 0) (f : X → List Y) → ((x : X) → P x → AllByRecursion Q (f x)) → (xs : List X) → AllByRecursion P xs → AllByRecursion Q (flat_map f xs)
all_flat P Q f each [] h = tt
all_flat P Q f each (x ∷ xs) h = all_joined Q (f x) (flat_map f xs) (each x h.0) (all_flat P Q f each xs h.1)

all_kept : {X : Type 0} (P : X → Type 0) (test : X → Bool) (xs : List X) → AllByRecursion P xs → AllByRecursion P (filter test xs)
all_kept P test [] h = tt
all_kept P test (x ∷ xs) h = by (test x) (all_kept P test xs h.1)
  where
    by : (b : Bool) → AllByRecursion P (filter test xs) → AllByRecursion P (cond b (x ∷ filter test xs) (filter test xs))
    by true rest = (h.0, rest)
    by false rest = rest

one_of : {X : Type 0} (P : X → Type 0) (xs : List X) (i : ℕ) → AllByRecursion P xs → IfSome (slice_get xs i) P
one_of P [] i h = tt
one_of P (x ∷ xs) zero h = h.0
one_of P (x ∷ xs) (suc i) h = one_of P xs i h.1

some_or : {X : Type 0} (P : X → Type 0) (o : Option X) (d : X) → IfSome o P → P d → P (unwrap_or o d)
some_or P None d h k = k
some_or P (Some x) d h k = h

some_map : {X Y : Type 0} (P : X → Type 0) (Q : Y → Type 0) (f : X → Y) → ((x : X) → P x → Q (f x)) → (o : Option X) → IfSome o P → IfSome (option_map f o) Q
some_map P Q f each None h = tt
some_map P Q f each (Some x) h = each x h

some_then : {X Y : Type 0} (P : X → Type 0) (Q : Y → Type 0) (f : X → Option Y) → ((x : X) → P x → IfSome (f x) Q) → (o : Option X) → IfSome o P → IfSome (option_and_then f o) Q
some_then P Q f each None h = tt
some_then P Q f each (Some x) h = each x h

-- Values whose strings and names are UTF-8, by the numbers of bytes that they stand in.

abbrev pub no_number : List ℕ → ℕ
no_number k = 0

module _ (n : ℕ) where
  abbrev pub Fits : Placed → Type 0
  Fits p = FitsIn n (plain_of no_number p)

  abbrev EntryFits : Entry → Type 0
  EntryFits e = IsUtf8 e.name × Fits e.value

  abbrev AllFit : List Entry → Type 0
  AllFit es = AllByRecursion EntryFits es

  entries_fit : (ms : Members) → MembersFitIn n (plain_fields no_number ms) → AllFit (entries_in ms)
  entries_fit no_members h = tt
  entries_fit (a_member s start end p ms) (utf8, fits, rest) = ((utf8, fits), entries_fit ms rest)

  elements_fit : (ns : Elements) → ItemsFitIn n (plain_elements no_number ns) → AllByRecursion Fits (elements_in ns)
  elements_fit no_elements h = tt
  elements_fit (an_element p ns) h = (h.0, elements_fit ns h.1)

  object_fits : (v : Tree) → FitsIn n (plain_tree no_number v) → IfSome (object_in v) AllFit
  object_fits a_null h = tt
  object_fits (a_boolean b) h = tt
  object_fits (a_number k) h = tt
  object_fits (a_string s) h = tt
  object_fits (an_array ns) h = tt
  object_fits (an_object ms) h = entries_fit ms h.1

  array_fits : (v : Tree) → FitsIn n (plain_tree no_number v) → IfSome (array_in v) (AllByRecursion Fits)
  array_fits a_null h = tt
  array_fits (a_boolean b) h = tt
  array_fits (a_number k) h = tt
  array_fits (a_string s) h = tt
  array_fits (an_array ns) h = elements_fit ns h.1
  array_fits (an_object ms) h = tt

  string_fits : (v : Tree) → FitsIn n (plain_tree no_number v) → IfSome (string_in v) IsUtf8
  string_fits a_null h = tt
  string_fits (a_boolean b) h = tt
  string_fits (a_number k) h = tt
  string_fits (a_string s) h = h
  string_fits (an_array ns) h = tt
  string_fits (an_object ms) h = tt

  object_of : (p : Placed) → Fits p → IfSome (object_in (tree_of p)) AllFit
  object_of (placed v start end) h = object_fits v h

  string_of : (p : Placed) → Fits p → IfSome (string_in (tree_of p)) IsUtf8
  string_of (placed v start end) h = string_fits v h

  array_of : (p : Placed) → Fits p → IfSome (array_in (tree_of p)) (AllByRecursion Fits)
  array_of (placed v start end) h = array_fits v h

  members_fit : (p : Placed) → Fits p → AllFit (entries_at p)
  members_fit p h = some_or AllFit (object_in (tree_of p)) [] (object_of p h) tt

  list_fits : (p : Placed) → Fits p → AllByRecursion Fits (elements_at p)
  list_fits p h = some_or (AllByRecursion Fits) (array_in (tree_of p)) [] (array_of p h) tt

  value_fits : (name : List ℕ) (es : List Entry) → AllFit es → IfSome (value_of_name name es) Fits
  value_fits name [] h = tt
  value_fits name (e ∷ es) h = by (bytes_eq e.name name) (value_fits name es h.1)
    where
      by : (b : Bool) → IfSome (value_of_name name es) Fits → IfSome (if b then Some e.value else value_of_name name es) Fits
      by true later = h.0.1
      by false later = later

  text_fits : (name : List ℕ) (es : List Entry) → AllFit es → IfSome (member_text name es) IsUtf8
  text_fits name es h = some_then Fits IsUtf8 (λ p. string_in (tree_of p)) string_of (value_of_name name es) (value_fits name es h)

  counted_fit : (es : List Entry) → AllFit es → AllFit (unreserved es)
  counted_fit es h = all_kept EntryFits (λ e. not (is_reserved e.name)) es h

  section_fits : (name : List ℕ) (es : List Entry) → AllFit es → AllFit (section name es)
  section_fits name es h =
      let inner = some_map Fits AllFit entries_at members_fit (value_of_name name es) (value_fits name es h) in
      counted_fit (unwrap_or (option_map entries_at (value_of_name name es)) []) (some_or AllFit (option_map entries_at (value_of_name name es)) [] inner tt)

  contexts_fit : (es : List Entry) → AllFit es → AllFit (context_entries es)
  contexts_fit es h =
      let o = option_and_then (λ p. object_in (tree_of p)) (value_of_name (codes "contexts") es) in
      some_or AllFit o [] (some_then Fits AllFit (λ p. object_in (tree_of p)) object_of (value_of_name (codes "contexts") es) (value_fits (codes "contexts") es h)) tt

  -- The items of an order.

  abbrev SetFits : SetData → Type 0
  SetFits s = IsUtf8 s.name

  abbrev ItemFits : ItemData → Type 0
  ItemFits (set_item sources) = Unit {0}
  ItemFits (modifier_item name contexts default) = IsUtf8 name × AllByRecursion SetFits contexts

  modifier_fits : (sets : List Entry) (name : List ℕ) (es : List Entry) → IsUtf8 name → AllFit es → ItemFits (modifier_of sets name es)
  modifier_fits sets name es utf8 h = (utf8, all_map EntryFits SetFits (context_of sets) (λ e fits. fits.0) (unreserved (context_entries es)) (counted_fit (context_entries es) (contexts_fit es h)))

  name_utf8 : (es : List Entry) (v : ℕ) → AllFit es → IsUtf8 (name_in es v)
  name_utf8 es v h = some_or IsUtf8 (option_map (λ e. e.name) (slice_get es v)) [] (some_map EntryFits IsUtf8 (λ e. e.name) (λ e fits. fits.0) (slice_get es v) (one_of EntryFits es v h)) IsUtf8-nil

  values_fit : (es : List Entry) (v : ℕ) → AllFit es → AllFit (member_entries es v)
  values_fit es v h = some_or AllFit (option_map (λ e. entries_at e.value) (slice_get es v)) [] (some_map EntryFits AllFit (λ e. entries_at e.value) (λ e fits. members_fit e.value fits.1) (slice_get es v) (one_of EntryFits es v h)) tt

  own_fits : (sets : List Entry) (es : List Entry) → AllFit es → ItemFits (own_item sets es)
  own_fits sets es h = by (bytes_eq (unwrap_or (member_text (codes "type") es) []) (codes "set"))
    where
      by : (b : Bool) → ItemFits (if b then set_item (sources_in sets es) else modifier_of sets (own_name es) es)
      by true = tt
      by false = modifier_fits sets (own_name es) es (some_or IsUtf8 (member_text (codes "name") es) [] (text_fits (codes "name") es h) IsUtf8-nil) h

  module _ (sets modifiers : List Entry) (are : AllFit modifiers) where
    named_fits : (o : Option ℕ) → ItemFits (named_modifier sets modifiers o)
    named_fits None = tt
    named_fits (Some v) = modifier_fits sets (name_in modifiers v) (member_entries modifiers v) (name_utf8 modifiers v are) (values_fit modifiers v are)

    pointed_fits : (text : List ℕ) (o : Option ℕ) → ItemFits (named_item sets modifiers text o)
    pointed_fits text None = named_fits (modifier_number modifiers text)
    pointed_fits text (Some v) = tt

    item_fits : (es : List Entry) (o : Option Placed) → AllFit es → ItemFits (item_by sets modifiers es o)
    item_fits es None h = own_fits sets es h
    item_fits es (Some string) h = pointed_fits (text_at string) (set_number sets (text_at string))

  order_fits : (root : Placed) → Fits root → AllByRecursion ItemFits (resolver_of root).order
  order_fits root h =
      let es = members_fit root h in
      let modifiers = section_fits (codes "modifiers") (entries_at root) es in
      let listed = some_map Fits (AllByRecursion Fits) elements_at list_fits (value_of_name (codes "resolutionOrder") (entries_at root)) (value_fits (codes "resolutionOrder") (entries_at root) es) in
      let items = some_or (AllByRecursion Fits) (option_map elements_at (value_of_name (codes "resolutionOrder") (entries_at root))) [] listed tt in
      all_map Fits ItemFits (order_item (set_entries root) (modifier_entries root))
      (λ p fits. item_fits (set_entries root) (modifier_entries root) modifiers (entries_at p) (value_of_name (codes "$ref") (entries_at p)) (members_fit p fits)) (order_items root) items

  -- What is chosen of them.

  abbrev PickFits : Pick → Type 0
  PickFits p = AllByRecursion IsOfBytes p.chosen

  picks_fit : (item : ItemData) → ItemFits item → AllByRecursion PickFits (picks item)
  picks_fit (set_item sources) h = (tt, tt)
  picks_fit (modifier_item name contexts default) h = all_map SetFits PickFits (context_pick name) (λ c utf8. ((utf8_bytes name h.0, utf8_bytes c.name utf8), tt)) contexts h.1

  choices_fit : (items : List ItemData) → AllByRecursion ItemFits items → AllByRecursion (AllByRecursion PickFits) (choices items)
  choices_fit [] h = (tt, tt)
  choices_fit (item ∷ items) h =
      all_flat PickFits (AllByRecursion PickFits) (λ pick. map (λ rest. pick ∷ rest) (choices items))
      (λ pick fits. all_map (AllByRecursion PickFits) (AllByRecursion PickFits) (λ rest. pick ∷ rest) (λ rest others. (fits, others)) (choices items) (choices_fit items h.1))
      (picks item) (picks_fit item h.0)

  abbrev IsNamed : Permutation → Type 0
  IsNamed p = is_name p.name ≡ true

  pub permutations_named : (root : Placed) → Fits root → AllByRecursion IsNamed (permutations (resolver_of root))
  permutations_named root h =
      let plan = resolver_of root in
      all_map (AllByRecursion PickFits) IsNamed (permutation plan.sets)
      (λ ps fit. name_fits (flat_map (λ p. p.chosen) ps) (all_flat PickFits IsOfBytes (λ p. p.chosen) (λ p fits. fits) ps fit))
      (choices plan.order) (choices_fit plan.order (order_fits root h))
