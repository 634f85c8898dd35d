-- What is told of a resolver document has a span in its text.
use Rattle.std.proofs.Common.{◌≡◌, ◌⊎◌, ℕ, zero, suc, Bool, true, false, not, List, [], ◌∷◌, ◌++◌, Option, Some, None, option_map, option_and_then, unwrap_or, if◌then◌else◌, slice_get, codes, inl, inr, refl, sym, ap, ◌∙◌, subst, arith}
use Rattle.std.specs.List.{filter}
use Rattle.json_span.specs.Tree.{Placed, Entry, tree_of, start_of, end_of, value_of_name}
use Rattle.ring.specs.Lists.{In}
use Rattle.resolver_doc.specs.Document.{elements_at, section, set_entries, order_items, member_entries, source_of}
use Rattle.resolver_doc.specs.Form.{is_reserved, unreserved, entries_at}
use Rattle.resolver_doc.specs.Rings.{is_set, naming_string, sources_at, last_of, ring_string, IsSetRing}
use Rattle.resolver_doc.specs.Rules.{HasMember, Counts, IsOwn, Role, Stands, document_stands, name_stands, description_stands, sets_stand, set_stands, modifiers_stand, modifier_stands, order_stands, item_stands, type_stands, own_name_stands, own_set_stands, own_modifier_stands, sources_stand, contexts_stand, default_stands, context_stands, source_stands, source_reference_stands, item_reference_stands, BreaksForm, no_version, other_version, other_form, no_order, no_sources, no_contexts, no_type, no_name, other_type, beside_source, beside_item, no_context, no_such_default, IsNameString, BreaksNaming, modifier_as_source, no_source, no_item, name_again, RepeatsName, IsFirstBroken, first_form, first_naming, first_ring}
use Rattle.resolver_doc.specs.declared.rule.Break.{Break}
use Rattle.build_plain.proofs.SpansInText.{IsWithin, SpansIn, span_within, EntryIn, AllIn, at_entries, at_elements, under_name}

in_slice : (es : List Entry) (v : ℕ) (e : Entry) → slice_get es v ≡ Some e → In e es
in_slice [] v e is = cc
in_slice (x ∷ es) zero e is = inl (let same : x ≡ e = cc in sym same)
in_slice (x ∷ es) (suc v) e is = inr (in_slice es v e is)

in_counted : (es : List Entry) (e : Entry) → In e (unreserved es) → In e es
in_counted [] e i = absurd i
in_counted (x ∷ es) e i = go (not (is_reserved x.name)) (λ j. in_counted es e j) i
  where
    go : (t : Bool) → (In e (unreserved es) → In e es) → In e (if t then x ∷ unreserved es else unreserved es) → In e (x ∷ es)
    go true later (inl same) = inl same
    go true later (inr j) = inr (later j)
    go false later j = inr (later j)

module _ (low high : ℕ) (root : Placed) (s : SpansIn low high root) where
  member : (n m : Placed) (name : List ℕ) → SpansIn low high n → HasMember n name m → SpansIn low high m
  member n m name p h = under_name low high name (entries_at n) m (at_entries low high n p) h

  counted : (n : Placed) (e : Entry) → SpansIn low high n → Counts n e → EntryIn low high e
  counted n e p c = at_entries low high n p e c.among

  -- what stands in the document
  stands : {role : Role} {n : Placed} → Stands root role n → SpansIn low high n
  stands document_stands = s
  stands {n = n} (name_stands h) = member root n (codes "name") s h
  stands {n = n} (description_stands h) = member root n (codes "description") s h
  stands {n = n} (sets_stand h) = member root n (codes "sets") s h
  stands (set_stands {n} {e} x c) = (counted n e (stands x) c).value
  stands {n = n} (modifiers_stand h) = member root n (codes "modifiers") s h
  stands (modifier_stands {n} {e} x c) = (counted n e (stands x) c).value
  stands {n = n} (order_stands h) = member root n (codes "resolutionOrder") s h
  stands (item_stands {n} {m} x i) = at_elements low high n (stands x) m i
  stands (type_stands {n} {m} x l h) = member n m (codes "type") (stands x) h
  stands (own_name_stands {n} {m} x w h) = member n m (codes "name") (stands x) h
  stands (own_set_stands x w) = stands x
  stands (own_modifier_stands x w) = stands x
  stands (sources_stand {n} {m} x h) = member n m (codes "sources") (stands x) h
  stands (contexts_stand {n} {m} x h) = member n m (codes "contexts") (stands x) h
  stands (default_stands {n} {m} x h) = member n m (codes "default") (stands x) h
  stands (context_stands {n} {e} x c) = (counted n e (stands x) c).value
  stands (source_stands {n} {m} x i) = at_elements low high n (stands x) m i
  stands (source_reference_stands {n} {m} x h) = member n m (codes "$ref") (stands x) h
  stands (item_reference_stands {n} {m} x h) = member n m (codes "$ref") (stands x) h

  abbrev BreakIn : Break → Type 0
  BreakIn b = IsWithin low high b.start b.end

  value_within : (n : Placed) → SpansIn low high n → IsWithin low high (start_of n) (end_of n)
  value_within n p = span_within low high n p

  form_in : {b : Break} → BreaksForm root b → BreakIn b
  form_in (no_version l) = value_within root s
  form_in (other_version {n} h d) = value_within n (member root n (codes "version") s h)
  form_in (other_form {role} {n} x o) = value_within n (stands x)
  form_in (no_order o l) = value_within root s
  form_in (no_sources {n} x o l) = value_within n (stands x)
  form_in (no_contexts {n} x o l) = value_within n (stands x)
  form_in (no_type {n} x o r l) = value_within n (stands x)
  form_in (no_name {n} x w l) = value_within n (stands x)
  form_in (other_type {n} x w p q) = value_within w.type (member n w.type (codes "type") (stands x) w.typed)
  form_in (beside_source {n} {m} {e} x h c) = (counted n e (stands x) c).name_in
  form_in (beside_item {n} {m} {e} x h c) = (counted n e (stands x) c).name_in
  form_in (no_context {n} x o h) = value_within n (stands x)
  form_in (no_such_default {n} {m} x h d) = value_within m (member n m (codes "default") (stands x) h)

  -- items of the order
  in_items : (before after : List Placed) (n : Placed) → In n (before ++ (n ∷ after))
  in_items [] after n = inl refl
  in_items (m ∷ ms) after n = inr (in_items ms after n)

  item_in : (n : Placed) → In n (order_items root) → SpansIn low high n
  item_in n i = go (value_of_name (codes "resolutionOrder") (entries_at root)) refl i
    where
      go : (o : Option Placed) → value_of_name (codes "resolutionOrder") (entries_at root) ≡ o → In n (unwrap_or (option_map elements_at o) []) → SpansIn low high n
      go None h j = absurd j
      go (Some l) h j = at_elements low high l (member root l (codes "resolutionOrder") s h) n j

  name_string_in : (n m : Placed) → SpansIn low high n → IsNameString n m → SpansIn low high m
  name_string_in n m p (inl h) = member n m (codes "$ref") p h
  name_string_in n m p (inr (l, h)) = member n m (codes "name") p h

  naming_in : {b : Break} → BreaksNaming root b → BreakIn b
  naming_in (modifier_as_source {n} {m} x h begin) = value_within m (member n m (codes "$ref") (stands x) h)
  naming_in (no_source {n} {m} x h begin set path) = value_within m (member n m (codes "$ref") (stands x) h)
  naming_in (no_item {n} {m} x h set modifier) = value_within m (member n m (codes "$ref") (stands x) h)
  naming_in (name_again {n} {m} r x) =
      value_within m (name_string_in n m (item_in n (subst (λ (ns : List Placed). In n ns) (sym r.items) (in_items r.before r.after n))) x)

  -- the string that closes a ring of sets
  abbrev sets_in : List Entry
  sets_in = set_entries root

  abbrev AllSpans : List Placed → Type 0
  AllSpans ns = (n : Placed) → In n ns → SpansIn low high n

  named_in : (v : ℕ) (ns : List Placed) (string : Placed) → AllSpans ns → naming_string sets_in v ns ≡ Some string → SpansIn low high string
  named_in v [] string all e = cc
  named_in v (n ∷ ns) string all e = go (is_set v (source_of sets_in n)) (named_in v ns string (λ m i. all m (inr i))) e
    where
      go : (t : Bool) → (naming_string sets_in v ns ≡ Some string → SpansIn low high string)
          → (if t then value_of_name (codes "$ref") (entries_at n) else naming_string sets_in v ns) ≡ Some string → SpansIn low high string
      go true later k = member n string (codes "$ref") (all n (inl refl)) k
      go false later k = later k

  set_value : (e : Entry) → In e sets_in → SpansIn low high e.value
  set_value e i = go (value_of_name (codes "sets") (entries_at root)) refl i
    where
      go : (o : Option Placed) → value_of_name (codes "sets") (entries_at root) ≡ o → In e (unreserved (unwrap_or (option_map entries_at o) [])) → SpansIn low high e.value
      go None h j = absurd j
      go (Some n) h j = (at_entries low high n (member root n (codes "sets") s h) e (in_counted (entries_at n) e j)).value

  sources_in : (v : ℕ) → AllSpans (sources_at sets_in v)
  sources_in v = of_set (slice_get sets_in v) (λ e k. set_value e (in_slice sets_in v e k))
    where
      of_list : (e : Entry) → SpansIn low high e.value → (o : Option Placed) → value_of_name (codes "sources") (entries_at e.value) ≡ o → AllSpans (unwrap_or (option_map elements_at o) [])
      of_list e p None h n i = absurd i
      of_list e p (Some m) h n i = at_elements low high m (member e.value m (codes "sources") p h) n i

      of_set : (o : Option Entry) → ((e : Entry) → o ≡ Some e → SpansIn low high e.value)
          → AllSpans (unwrap_or (option_map elements_at (value_of_name (codes "sources") (unwrap_or (option_map (λ e. entries_at e.value) o) []))) [])
      of_set None all n i = absurd i
      of_set (Some e) all n i = of_list e (all e refl) (value_of_name (codes "sources") (entries_at e.value)) refl n i

  ring_in : (ring : List ℕ) (string : Placed) → ring_string sets_in ring ≡ Some string → SpansIn low high string
  ring_in [] string e = cc
  ring_in (v ∷ vs) string e = named_in v (sources_at sets_in (last_of v vs)) string (sources_in (last_of v vs)) e

  -- what is told
  pub told_in : (told : Break) (ring : List (List ℕ)) → IsFirstBroken root told ring → IsWithin low high told.start told.end
  told_in told ring (first_form x first) = form_in x
  told_in told ring (first_naming none x first) = naming_in x
  told_in told ring (first_ring forms names rule x) =
      let w = value_within x.string (ring_in x.ring x.string x.closes) in
      subst (λ k. IsWithin low high k told.end) (sym x.starts) (subst (λ k. IsWithin low high (start_of x.string) k) (sym x.ends) w)
