-- Each broken reference, and each name that stands twice, is an entry of the list.
use Rattle.std.proofs.Common.{◌≡◌, inl, inr, ℕ, Bool, true, false, ◌||◌, List, [], ◌∷◌, ◌++◌, codes, nat_eq, Option, Some, None, option_map, option_and_then, unwrap_or, is_some, if◌then◌else◌, refl, sym, ap, ◌∙◌, subst}
use Rattle.std.proofs.lemmas.Bool.Decides.{Decides-eqb}
use Rattle.std.proofs.lemmas.Slice.Eq.{bytes_eq-Decides, starts_is}
use Rattle.std.specs.List.{flat_map, starts_with}
use Rattle.std.specs.Str.{bytes_eq}
use Rattle.edit_script.specs.Script.{is_path}
use Rattle.json_span.specs.Tree.{Placed, Entry, tree_of, string_in, object_in, value_of_name}
use Rattle.name_path.proofs.Joins.{one_pointer}
use Rattle.name_path.specs.Reference.{pointer_text}
use Rattle.ring.proofs.Ends.{in_left, in_right}
use Rattle.ring.specs.Lists.{In}
use Rattle.resolver_doc.specs.declared.rule.PlanRule.TheVariants.{Reference, ModifierInSet, Duplicate}
use Rattle.resolver_doc.specs.declared.rule.Break.{Break}
use Rattle.resolver_doc.specs.Break.{at_value}
use Rattle.resolver_doc.specs.Document.{elements_at, text_at, set_entries, modifier_entries, order_items, pointer, pointed_number, set_number, modifier_number, without_dots, member_text}
use Rattle.resolver_doc.specs.Form.{unreserved, entries_at}
use Rattle.resolver_doc.specs.Naming.{named_breaks, of_each, source_breaks, sources_breaks, set_breaks, modifier_breaks, item_breaks_by, item_breaks, name_of_number, item_name_by, item_name, name_string_by, name_string, is_among, repeat_at, with_name, repeats, naming_breaks}
use Rattle.resolver_doc.specs.Rules.{HasMember, IsOwn, Role, a_document, a_text, sets, a_set, modifiers, a_modifier, contexts, sources, a_source, order, an_item, Stands, document_stands, name_stands, description_stands, sets_stand, set_stands, modifiers_stand, modifier_stands, order_stands, item_stands, type_stands, own_name_stands, own_set_stands, own_modifier_stands, sources_stand, contexts_stand, default_stands, context_stands, source_stands, source_reference_stands, item_reference_stands, at, BeginsLikeModifier, HasItemName, its_own, of_set, of_modifier, IsNameString, RepeatsName, BreaksNaming, modifier_as_source, no_source, no_item, name_again, BrokenNamesAreListed}
use Rattle.resolver_doc.proofs.BreakCases.{in_flat, of_counts}
use Rattle.resolver_doc.proofs.NamingRules.{in_slice, begins}
use Rattle.resolver_doc.proofs.PointersNamed.{pointers_spell, pointers_find}

differ : false ≡ true → ⊥
differ h = cc

begins_so : (text : List ℕ) → BeginsLikeModifier text → starts_with nat_eq text (codes "#/modifiers/") ≡ true
begins_so text (rest, is) = (starts_is Decides-eqb text (codes "#/modifiers/") (starts_with nat_eq text (codes "#/modifiers/")) refl).1 rest is

begins_otherwise : (text : List ℕ) → (BeginsLikeModifier text → ⊥) → starts_with nat_eq text (codes "#/modifiers/") ≡ false
begins_otherwise text h = go (starts_with nat_eq text (codes "#/modifiers/")) refl
  where
    go : (t : Bool) → starts_with nat_eq text (codes "#/modifiers/") ≡ t → t ≡ false
    go true e = absurd (h (begins text e))
    go false e = refl

-- a text that names no member has no number
in_no_number : (part : List ℕ) (es : List Entry) (text : List ℕ) → ((e : Entry) × In e es × (text ≡ pointer part e) → ⊥) → pointed_number part es text ≡ None
in_no_number part es text h = go (pointed_number part es text) refl
  where
    go : (o : Option ℕ) → pointed_number part es text ≡ o → o ≡ None
    go None e = refl
    go (Some v) e = (let r = pointers_spell part es text v e in absurd (h (r.0, in_slice es v r.0 r.1, r.2)))

apart_sections : (p q : List ℕ) → pointer_text (codes "sets" ∷ p ∷ []) ≡ pointer_text (codes "modifiers" ∷ q ∷ []) → ⊥
apart_sections p q e = unlike (one_pointer (codes "sets" ∷ p ∷ []) (codes "modifiers" ∷ q ∷ []) e)
  where
    unlike : codes "sets" ∷ p ∷ [] ≡ codes "modifiers" ∷ q ∷ [] → ⊥
    unlike e = cc

in_each : {A : Type 0} (breaks : A → List Break) (o : Option A) (x : A) (b : Break) → o ≡ Some x → In b (breaks x) → In b (of_each breaks o)
in_each breaks o x b e i = subst (λ p. In b (of_each breaks p)) (sym e) i

among_names : (name : List ℕ) (names : List (List ℕ)) → In name names → is_among name names ≡ true
among_names name [] i = absurd i
among_names name (x ∷ xs) (inl same) = ap (λ t. t || is_among name xs) ((bytes_eq-Decides x name).1 (sym same))
among_names name (x ∷ xs) (inr i) = either (bytes_eq x name) (among_names name xs i)
  where
    either : (t : Bool) {s : Bool} → s ≡ true → (t || s) ≡ true
    either true e = refl
    either false e = e

module _ (root : Placed) where
  abbrev sets_in : List Entry
  sets_in = set_entries root

  abbrev modifiers_in : List Entry
  modifiers_in = modifier_entries root

  -- the breaks that a place of each role has in it
  abbrev naming_at : Role → Placed → List Break
  naming_at a_document n = []
  naming_at a_text n = []
  naming_at sets n = flat_map (λ e. set_breaks sets_in (entries_at e.value)) (unreserved (entries_at n))
  naming_at a_set n = set_breaks sets_in (entries_at n)
  naming_at modifiers n = flat_map (λ e. modifier_breaks sets_in (entries_at e.value)) (unreserved (entries_at n))
  naming_at a_modifier n = modifier_breaks sets_in (entries_at n)
  naming_at contexts n = flat_map (λ e. sources_breaks sets_in e.value) (unreserved (entries_at n))
  naming_at sources n = sources_breaks sets_in n
  naming_at a_source n = source_breaks sets_in n
  naming_at order n = flat_map (item_breaks sets_in modifiers_in) (elements_at n)
  naming_at an_item n = item_breaks sets_in modifiers_in n

  abbrev of_sets : List Break
  of_sets = flat_map (λ e. set_breaks sets_in (entries_at e.value)) sets_in

  abbrev of_modifiers : List Break
  of_modifiers = flat_map (λ e. modifier_breaks sets_in (entries_at e.value)) modifiers_in

  abbrev of_items : List Break
  of_items = flat_map (item_breaks sets_in modifiers_in) (order_items root)

  abbrev of_names : List Break
  of_names = repeats sets_in modifiers_in [] (order_items root)

  in_sets : (n : Placed) → HasMember root (codes "sets") n → (b : Break) → In b (naming_at sets n) → In b (naming_breaks root)
  in_sets n h b i =
      in_left of_sets (of_modifiers ++ (of_items ++ of_names)) b
      (subst (λ (o : Option Placed). In b (flat_map (λ e. set_breaks sets_in (entries_at e.value)) (unreserved (unwrap_or (option_map entries_at o) [])))) (sym h) i)

  in_modifiers : (n : Placed) → HasMember root (codes "modifiers") n → (b : Break) → In b (naming_at modifiers n) → In b (naming_breaks root)
  in_modifiers n h b i =
      in_right of_sets (of_modifiers ++ (of_items ++ of_names)) b (in_left of_modifiers (of_items ++ of_names) b
      (subst (λ (o : Option Placed). In b (flat_map (λ e. modifier_breaks sets_in (entries_at e.value)) (unreserved (unwrap_or (option_map entries_at o) [])))) (sym h) i))

  in_items : (n : Placed) → HasMember root (codes "resolutionOrder") n → (b : Break) → In b (naming_at order n) → In b (naming_breaks root)
  in_items n h b i =
      in_right of_sets (of_modifiers ++ (of_items ++ of_names)) b (in_right of_modifiers (of_items ++ of_names) b (in_left of_items of_names b
      (subst (λ (o : Option Placed). In b (flat_map (item_breaks sets_in modifiers_in) (unwrap_or (option_map elements_at o) []))) (sym h) i)))

  -- an item of its own, by its type
  own_word : (n : Placed) (word : List ℕ) (w : IsOwn n word) → unwrap_or (member_text (codes "type") (entries_at n)) [] ≡ word
  own_word n word w =
      ap (λ (o : Option Placed). unwrap_or (option_and_then (λ x. string_in (tree_of x)) o) []) w.typed ∙ ap (λ (o : Option (List ℕ)). unwrap_or o []) w.says

  in_own : (n : Placed) (word : List ℕ) (w : IsOwn n word) (b : Break)
      → In b (if bytes_eq word (codes "set") then set_breaks sets_in (entries_at n) else modifier_breaks sets_in (entries_at n)) → In b (item_breaks sets_in modifiers_in n)
  in_own n word w b i =
      subst (λ (o : Option Placed). In b (item_breaks_by sets_in modifiers_in (entries_at n) o)) (sym w.no_reference)
      (subst (λ (x : List ℕ). In b (if bytes_eq x (codes "set") then set_breaks sets_in (entries_at n) else modifier_breaks sets_in (entries_at n))) (sym (own_word n word w)) i)

  listed : {role : Role} {n : Placed} → Stands root role n → (b : Break) → In b (naming_at role n) → In b (naming_breaks root)
  listed document_stands b i = absurd i
  listed (name_stands h) b i = absurd i
  listed (description_stands h) b i = absurd i
  listed {n = n} (sets_stand h) b i = in_sets n h b i
  listed (set_stands {n} {e} s c) b i = listed s b (in_flat (λ x. set_breaks sets_in (entries_at x.value)) (unreserved (entries_at n)) e b (of_counts n e c) i)
  listed {n = n} (modifiers_stand h) b i = in_modifiers n h b i
  listed (modifier_stands {n} {e} s c) b i = listed s b (in_flat (λ x. modifier_breaks sets_in (entries_at x.value)) (unreserved (entries_at n)) e b (of_counts n e c) i)
  listed {n = n} (order_stands h) b i = in_items n h b i
  listed (item_stands {n} {m} s j) b i = listed s b (in_flat (item_breaks sets_in modifiers_in) (elements_at n) m b j i)
  listed (type_stands s l h) b i = absurd i
  listed (own_name_stands s w h) b i = absurd i
  listed (own_set_stands {n} s w) b i = listed s b (in_own n (codes "set") w b i)
  listed (own_modifier_stands {n} s w) b i = listed s b (in_own n (codes "modifier") w b i)
  listed (sources_stand {n} {m} s h) b i = listed s b (in_each (sources_breaks sets_in) (value_of_name (codes "sources") (entries_at n)) m b h i)
  listed (contexts_stand {n} {m} s h) b i =
      listed s b (subst (λ (o : Option Placed). In b (flat_map (λ e. sources_breaks sets_in e.value) (unreserved (unwrap_or (option_and_then (λ x. object_in (tree_of x)) o) [])))) (sym h) i)
  listed (default_stands s h) b i = absurd i
  listed (context_stands {n} {e} s c) b i = listed s b (in_flat (λ x. sources_breaks sets_in x.value) (unreserved (entries_at n)) e b (of_counts n e c) i)
  listed (source_stands {n} {m} s j) b i = listed s b (in_flat (source_breaks sets_in) (elements_at n) m b j i)
  listed (source_reference_stands s h) b i = absurd i
  listed (item_reference_stands s h) b i = absurd i

  -- names of items
  named_so : (n : Placed) (name : List ℕ) → HasItemName root n name → item_name sets_in modifiers_in n ≡ Some name
  named_so n name (its_own {m} l h says) =
      ap (item_name_by sets_in modifiers_in (entries_at n)) l ∙ (ap (λ (o : Option Placed). option_and_then (λ x. string_in (tree_of x)) o) h ∙ says)
  named_so n name (of_set {m} e h i is) =
      let (v, found, named) = pointers_find (codes "sets") sets_in e i in
      let number : set_number sets_in (text_at m) ≡ Some v = ap (λ (t : List ℕ). set_number sets_in t) is ∙ found in
      ap (item_name_by sets_in modifiers_in (entries_at n)) h
      ∙ (ap (λ (o : Option ℕ). name_of_number sets_in modifiers_in o (modifier_number modifiers_in (text_at m))) number ∙ ap Some named)
  named_so n name (of_modifier {m} e h i is) =
      let (v, found, named) = pointers_find (codes "modifiers") modifiers_in e i in
      let number : modifier_number modifiers_in (text_at m) ≡ Some v = ap (λ (t : List ℕ). modifier_number modifiers_in t) is ∙ found in
      let none : set_number sets_in (text_at m) ≡ None = in_no_number (codes "sets") sets_in (text_at m) (λ r. apart_sections r.0.name e.name (sym r.2 ∙ is)) in
      ap (item_name_by sets_in modifiers_in (entries_at n)) h
      ∙ (ap (λ (o : Option ℕ). name_of_number sets_in modifiers_in o (modifier_number modifiers_in (text_at m))) none
      ∙ (ap (name_of_number sets_in modifiers_in None) number ∙ ap Some named))

  string_so : (n m : Placed) → IsNameString n m → name_string n ≡ Some m
  string_so n m (inl h) = ap (name_string_by (entries_at n)) h
  string_so n m (inr (l, h)) = ap (name_string_by (entries_at n)) l ∙ h

  -- the names seen after some items
  abbrev names_after : List (List ℕ) → List Placed → List (List ℕ)
  names_after seen [] = seen
  names_after seen (n ∷ ns) = names_after (with_name seen (item_name sets_in modifiers_in n)) ns

  stays : (seen : List (List ℕ)) (ns : List Placed) (name : List ℕ) → In name seen → In name (names_after seen ns)
  stays seen [] name i = i
  stays seen (n ∷ ns) name i = stays (with_name seen (item_name sets_in modifiers_in n)) ns name (kept (item_name sets_in modifiers_in n))
    where
      kept : (o : Option (List ℕ)) → In name (with_name seen o)
      kept None = i
      kept (Some x) = inr i

  seen_after : (seen : List (List ℕ)) (ns : List Placed) (m : Placed) (name : List ℕ) → In m ns → item_name sets_in modifiers_in m ≡ Some name → In name (names_after seen ns)
  seen_after seen [] m name i e = absurd i
  seen_after seen (n ∷ ns) m name (inl same) e =
      stays (with_name seen (item_name sets_in modifiers_in n)) ns name
      (subst (λ (o : Option (List ℕ)). In name (with_name seen o)) (sym (ap (item_name sets_in modifiers_in) (sym same) ∙ e)) (inl refl))
  seen_after seen (n ∷ ns) m name (inr i) e = seen_after (with_name seen (item_name sets_in modifiers_in n)) ns m name i e

  repeated : (seen : List (List ℕ)) (before after : List Placed) (n : Placed) (b : Break)
      → In b (of_each (repeat_at (names_after seen before) (item_name sets_in modifiers_in n)) (name_string n)) → In b (repeats sets_in modifiers_in seen (before ++ (n ∷ after)))
  repeated seen [] after n b i =
      in_left (of_each (repeat_at seen (item_name sets_in modifiers_in n)) (name_string n)) (repeats sets_in modifiers_in (with_name seen (item_name sets_in modifiers_in n)) after) b i
  repeated seen (m ∷ ms) after n b i =
      in_right (of_each (repeat_at seen (item_name sets_in modifiers_in m)) (name_string m)) (repeats sets_in modifiers_in (with_name seen (item_name sets_in modifiers_in m)) (ms ++ (n ∷ after))) b
      (repeated (with_name seen (item_name sets_in modifiers_in m)) ms after n b i)

  again : (n m : Placed) → RepeatsName root n → IsNameString n m → In (at Duplicate m) (naming_breaks root)
  again n m r s =
      in_right of_sets (of_modifiers ++ (of_items ++ of_names)) (at Duplicate m) (in_right of_modifiers (of_items ++ of_names) (at Duplicate m) (in_right of_items of_names (at Duplicate m)
      (subst (λ (ns : List Placed). In (at Duplicate m) (repeats sets_in modifiers_in [] ns)) (sym r.items)
      (repeated [] r.before r.after n (at Duplicate m)
      (in_each (repeat_at (names_after [] r.before) (item_name sets_in modifiers_in n)) (name_string n) m (at Duplicate m) (string_so n m s)
      (subst (λ (o : Option (List ℕ)). In (at Duplicate m) (repeat_at (names_after [] r.before) o m)) (sym (named_so n r.name r.has))
      (subst (λ (t : Bool). In (at Duplicate m) (if t then at_value Duplicate m else [])) (sym (among_names r.name (names_after [] r.before) seen)) (inl refl))))))))
    where
      seen : In r.name (names_after [] r.before)
      seen = seen_after [] r.before r.earlier r.name r.among (named_so r.earlier r.name r.earlier_has)

  -- references
  in_source : (n m : Placed) → Stands root a_source n → HasMember n (codes "$ref") m → (b : Break) → In b (named_breaks sets_in m) → In b (naming_breaks root)
  in_source n m s h b i = listed s b (in_each (named_breaks sets_in) (value_of_name (codes "$ref") (entries_at n)) m b h i)

  told : {b : Break} → BreaksNaming root b → In b (naming_breaks root)
  told (modifier_as_source {n} {m} s h begin) =
      in_source n m s h (at ModifierInSet m)
      (subst (λ (t : Bool). In (at ModifierInSet m)
      (if t then at_value ModifierInSet m else if is_some (set_number sets_in (text_at m)) || is_path (without_dots (text_at m)) then [] else at_value Reference m)) (sym (begins_so (text_at m) begin)) (inl refl))
  told (no_source {n} {m} s h begin set path) =
      in_source n m s h (at Reference m)
      (subst (λ (t : Bool). In (at Reference m)
      (if t then at_value ModifierInSet m else if is_some (set_number sets_in (text_at m)) || is_path (without_dots (text_at m)) then [] else at_value Reference m)) (sym (begins_otherwise (text_at m) begin))
      (subst (λ (v : Option ℕ). In (at Reference m) (if is_some v || is_path (without_dots (text_at m)) then [] else at_value Reference m)) (sym (in_no_number (codes "sets") sets_in (text_at m) set))
      (subst (λ (t : Bool). In (at Reference m) (if t then [] else at_value Reference m)) (sym path) (inl refl))))
  told (no_item {n} {m} s h set modifier) =
      listed s (at Reference m)
      (subst (λ (o : Option Placed). In (at Reference m) (item_breaks_by sets_in modifiers_in (entries_at n) o)) (sym h)
      (subst (λ (v : Option ℕ). In (at Reference m) (if is_some v || is_some (modifier_number modifiers_in (text_at m)) then [] else at_value Reference m)) (sym (in_no_number (codes "sets") sets_in (text_at m) set))
      (subst (λ (v : Option ℕ). In (at Reference m) (if is_some v then [] else at_value Reference m)) (sym (in_no_number (codes "modifiers") modifiers_in (text_at m) modifier)) (inl refl))))
  told (name_again {n} {m} r s) = again n m r s

pub broken_names_are_listed : BrokenNamesAreListed
broken_names_are_listed root b x = told root x
