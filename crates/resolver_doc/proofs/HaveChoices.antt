-- Where the forms are met, each modifier of the order has a context.
use Rattle.std.proofs.Common.{◌≡◌, ℕ, zero, suc, ◌-◌, Bool, true, false, ◌&&◌, ◌||◌, not, List, [], ◌∷◌, ◌++◌, Option, Some, None, option_map, option_and_then, unwrap_or, is_some, if◌then◌else◌, map, codes, refl, sym, ap, ◌∙◌, subst, slice_get, arith}
use Rattle.std.specs.List.{flat_map}
use Rattle.std.specs.Str.{bytes_eq}
use Rattle.json_span.specs.Tree.{Placed, Entry, tree_of, string_in, array_in, object_in, value_of_name}
use Rattle.resolver_doc.specs.declared.rule.PlanRule.TheVariants.{Shape, Contexts}
use Rattle.resolver_doc.specs.declared.rule.Break.{Break}
use Rattle.resolver_doc.specs.Break.{at_value}
use Rattle.resolver_doc.specs.Document.{set_item, modifier_item, has_choice, have_choices, resolver_of, elements_at, set_entries, modifier_entries, order_items, pointer, set_number, modifier_number, name_in, member_entries, text_at, member_text, sources_in, context_of, modifier_of, named_modifier, named_item, own_name, own_item, item_by, order_item}
use Rattle.resolver_doc.proofs.RightSets.{Stands, found_from}
use Rattle.resolver_doc.specs.Form.{unreserved, formed, list_with, object_with, needed_member, optional_member, text_form, is_reserved, reference_form, counts_some, contexts_form, contexts_members, context_form, context_entries, default_form, modifier_members, modifier_form, typed_form, item_type, item_members, item_form, each_value, set_form, set_members, version_form, document_members, entries_at, form_breaks}

left : (xs ys : List Break) → xs ++ ys ≡ [] → xs ≡ []
left [] ys e = refl
left (x ∷ xs) ys e = cc

right : (xs ys : List Break) → xs ++ ys ≡ [] → ys ≡ []
right [] ys e = e
right (x ∷ xs) ys e = cc

-- where a value of a form breaks nothing, it has the form, and nothing in it breaks
record Met {A : Type 0} (o : Option A) (inside : A → List Break) : Type 0 where
  value : A
  is : o ≡ Some value
  none : inside value ≡ []

met : {A : Type 0} (o : Option A) (inside : A → List Break) (n : Placed) → formed o inside n ≡ [] → Met o inside
met None inside n e = cc
met (Some x) inside n e = record { value = x; is = refl; none = e }

there : (form : Placed → List Break) (owner : Placed) (o : Option Placed) → needed_member form owner o ≡ [] → Met o form
there form owner None e = cc
there form owner (Some n) e = record { value = n; is = refl; none = e }

at_each : {A : Type 0} (f : A → List Break) (xs : List A) (v : ℕ) (x : A) → flat_map f xs ≡ [] → slice_get xs v ≡ Some x → f x ≡ []
at_each f [] v x e g = cc
at_each f (y ∷ ys) zero x e g = subst (λ z. f z ≡ []) (some_is g) (left (f y) (flat_map f ys) e)
  where
    some_is : {B : Type 0} {a b : B} → Some a ≡ Some b → a ≡ b
    some_is h = cc
at_each f (y ∷ ys) (suc v) x e g = at_each f ys v x (right (f y) (flat_map f ys) e) g

module _ (sets : List Entry) where
  some_counted : (es : List Entry) (name : List ℕ) (default : Option (List ℕ)) → counts_some es ≡ true → has_choice (modifier_item name (map (context_of sets) (unreserved es)) default) ≡ true
  some_counted [] name default e = cc
  some_counted (x ∷ es) name default e = at (not (is_reserved x.name)) e (some_counted es name default)
    where
      at : (b : Bool) → (b || counts_some es) ≡ true → (counts_some es ≡ true → has_choice (modifier_item name (map (context_of sets) (unreserved es)) default) ≡ true)
          → has_choice (modifier_item name (map (context_of sets) (if b then x ∷ unreserved es else unreserved es)) default) ≡ true
      at true h later = refl
      at false h later = later h

  counts : (es : List Entry) (n : Placed) → contexts_members n es ≡ [] → counts_some es ≡ true
  counts es n e = at (counts_some es) (left (if counts_some es then [] else at_value Contexts n) (flat_map context_form (unreserved es)) e)
    where
      at : (b : Bool) → (if b then [] else at_value Contexts n) ≡ [] → b ≡ true
      at true h = refl
      at false h = cc

  -- a modifier whose form is met
  modifier_chosen : (name : List ℕ) (owner : Placed) (es : List Entry) → modifier_members owner es ≡ [] → has_choice (modifier_of sets name es) ≡ true
  modifier_chosen name owner es e =
      let needs = left (needed_member contexts_form owner (value_of_name (codes "contexts") es)) (optional_member (default_form (context_entries es)) (value_of_name (codes "default") es)) e in
      let c = there contexts_form owner (value_of_name (codes "contexts") es) needs in
      let m = met (object_in (tree_of c.value)) (contexts_members c.value) c.value c.none in
      let are : context_entries es ≡ m.value = ap (λ (o : Option Placed). unwrap_or (option_and_then (λ n. object_in (tree_of n)) o) []) c.is ∙ ap (λ (o : Option (List Entry)). unwrap_or o []) m.is in
      subst (λ (xs : List Entry). has_choice (modifier_item name (map (context_of sets) (unreserved xs)) (member_text (codes "default") es)) ≡ true) (sym are)
      (some_counted m.value name (member_text (codes "default") es) (counts m.value c.value m.none))

  -- the form of an object that is met
  inside : (n : Placed) (breaks : List Entry → List Break) → object_with breaks n ≡ [] → breaks (entries_at n) ≡ []
  inside n breaks e =
      let m = met (object_in (tree_of n)) breaks n e in
      subst (λ (es : List Entry). breaks es ≡ []) (sym (ap (λ (o : Option (List Entry)). unwrap_or o []) m.is)) m.none

  own_chosen : (n : Placed) (es : List Entry) → needed_member (item_type n es) n (value_of_name (codes "type") es) ≡ [] → has_choice (own_item sets es) ≡ true
  own_chosen n es e =
      let t = there (item_type n es) n (value_of_name (codes "type") es) e in
      let w = met (string_in (tree_of t.value)) (typed_form n es t.value) t.value t.none in
      let word : unwrap_or (member_text (codes "type") es) [] ≡ w.value = ap (λ (o : Option Placed). unwrap_or (option_and_then (λ x. string_in (tree_of x)) o) []) t.is ∙ ap (λ (o : Option (List ℕ)). unwrap_or o []) w.is in
      subst (λ (s : List ℕ). has_choice (if bytes_eq s (codes "set") then set_item (sources_in sets es) else modifier_of sets (own_name es) es) ≡ true) (sym word)
      (at t.value (bytes_eq w.value (codes "set")) (bytes_eq w.value (codes "modifier")) w.none)
    where
      at : (type : Placed) (a b : Bool)
          → (if a then needed_member text_form n (value_of_name (codes "name") es) ++ set_members n es else if b then needed_member text_form n (value_of_name (codes "name") es) ++ modifier_members n es else at_value Shape type) ≡ []
          → has_choice (if a then set_item (sources_in sets es) else modifier_of sets (own_name es) es) ≡ true
      at type true b h = refl
      at type false true h = modifier_chosen (own_name es) n es (right (needed_member text_form n (value_of_name (codes "name") es)) (modifier_members n es) h)
      at type false false h = cc

  module _ (modifiers : List Entry) (are : flat_map (λ e. modifier_form e.value) modifiers ≡ []) where
    number_chosen : (v : ℕ) (s : Stands modifiers 0 v) → has_choice (modifier_of sets (name_in modifiers v) (member_entries modifiers v)) ≡ true
    number_chosen v s =
        let z : v - 0 ≡ v = omega arith in
        let e : slice_get modifiers v ≡ Some s.item = subst (λ i. slice_get modifiers i ≡ Some s.item) z s.is in
        let members : member_entries modifiers v ≡ entries_at s.item.value = ap (λ (o : Option Entry). unwrap_or (option_map (λ x. entries_at x.value) o) []) e in
        subst (λ (es : List Entry). has_choice (modifier_of sets (name_in modifiers v) es) ≡ true) (sym members)
        (modifier_chosen (name_in modifiers v) s.item.value (entries_at s.item.value) (inside s.item.value (modifier_members s.item.value) (at_each (λ x. modifier_form x.value) modifiers v s.item are e)))

    named_chosen : (text : List ℕ) (o : Option ℕ) → has_choice (named_item sets modifiers text o) ≡ true
    named_chosen text None = at (modifier_number modifiers text) refl
      where
        at : (o : Option ℕ) → modifier_number modifiers text ≡ o → has_choice (named_modifier sets modifiers o) ≡ true
        at None e = refl
        at (Some v) e = number_chosen v (found_from (λ x. bytes_eq (pointer (codes "modifiers") x) text) 0 modifiers v e)
    named_chosen text (Some v) = refl

    item_chosen : (n : Placed) → item_form n ≡ [] → has_choice (order_item sets modifiers n) ≡ true
    item_chosen n e = at (value_of_name (codes "$ref") (entries_at n)) (inside n (item_members n) e)
      where
        at : (o : Option Placed) → (if is_some o then reference_form (entries_at n) else needed_member (item_type n (entries_at n)) n (value_of_name (codes "type") (entries_at n))) ≡ []
            → has_choice (item_by sets modifiers (entries_at n) o) ≡ true
        at None h = own_chosen n (entries_at n) h
        at (Some string) h = named_chosen (text_at string) (set_number sets (text_at string))

    items_chosen : (ns : List Placed) → flat_map item_form ns ≡ [] → have_choices (map (order_item sets modifiers) ns) ≡ true
    items_chosen [] e = refl
    items_chosen (n ∷ ns) e =
        ap (λ b. b && have_choices (map (order_item sets modifiers) ns)) (item_chosen n (left (item_form n) (flat_map item_form ns) e))
        ∙ items_chosen ns (right (item_form n) (flat_map item_form ns) e)

-- the modifiers of the document, and its items

modifiers_met : (o : Option Placed) → optional_member (each_value modifier_form) o ≡ [] → flat_map (λ e. modifier_form e.value) (unreserved (unwrap_or (option_map entries_at o) [])) ≡ []
modifiers_met None e = refl
modifiers_met (Some n) e = inside [] n (λ es. flat_map (λ x. modifier_form x.value) (unreserved es)) e

items_met : (root : Placed) (o : Option Placed) → needed_member (list_with item_form) root o ≡ [] → flat_map item_form (unwrap_or (option_map elements_at o) []) ≡ []
items_met root None e = refl
items_met root (Some n) e =
    let m = met (array_in (tree_of n)) (flat_map item_form) n e in
    subst (λ (ns : List Placed). flat_map item_form ns ≡ []) (sym (ap (λ (o : Option (List Placed)). unwrap_or o []) m.is)) m.none

pub order_chosen : (root : Placed) → form_breaks root ≡ [] → have_choices (resolver_of root).order ≡ true
order_chosen root e =
    let es = entries_at root in
    let members : document_members root es ≡ [] = inside [] root (document_members root) (right (version_form root) (object_with (document_members root) root) e) in
    let behind_name = right (optional_member text_form (value_of_name (codes "name") es)) _ members in
    let behind_description = right (optional_member text_form (value_of_name (codes "description") es)) _ behind_name in
    let behind_sets = right (optional_member (each_value set_form) (value_of_name (codes "sets") es)) _ behind_description in
    let modifiers = left (optional_member (each_value modifier_form) (value_of_name (codes "modifiers") es)) _ behind_sets in
    let order = right (optional_member (each_value modifier_form) (value_of_name (codes "modifiers") es)) _ behind_sets in
    items_chosen (set_entries root) (modifier_entries root) (modifiers_met (value_of_name (codes "modifiers") es) modifiers) (order_items root) (items_met root (value_of_name (codes "resolutionOrder") es) order)
