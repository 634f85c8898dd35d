-- References to sets have the names and the numbers of sets.
use Rattle.std.proofs.Common.{◌≡◌, ℕ, suc, ◌+◌, ◌-◌, ◌≤◌, Bool, true, false, ◌&&◌, List, [], ◌∷◌, Option, Some, None, option_map, unwrap_or, cond, map, codes, if◌then◌else◌, refl, sym, ap, ◌∙◌, subst, arith, slice_get}
use Rattle.std.proofs.lemmas.Option.{slice_get-map}
use Rattle.std.proofs.lemmas.Slice.Eq.{bytes_eq-Decides}
use Rattle.std.specs.List.{position_from}
use Rattle.std.specs.Str.{bytes_eq}
use Rattle.json_span.specs.Tree.{Placed, Entry, value_of_name}
use Rattle.resolver_doc.specs.Document.{SetData, set_item, resolver_of, elements_at, text_at, pointer, set_entries, modifier_entries, order_items, set_number, modifier_number, name_in, member_entries, set_or_file, source_by, source_of, sources_of, sources_in, set_of, context_of, member_text, modifier_of, named_modifier, named_item, own_name, item_by, order_item}
use Rattle.resolver_doc.specs.Form.{unreserved, context_entries, entries_at}
use Rattle.resolver_doc.specs.Rings.{is_set_named, is_right, are_right, are_sets_right, is_item_right, are_items_right}

-- where a test first passes, there is an item
pub record Stands {K : Type 0} (xs : List K) (k v : ℕ) : Type 0 where
  pub item : K
  pub behind : k ≤ v
  pub is : slice_get xs (v - k) ≡ Some item

some_is : {A : Type 0} {x y : A} → Some x ≡ Some y → x ≡ y
some_is e = cc

later : {K : Type 0} (x : K) (xs : List K) (k v : ℕ) → Stands xs (k + 1) v → Stands (x ∷ xs) k v
later x xs k v s = record {
  item = s.item;
  behind = let h = s.behind in omega (arith, h);
  is = let h = s.behind in let e : v - k ≡ suc (v - (k + 1)) = omega (arith, h) in subst (λ i. slice_get (x ∷ xs) i ≡ Some s.item) (sym e) s.is;
}

here : {K : Type 0} (x : K) (xs : List K) (k v : ℕ) → k ≡ v → Stands (x ∷ xs) k v
here x xs k v e = record {
  item = x;
  behind = omega (arith, e);
  is = let z : v - k ≡ 0 = omega (arith, e) in subst (λ i. slice_get (x ∷ xs) i ≡ Some x) (sym z) refl;
}

pub found_from : {K : Type 0} (t : K → Bool) (k : ℕ) (xs : List K) (v : ℕ) → position_from t k xs ≡ Some v → Stands xs k v
found_from t k [] v e = absurd (none e)
  where
    none : {A : Type 0} {x : A} → None ≡ Some x → ⊥
    none e = cc
found_from t k (x ∷ xs) v e = at (t x) (λ h. later x xs k v (found_from t (k + 1) xs v h)) e
  where
    at : (b : Bool) → (position_from t (k + 1) xs ≡ Some v → Stands (x ∷ xs) k v) → cond b (Some k) (position_from t (k + 1) xs) ≡ Some v → Stands (x ∷ xs) k v
    at true rest h = here x xs k v (some_is h)
    at false rest h = rest h

same_name : (name : List ℕ) → bytes_eq name name ≡ true
same_name name = (bytes_eq-Decides name name).1 refl

module _ (sets : List Entry) where
  abbrev listed : List SetData
  listed = map (set_of sets) sets

  named_right : (v : ℕ) (s : Stands sets 0 v) → is_set_named (name_in sets v) (slice_get listed v) ≡ true
  named_right v s =
      let z : v - 0 ≡ v = omega arith in
      let e : slice_get sets v ≡ Some s.item = subst (λ i. slice_get sets i ≡ Some s.item) z s.is in
      ap (is_set_named (name_in sets v)) (slice_get-map (set_of sets) sets v ∙ ap (option_map (set_of sets)) e)
      ∙ (ap (λ (name : List ℕ). bytes_eq s.item.name name) (ap (λ (o : Option Entry). unwrap_or (option_map (λ x. x.name) o) []) e) ∙ same_name s.item.name)

  named_by : (string : Placed) (o : Option ℕ) → set_number sets (text_at string) ≡ o → is_right listed (set_or_file sets string o) ≡ true
  named_by string None e = refl
  named_by string (Some v) e = named_right v (found_from (λ x. bytes_eq (pointer (codes "sets") x) (text_at string)) 0 sets v e)

  source_right : (n : Placed) → is_right listed (source_of sets n) ≡ true
  source_right n = at (value_of_name (codes "$ref") (entries_at n))
    where
      at : (o : Option Placed) → is_right listed (source_by sets n o) ≡ true
      at None = refl
      at (Some string) = named_by string (set_number sets (text_at string)) refl

  all_right : (ns : List Placed) → are_right listed (map (source_of sets) ns) ≡ true
  all_right [] = refl
  all_right (n ∷ ns) = ap (λ b. b && are_right listed (map (source_of sets) ns)) (source_right n) ∙ all_right ns

  sources_right : (es : List Entry) → are_right listed (sources_in sets es) ≡ true
  sources_right es = at (value_of_name (codes "sources") es)
    where
      at : (o : Option Placed) → are_right listed (unwrap_or (option_map (sources_of sets) o) []) ≡ true
      at None = refl
      at (Some n) = all_right (elements_at n)

  sets_right : (es : List Entry) → are_sets_right listed (map (set_of sets) es) ≡ true
  sets_right [] = refl
  sets_right (e ∷ es) = ap (λ b. b && are_sets_right listed (map (set_of sets) es)) (sources_right (entries_at e.value)) ∙ sets_right es

  contexts_right : (es : List Entry) → are_sets_right listed (map (context_of sets) es) ≡ true
  contexts_right [] = refl
  contexts_right (e ∷ es) = ap (λ b. b && are_sets_right listed (map (context_of sets) es)) (all_right (elements_at e.value)) ∙ contexts_right es

  modifier_right : (name : List ℕ) (es : List Entry) → is_item_right listed (modifier_of sets name es) ≡ true
  modifier_right name es = contexts_right (unreserved (context_entries es))

  item_right : (modifiers : List Entry) (n : Placed) → is_item_right listed (order_item sets modifiers n) ≡ true
  item_right modifiers n = at (value_of_name (codes "$ref") (entries_at n))
    where
      modifier_named : (o : Option ℕ) → is_item_right listed (named_modifier sets modifiers o) ≡ true
      modifier_named None = refl
      modifier_named (Some v) = modifier_right (name_in modifiers v) (member_entries modifiers v)

      named : (text : List ℕ) (o : Option ℕ) → is_item_right listed (named_item sets modifiers text o) ≡ true
      named text None = modifier_named (modifier_number modifiers text)
      named text (Some v) = sources_right (member_entries sets v)

      own : (b : Bool) → is_item_right listed (if b then set_item (sources_in sets (entries_at n)) else modifier_of sets (own_name (entries_at n)) (entries_at n)) ≡ true
      own true = sources_right (entries_at n)
      own false = modifier_right (own_name (entries_at n)) (entries_at n)

      at : (o : Option Placed) → is_item_right listed (item_by sets modifiers (entries_at n) o) ≡ true
      at None = own (bytes_eq (unwrap_or (member_text (codes "type") (entries_at n)) []) (codes "set"))
      at (Some string) = named (text_at string) (set_number sets (text_at string))

  items_right : (modifiers : List Entry) (ns : List Placed) → are_items_right listed (map (order_item sets modifiers) ns) ≡ true
  items_right modifiers [] = refl
  items_right modifiers (n ∷ ns) = ap (λ b. b && are_items_right listed (map (order_item sets modifiers) ns)) (item_right modifiers n) ∙ items_right modifiers ns

  pub listed_right : are_sets_right (map (set_of sets) sets) (map (set_of sets) sets) ≡ true
  listed_right = sets_right sets

pub order_right : (root : Placed) → are_items_right (resolver_of root).sets (resolver_of root).order ≡ true
order_right root = items_right (set_entries root) (modifier_entries root) (order_items root)
