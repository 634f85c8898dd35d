-- Each entry of the list of broken forms breaks its rule at its place.
use Rattle.std.proofs.Common.{◌≡◌, ◌⊎◌, inl, inr, ℕ, Bool, true, false, not, List, [], ◌++◌, codes, Option, Some, None, is_some, option_and_then, unwrap_or, if◌then◌else◌, refl, sym, ap, ◌∙◌, subst}
use Rattle.std.proofs.lemmas.Slice.Eq.{bytes_eq-Decides}
use Rattle.std.specs.List.{flat_map}
use Rattle.std.specs.Str.{bytes_eq}
use Rattle.json_span.specs.Tree.{Placed, Entry, tree_of, string_in, array_in, object_in, value_of_name}
use Rattle.ring.proofs.Ends.{in_cases}
use Rattle.ring.specs.Lists.{In}
use Rattle.resolver_doc.specs.declared.rule.PlanRule.TheVariants.{Version, Shape, Contexts, Default}
use Rattle.resolver_doc.specs.declared.rule.Break.{Break}
use Rattle.resolver_doc.specs.Break.{at_value, at_name}
use Rattle.resolver_doc.specs.Document.{elements_at}
use Rattle.resolver_doc.specs.Form.{text_form, reference_form, source_members, source_form, sources_form, set_members, set_form, is_reserved, unreserved, counts_some, context_form, contexts_members, contexts_form, has_context, context_entries, names_context, default_form, modifier_members, modifier_form, typed_form, item_type, item_members, item_form, each_value, is_version, given_version, entries_at, version_form, document_members, needed_member, optional_member, object_with, list_with, form_breaks}
use Rattle.resolver_doc.specs.Rules.{HasMember, Lacks, Counts, IsOwn, IsSetOrModifier, Role, a_text, sets, a_set, modifiers, a_modifier, contexts, sources, a_source, an_item, Stands, document_stands, name_stands, description_stands, sets_stand, set_stands, modifiers_stand, modifier_stands, order_stands, item_stands, type_stands, own_name_stands, own_set_stands, own_modifier_stands, sources_stand, contexts_stand, default_stands, context_stands, source_stands, source_reference_stands, item_reference_stands, IsObject, IsOfOtherForm, NamesContext, at, at_name_of, BreaksForm, no_version, other_version, other_form, no_order, no_sources, no_contexts, no_type, no_name, other_type, beside_source, beside_item, no_context, no_such_default, FormBreaksBreak}
use Rattle.resolver_doc.proofs.BreakCases.{from_flat, any_not, reserved_not, alone, formed_cases, object_cases, list_cases, needed_cases, optional_cases, counts_of, of_counts}

same_some : {A : Type 0} {x y : A} → Some x ≡ Some y → x ≡ y
same_some e = cc

module _ (root : Placed) where
  as_told : (b told : Break) → b ≡ told → BreaksForm root told → BreaksForm root b
  as_told b told e x = subst (BreaksForm root) (sym e) x

  text : (n : Placed) → Stands root a_text n → (b : Break) → In b (text_form n) → BreaksForm root b
  text n s b i = go (formed_cases (string_in (tree_of n)) (λ _. []) n b i)
    where
      go : ((string_in (tree_of n) ≡ None) × (b ≡ at Shape n)) ⊎ ((x : List ℕ) × (string_in (tree_of n) ≡ Some x) × In b []) → BreaksForm root b
      go (inl (none, is)) = as_told b (at Shape n) is (other_form s none)
      go (inr (x, e, j)) = absurd j

  -- `$ref` and its neighbors
  reference : (n m : Placed) → HasMember n (codes "$ref") m → Stands root a_text m → ((e : Entry) → Counts n e → BreaksForm root (at_name_of Shape e))
      → (b : Break) → In b (reference_form (entries_at n)) → BreaksForm root b
  reference n m h s beside b i =
      go (in_cases (optional_member text_form (value_of_name (codes "$ref") (entries_at n))) (flat_map (at_name Shape) (unreserved (entries_at n))) b i)
    where
      its_text : (x : Placed) × (value_of_name (codes "$ref") (entries_at n) ≡ Some x) × In b (text_form x) → BreaksForm root b
      its_text (x, e, j) = text m s b (subst (λ (y : Placed). In b (text_form y)) (same_some (sym e ∙ h)) j)

      neighbor : (x : Entry) × In x (unreserved (entries_at n)) × In b (at_name Shape x) → BreaksForm root b
      neighbor (x, j, k) = as_told b (at_name_of Shape x) (alone k) (beside x (counts_of n x j))

      go : In b (optional_member text_form (value_of_name (codes "$ref") (entries_at n))) ⊎ In b (flat_map (at_name Shape) (unreserved (entries_at n))) → BreaksForm root b
      go (inl j) = its_text (optional_cases text_form (value_of_name (codes "$ref") (entries_at n)) b j)
      go (inr j) = neighbor (from_flat (at_name Shape) (unreserved (entries_at n)) b j)

  source : (n : Placed) → Stands root a_source n → (b : Break) → In b (source_form n) → BreaksForm root b
  source n s b i = go (object_cases source_members n b i)
    where
      by_ref : (o : Option Placed) → value_of_name (codes "$ref") (entries_at n) ≡ o → In b (if is_some o then reference_form (entries_at n) else []) → BreaksForm root b
      by_ref None e j = absurd j
      by_ref (Some m) e j = reference n m e (source_reference_stands s e) (λ x c. beside_source s e c) b j

      go : ((object_in (tree_of n) ≡ None) × (b ≡ at Shape n)) ⊎ (IsObject n × In b (source_members (entries_at n))) → BreaksForm root b
      go (inl (none, is)) = as_told b (at Shape n) is (other_form s none)
      go (inr (o, j)) = by_ref (value_of_name (codes "$ref") (entries_at n)) refl j

  list : (n : Placed) → Stands root sources n → (b : Break) → In b (sources_form n) → BreaksForm root b
  list n s b i = go (list_cases source_form n b i)
    where
      go : ((array_in (tree_of n) ≡ None) × (b ≡ at Shape n)) ⊎ ((m : Placed) × In m (elements_at n) × In b (source_form m)) → BreaksForm root b
      go (inl (none, is)) = as_told b (at Shape n) is (other_form s none)
      go (inr (m, j, k)) = source m (source_stands s j) b k

  -- a set, also one that stands in the order
  in_set : (n : Placed) → Stands root a_set n → IsObject n → (b : Break) → In b (set_members n (entries_at n)) → BreaksForm root b
  in_set n s o b i = go (needed_cases sources_form n (value_of_name (codes "sources") (entries_at n)) b i)
    where
      go : (Lacks n (codes "sources") × (b ≡ at Shape n)) ⊎ ((m : Placed) × HasMember n (codes "sources") m × In b (sources_form m)) → BreaksForm root b
      go (inl (none, is)) = as_told b (at Shape n) is (no_sources s o none)
      go (inr (m, h, j)) = list m (sources_stand s h) b j

  set : (n : Placed) → Stands root a_set n → (b : Break) → In b (set_form n) → BreaksForm root b
  set n s b i = go (object_cases (set_members n) n b i)
    where
      go : ((object_in (tree_of n) ≡ None) × (b ≡ at Shape n)) ⊎ (IsObject n × In b (set_members n (entries_at n))) → BreaksForm root b
      go (inl (none, is)) = as_told b (at Shape n) is (other_form s none)
      go (inr (o, j)) = in_set n s o b j

  -- a modifier's contexts
  none_counts : (n : Placed) → counts_some (entries_at n) ≡ false → (e : Entry) → Counts n e → ⊥
  none_counts n f e c = differ (any_not (λ x. not (is_reserved x.name)) (entries_at n) e f c.among) (reserved_not e.name c.counted)
    where
      differ : {t : Bool} → not t ≡ false → t ≡ false → ⊥
      differ {t} g h = (let k : not false ≡ false = subst (λ x. not x ≡ false) h g in cc)

  contexts_in : (n : Placed) → Stands root contexts n → (b : Break) → In b (contexts_form n) → BreaksForm root b
  contexts_in n s b i = go (object_cases (contexts_members n) n b i)
    where
      by_some : IsObject n → (t : Bool) → counts_some (entries_at n) ≡ t → In b (if t then [] else at_value Contexts n) → BreaksForm root b
      by_some o true e j = absurd j
      by_some o false e j = as_told b (at Contexts n) (alone j) (no_context s o (none_counts n e))

      one : (x : Entry) × In x (unreserved (entries_at n)) × In b (context_form x) → BreaksForm root b
      one (x, j, k) = list x.value (context_stands s (counts_of n x j)) b k

      either : IsObject n → In b (if counts_some (entries_at n) then [] else at_value Contexts n) ⊎ In b (flat_map context_form (unreserved (entries_at n))) → BreaksForm root b
      either o (inl j) = by_some o (counts_some (entries_at n)) refl j
      either o (inr j) = one (from_flat context_form (unreserved (entries_at n)) b j)

      go : ((object_in (tree_of n) ≡ None) × (b ≡ at Shape n)) ⊎ (IsObject n × In b (contexts_members n (entries_at n))) → BreaksForm root b
      go (inl (none, is)) = as_told b (at Shape n) is (other_form s none)
      go (inr (o, j)) = either o (in_cases (if counts_some (entries_at n) then [] else at_value Contexts n) (flat_map context_form (unreserved (entries_at n))) b j)

  -- a name that is none of the contexts
  no_name_of : (n d : Placed) (name : List ℕ) → string_in (tree_of d) ≡ Some name → has_context name (context_entries (entries_at n)) ≡ false → NamesContext n d → ⊥
  no_name_of n d name says f c = differ
      (any_not (λ x. bytes_eq x.name name) (unreserved (entries_at c.all)) c.context (subst (λ es. has_context name es ≡ false) are f) (of_counts c.all c.context c.counts))
      ((bytes_eq-Decides c.context.name name).1 same)
    where
      are : context_entries (entries_at n) ≡ entries_at c.all
      are = ap (λ (o : Option Placed). unwrap_or (option_and_then (λ x. object_in (tree_of x)) o) []) c.there

      same : c.context.name ≡ name
      same = (let e : Some c.context.name ≡ Some name = sym c.named ∙ says in cc)

      differ : {t : Bool} → t ≡ false → t ≡ true → ⊥
      differ g h = (let k : false ≡ true = sym g ∙ h in cc)

  no_text_of : (n d : Placed) → string_in (tree_of d) ≡ None → NamesContext n d → ⊥
  no_text_of n d says c = (let e : Some c.context.name ≡ None = sym c.named ∙ says in cc)

  default : (n d : Placed) → Stands root a_modifier n → HasMember n (codes "default") d → (b : Break) → In b (default_form (context_entries (entries_at n)) d) → BreaksForm root b
  default n d s h b i = go (string_in (tree_of d)) refl i
    where
      by : (name : List ℕ) → string_in (tree_of d) ≡ Some name → (t : Bool) → has_context name (context_entries (entries_at n)) ≡ t → In b (if t then [] else at_value Default d) → BreaksForm root b
      by name says true e j = absurd j
      by name says false e j = as_told b (at Default d) (alone j) (no_such_default s h (no_name_of n d name says e))

      go : (o : Option (List ℕ)) → string_in (tree_of d) ≡ o → In b (names_context (context_entries (entries_at n)) d o) → BreaksForm root b
      go None says (inl is) = as_told b (at Shape d) is (other_form (default_stands s h) says)
      go None says (inr j) = as_told b (at Default d) (alone j) (no_such_default s h (no_text_of n d says))
      go (Some name) says j = by name says (has_context name (context_entries (entries_at n))) refl j

  -- a modifier, also one that stands in the order
  in_modifier : (n : Placed) → Stands root a_modifier n → IsObject n → (b : Break) → In b (modifier_members n (entries_at n)) → BreaksForm root b
  in_modifier n s o b i =
      go (in_cases (needed_member contexts_form n (value_of_name (codes "contexts") (entries_at n)))
      (optional_member (default_form (context_entries (entries_at n))) (value_of_name (codes "default") (entries_at n))) b i)
    where
      its_contexts : (Lacks n (codes "contexts") × (b ≡ at Shape n)) ⊎ ((m : Placed) × HasMember n (codes "contexts") m × In b (contexts_form m)) → BreaksForm root b
      its_contexts (inl (none, is)) = as_told b (at Shape n) is (no_contexts s o none)
      its_contexts (inr (m, h, j)) = contexts_in m (contexts_stand s h) b j

      its_default : (m : Placed) × HasMember n (codes "default") m × In b (default_form (context_entries (entries_at n)) m) → BreaksForm root b
      its_default (m, h, j) = default n m s h b j

      go : In b (needed_member contexts_form n (value_of_name (codes "contexts") (entries_at n)))
          ⊎ In b (optional_member (default_form (context_entries (entries_at n))) (value_of_name (codes "default") (entries_at n))) → BreaksForm root b
      go (inl j) = its_contexts (needed_cases contexts_form n (value_of_name (codes "contexts") (entries_at n)) b j)
      go (inr j) = its_default (optional_cases (default_form (context_entries (entries_at n))) (value_of_name (codes "default") (entries_at n)) b j)

  modifier : (n : Placed) → Stands root a_modifier n → (b : Break) → In b (modifier_form n) → BreaksForm root b
  modifier n s b i = go (object_cases (modifier_members n) n b i)
    where
      go : ((object_in (tree_of n) ≡ None) × (b ≡ at Shape n)) ⊎ (IsObject n × In b (modifier_members n (entries_at n))) → BreaksForm root b
      go (inl (none, is)) = as_told b (at Shape n) is (other_form s none)
      go (inr (o, j)) = in_modifier n s o b j

  -- an item of the order
  own_name : (n : Placed) → Stands root an_item n → IsSetOrModifier n → (b : Break) → In b (needed_member text_form n (value_of_name (codes "name") (entries_at n))) → BreaksForm root b
  own_name n s own b i = go (needed_cases text_form n (value_of_name (codes "name") (entries_at n)) b i)
    where
      go : (Lacks n (codes "name") × (b ≡ at Shape n)) ⊎ ((m : Placed) × HasMember n (codes "name") m × In b (text_form m)) → BreaksForm root b
      go (inl (none, is)) = as_told b (at Shape n) is (no_name s own none)
      go (inr (m, h, j)) = text m (own_name_stands s own h) b j

  -- an item of its own, by the word of its type
  module _ (n : Placed) (s : Stands root an_item n) (o : IsObject n) (lacks : Lacks n (codes "$ref")) (type : Placed) (h : HasMember n (codes "type") type) where
    abbrev own : (word : List ℕ) → string_in (tree_of type) ≡ Some word → IsOwn n word
    own word says = record { no_reference = lacks; type = type; typed = h; says = says }

    typed : (word : List ℕ) → string_in (tree_of type) ≡ Some word → (b : Break) → In b (typed_form n (entries_at n) type word) → BreaksForm root b
    typed word says b i = go (bytes_eq word (codes "set")) (bytes_eq word (codes "modifier")) refl refl i
      where
        name_form : List Break
        name_form = needed_member text_form n (value_of_name (codes "name") (entries_at n))

        as_set : IsOwn n (codes "set") → In b name_form ⊎ In b (set_members n (entries_at n)) → BreaksForm root b
        as_set w (inl j) = own_name n s (inl w) b j
        as_set w (inr j) = in_set n (own_set_stands s w) o b j

        as_modifier : IsOwn n (codes "modifier") → In b name_form ⊎ In b (modifier_members n (entries_at n)) → BreaksForm root b
        as_modifier w (inl j) = own_name n s (inr w) b j
        as_modifier w (inr j) = in_modifier n (own_modifier_stands s w) o b j

        other : (w x : List ℕ) → bytes_eq w x ≡ false → w ≡ x → ⊥
        other w x e is = (let k : true ≡ false = sym ((bytes_eq-Decides w x).1 is) ∙ e in cc)

        go : (p q : Bool) → bytes_eq word (codes "set") ≡ p → bytes_eq word (codes "modifier") ≡ q
            → In b (if p then name_form ++ set_members n (entries_at n) else if q then name_form ++ modifier_members n (entries_at n) else at_value Shape type) → BreaksForm root b
        go true q e f j = as_set (own (codes "set") (says ∙ ap Some ((bytes_eq-Decides word (codes "set")).0 e))) (in_cases name_form (set_members n (entries_at n)) b j)
        go false true e f j = as_modifier (own (codes "modifier") (says ∙ ap Some ((bytes_eq-Decides word (codes "modifier")).0 f))) (in_cases name_form (modifier_members n (entries_at n)) b j)
        go false false e f j = as_told b (at Shape type) (alone j) (other_type s (own word says) (other word (codes "set") e) (other word (codes "modifier") f))

    by_type : (b : Break) → In b (item_type n (entries_at n) type) → BreaksForm root b
    by_type b i = go (formed_cases (string_in (tree_of type)) (typed_form n (entries_at n) type) type b i)
      where
        go : ((string_in (tree_of type) ≡ None) × (b ≡ at Shape type)) ⊎ ((w : List ℕ) × (string_in (tree_of type) ≡ Some w) × In b (typed_form n (entries_at n) type w)) → BreaksForm root b
        go (inl (none, is)) = as_told b (at Shape type) is (other_form (type_stands s lacks h) none)
        go (inr (w, says, j)) = typed w says b j

  item : (n : Placed) → Stands root an_item n → (b : Break) → In b (item_form n) → BreaksForm root b
  item n s b i = go (object_cases (item_members n) n b i)
    where
      by_own : IsObject n → Lacks n (codes "$ref") → (Lacks n (codes "type") × (b ≡ at Shape n)) ⊎ ((m : Placed) × HasMember n (codes "type") m × In b (item_type n (entries_at n) m)) → BreaksForm root b
      by_own o lacks (inl (none, is)) = as_told b (at Shape n) is (no_type s o lacks none)
      by_own o lacks (inr (m, h, j)) = by_type n s o lacks m h b j

      by_ref : IsObject n → (r : Option Placed) → value_of_name (codes "$ref") (entries_at n) ≡ r
          → In b (if is_some r then reference_form (entries_at n) else needed_member (item_type n (entries_at n)) n (value_of_name (codes "type") (entries_at n))) → BreaksForm root b
      by_ref o None e j = by_own o e (needed_cases (item_type n (entries_at n)) n (value_of_name (codes "type") (entries_at n)) b j)
      by_ref o (Some m) e j = reference n m e (item_reference_stands s e) (λ x c. beside_item s e c) b j

      go : ((object_in (tree_of n) ≡ None) × (b ≡ at Shape n)) ⊎ (IsObject n × In b (item_members n (entries_at n))) → BreaksForm root b
      go (inl (none, is)) = as_told b (at Shape n) is (other_form s none)
      go (inr (o, j)) = by_ref o (value_of_name (codes "$ref") (entries_at n)) refl j

  -- the document
  each_of : (form : Placed → List Break) (role : Role) (n : Placed) → Stands root role n → (object_in (tree_of n) ≡ None → IsOfOtherForm role n)
      → ((e : Entry) → Counts n e → (b : Break) → In b (form e.value) → BreaksForm root b) → (b : Break) → In b (each_value form n) → BreaksForm root b
  each_of form role n s is_form each b i = go (object_cases (λ es. flat_map (λ e. form e.value) (unreserved es)) n b i)
    where
      one : (x : Entry) × In x (unreserved (entries_at n)) × In b (form x.value) → BreaksForm root b
      one (x, j, k) = each x (counts_of n x j) b k

      go : ((object_in (tree_of n) ≡ None) × (b ≡ at Shape n)) ⊎ (IsObject n × In b (flat_map (λ e. form e.value) (unreserved (entries_at n)))) → BreaksForm root b
      go (inl (none, is)) = as_told b (at Shape n) is (other_form s (is_form none))
      go (inr (o, j)) = one (from_flat (λ e. form e.value) (unreserved (entries_at n)) b j)

  version : (b : Break) → In b (version_form root) → BreaksForm root b
  version b i = go (value_of_name (codes "version") (entries_at root)) refl i
    where
      other : (o : Option (List ℕ)) → is_version o ≡ false → o ≡ Some (codes "2025.10") → ⊥
      other o f e = (let k : is_version (Some (codes "2025.10")) ≡ false = subst (λ x. is_version x ≡ false) e f in cc)

      by : (n : Placed) → HasMember root (codes "version") n → (t : Bool) → is_version (string_in (tree_of n)) ≡ t → In b (if t then [] else at_value Version n) → BreaksForm root b
      by n h true e j = absurd j
      by n h false e j = as_told b (at Version n) (alone j) (other_version h (other (string_in (tree_of n)) e))

      go : (o : Option Placed) → value_of_name (codes "version") (entries_at root) ≡ o → In b (given_version root o) → BreaksForm root b
      go None e j = as_told b (at Version root) (alone j) (no_version e)
      go (Some n) e j = by n e (is_version (string_in (tree_of n))) refl j

  texts : (name : List ℕ) → ((n : Placed) → HasMember root name n → Stands root a_text n) → (b : Break) → In b (optional_member text_form (value_of_name name (entries_at root))) → BreaksForm root b
  texts name stands b i = go (optional_cases text_form (value_of_name name (entries_at root)) b i)
    where
      go : (m : Placed) × HasMember root name m × In b (text_form m) → BreaksForm root b
      go (m, h, j) = text m (stands m h) b j

  all_sets : (b : Break) → In b (optional_member (each_value set_form) (value_of_name (codes "sets") (entries_at root))) → BreaksForm root b
  all_sets b i = go (optional_cases (each_value set_form) (value_of_name (codes "sets") (entries_at root)) b i)
    where
      go : (m : Placed) × HasMember root (codes "sets") m × In b (each_value set_form m) → BreaksForm root b
      go (m, h, j) = each_of set_form sets m (sets_stand h) (λ x. x) (λ e c. set e.value (set_stands (sets_stand h) c)) b j

  all_modifiers : (b : Break) → In b (optional_member (each_value modifier_form) (value_of_name (codes "modifiers") (entries_at root))) → BreaksForm root b
  all_modifiers b i = go (optional_cases (each_value modifier_form) (value_of_name (codes "modifiers") (entries_at root)) b i)
    where
      go : (m : Placed) × HasMember root (codes "modifiers") m × In b (each_value modifier_form m) → BreaksForm root b
      go (m, h, j) = each_of modifier_form modifiers m (modifiers_stand h) (λ x. x) (λ e c. modifier e.value (modifier_stands (modifiers_stand h) c)) b j

  all_items : (n : Placed) → HasMember root (codes "resolutionOrder") n → (b : Break) → In b (list_with item_form n) → BreaksForm root b
  all_items n h b i = go (list_cases item_form n b i)
    where
      go : ((array_in (tree_of n) ≡ None) × (b ≡ at Shape n)) ⊎ ((m : Placed) × In m (elements_at n) × In b (item_form m)) → BreaksForm root b
      go (inl (none, is)) = as_told b (at Shape n) is (other_form (order_stands h) none)
      go (inr (m, j, k)) = item m (item_stands (order_stands h) j) b k

  in_order : IsObject root → (b : Break) → In b (needed_member (list_with item_form) root (value_of_name (codes "resolutionOrder") (entries_at root))) → BreaksForm root b
  in_order o b i = go (needed_cases (list_with item_form) root (value_of_name (codes "resolutionOrder") (entries_at root)) b i)
    where
      go : (Lacks root (codes "resolutionOrder") × (b ≡ at Shape root)) ⊎ ((m : Placed) × HasMember root (codes "resolutionOrder") m × In b (list_with item_form m)) → BreaksForm root b
      go (inl (none, is)) = as_told b (at Shape root) is (no_order o none)
      go (inr (m, h, j)) = all_items m h b j

  -- the members one after another
  abbrev name_part : List Break
  name_part = optional_member text_form (value_of_name (codes "name") (entries_at root))

  abbrev description_part : List Break
  description_part = optional_member text_form (value_of_name (codes "description") (entries_at root))

  abbrev sets_part : List Break
  sets_part = optional_member (each_value set_form) (value_of_name (codes "sets") (entries_at root))

  abbrev modifiers_part : List Break
  modifiers_part = optional_member (each_value modifier_form) (value_of_name (codes "modifiers") (entries_at root))

  abbrev order_part : List Break
  order_part = needed_member (list_with item_form) root (value_of_name (codes "resolutionOrder") (entries_at root))

  members : IsObject root → (b : Break) → In b (document_members root (entries_at root)) → BreaksForm root b
  members o b i = first (in_cases name_part (description_part ++ (sets_part ++ (modifiers_part ++ order_part))) b i)
    where
      fourth : In b modifiers_part ⊎ In b order_part → BreaksForm root b
      fourth (inl j) = all_modifiers b j
      fourth (inr j) = in_order o b j

      third : In b sets_part ⊎ In b (modifiers_part ++ order_part) → BreaksForm root b
      third (inl j) = all_sets b j
      third (inr j) = fourth (in_cases modifiers_part order_part b j)

      second : In b description_part ⊎ In b (sets_part ++ (modifiers_part ++ order_part)) → BreaksForm root b
      second (inl j) = texts (codes "description") (λ n h. description_stands h) b j
      second (inr j) = third (in_cases sets_part (modifiers_part ++ order_part) b j)

      first : In b name_part ⊎ In b (description_part ++ (sets_part ++ (modifiers_part ++ order_part))) → BreaksForm root b
      first (inl j) = texts (codes "name") (λ n h. name_stands h) b j
      first (inr j) = second (in_cases description_part (sets_part ++ (modifiers_part ++ order_part)) b j)

  whole : (b : Break) → In b (form_breaks root) → BreaksForm root b
  whole b i = go (in_cases (version_form root) (object_with (document_members root) root) b i)
    where
      inside : ((object_in (tree_of root) ≡ None) × (b ≡ at Shape root)) ⊎ (IsObject root × In b (document_members root (entries_at root))) → BreaksForm root b
      inside (inl (none, is)) = as_told b (at Shape root) is (other_form document_stands none)
      inside (inr (o, j)) = members o b j

      go : In b (version_form root) ⊎ In b (object_with (document_members root) root) → BreaksForm root b
      go (inl j) = version b j
      go (inr j) = inside (object_cases (document_members root) root b j)

pub form_breaks_break : FormBreaksBreak
form_breaks_break root b i = whole root b i
