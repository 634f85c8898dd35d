-- Each broken form is an entry of the list.
use Rattle.std.proofs.Common.{◌≡◌, ◌≢◌, ◌⊎◌, inl, inr, ℕ, Bool, true, false, not, List, [], ◌++◌, codes, Option, Some, None, is_some, option_and_then, unwrap_or, if◌then◌else◌, refl, sym, ap, ◌∙◌, subst}
use Rattle.std.proofs.lemmas.Slice.Eq.{bytes_eq-Decides}
use Rattle.std.specs.List.{flat_map}
use Rattle.std.specs.Str.{bytes_eq}
use Rattle.json_span.specs.Tree.{Placed, Entry, tree_of, string_in, array_in, object_in, value_of_name}
use Rattle.ring.proofs.Ends.{in_left, in_right}
use Rattle.ring.specs.Lists.{In}
use Rattle.resolver_doc.specs.declared.rule.PlanRule.TheVariants.{Version, Shape, Contexts, Default}
use Rattle.resolver_doc.specs.declared.rule.Break.{Break}
use Rattle.resolver_doc.specs.Break.{at_value, at_name}
use Rattle.resolver_doc.specs.Form.{formed, text_form, reference_form, source_members, source_form, sources_form, set_members, set_form, is_reserved, unreserved, counts_some, context_form, contexts_members, contexts_form, has_context, context_entries, names_context, default_form, modifier_members, modifier_form, typed_form, item_type, item_members, item_form, each_value, is_version, given_version, entries_at, version_form, document_members, needed_member, optional_member, object_with, list_with, form_breaks}
use Rattle.resolver_doc.specs.Rules.{HasMember, Lacks, Counts, IsOwn, Role, a_document, a_text, sets, a_set, modifiers, a_modifier, contexts, sources, a_source, order, an_item, Stands, document_stands, name_stands, description_stands, sets_stand, set_stands, modifiers_stand, modifier_stands, order_stands, item_stands, type_stands, own_name_stands, own_set_stands, own_modifier_stands, sources_stand, contexts_stand, default_stands, context_stands, source_stands, source_reference_stands, item_reference_stands, IsObject, IsOfOtherForm, NamesContext, at, at_name_of, BreaksForm, no_version, other_version, other_form, no_order, no_sources, no_contexts, no_type, no_name, other_type, beside_source, beside_item, no_context, no_such_default, BrokenFormsAreListed}
use Rattle.resolver_doc.proofs.BreakCases.{in_flat, not_any, counts_of, unmarked, of_counts, formed_other, formed_inside, object_cases, object_inside, list_inside, needed_none, needed_inside, optional_inside, has_members}

-- the breaks that a place of each role has in it
abbrev form_at : Role → Placed → List Break
form_at a_document n = object_with (document_members n) n
form_at a_text n = text_form n
form_at sets n = each_value set_form n
form_at a_set n = set_form n
form_at modifiers n = each_value modifier_form n
form_at a_modifier n = modifier_form n
form_at contexts n = contexts_form n
form_at sources n = sources_form n
form_at a_source n = source_form n
form_at order n = list_with item_form n
form_at an_item n = item_form n

pub is_itself : (w : List ℕ) → bytes_eq w w ≡ true
is_itself w = (bytes_eq-Decides w w).1 refl

pub not_itself : (w x : List ℕ) → w ≢ x → bytes_eq w x ≡ false
not_itself w x h = go (bytes_eq w x) refl
  where
    go : (t : Bool) → bytes_eq w x ≡ t → t ≡ false
    go true e = absurd (h ((bytes_eq-Decides w x).0 e))
    go false e = refl

-- an item of its own is read by its type
module _ (n : Placed) where
  abbrev es : List Entry
  es = entries_at n

  abbrev name_form : List Break
  name_form = needed_member text_form n (value_of_name (codes "name") (entries_at n))

  in_item : Lacks n (codes "$ref") → IsObject n → (b : Break) → In b (needed_member (item_type n es) n (value_of_name (codes "type") es)) → In b (item_form n)
  in_item lacks o b i =
      object_inside (item_members n) n b o
      (subst (λ (r : Option Placed). In b (if is_some r then reference_form es else needed_member (item_type n es) n (value_of_name (codes "type") es))) (sym lacks) i)

  in_own : (word : List ℕ) (w : IsOwn n word) (b : Break) → In b (typed_form n es w.type word) → In b (item_form n)
  in_own word w b i =
      in_item w.no_reference (has_members n (codes "type") w.type w.typed) b
      (needed_inside (item_type n es) n (value_of_name (codes "type") es) w.type b w.typed (formed_inside (string_in (tree_of w.type)) (typed_form n es w.type) w.type word b w.says i))

  in_own_set : IsOwn n (codes "set") → (b : Break) → In b (name_form ++ set_members n es) → In b (item_form n)
  in_own_set w b i =
      in_own (codes "set") w b
      (subst (λ (t : Bool). In b (if t then name_form ++ set_members n es else if bytes_eq (codes "set") (codes "modifier") then name_form ++ modifier_members n es else at_value Shape w.type)) (sym (is_itself (codes "set"))) i)

  in_own_modifier : IsOwn n (codes "modifier") → (b : Break) → In b (name_form ++ modifier_members n es) → In b (item_form n)
  in_own_modifier w b i =
      in_own (codes "modifier") w b i

  in_reference : (m : Placed) → HasMember n (codes "$ref") m → (b : Break) → In b (reference_form es) → In b (item_form n)
  in_reference m h b i =
      object_inside (item_members n) n b (has_members n (codes "$ref") m h)
      (subst (λ (r : Option Placed). In b (if is_some r then reference_form es else needed_member (item_type n es) n (value_of_name (codes "type") es))) (sym h) i)

  in_source_reference : (m : Placed) → HasMember n (codes "$ref") m → (b : Break) → In b (reference_form es) → In b (source_form n)
  in_source_reference m h b i =
      object_inside source_members n b (has_members n (codes "$ref") m h)
      (subst (λ (r : Option Placed). In b (if is_some r then reference_form es else [])) (sym h) i)

  reference_text : (m : Placed) → HasMember n (codes "$ref") m → (b : Break) → In b (text_form m) → In b (reference_form es)
  reference_text m h b i =
      in_left (optional_member text_form (value_of_name (codes "$ref") es)) (flat_map (at_name Shape) (unreserved es)) b
      (optional_inside text_form (value_of_name (codes "$ref") es) m b h i)

  reference_neighbor : (e : Entry) → Counts n e → In (at_name_of Shape e) (reference_form es)
  reference_neighbor e c =
      in_right (optional_member text_form (value_of_name (codes "$ref") es)) (flat_map (at_name Shape) (unreserved es)) (at_name_of Shape e)
      (in_flat (at_name Shape) (unreserved es) e (at_name_of Shape e) (of_counts n e c) (inl refl))

  -- a set's and a modifier's members, also of an item
  set_inside : (m : Placed) → HasMember n (codes "sources") m → (b : Break) → In b (sources_form m) → In b (set_form n)
  set_inside m h b i =
      object_inside (set_members n) n b (has_members n (codes "sources") m h) (needed_inside sources_form n (value_of_name (codes "sources") es) m b h i)

  abbrev contexts_part : List Break
  contexts_part = needed_member contexts_form n (value_of_name (codes "contexts") es)

  abbrev default_part : List Break
  default_part = optional_member (default_form (context_entries es)) (value_of_name (codes "default") es)

  contexts_inside : IsObject n → (b : Break) → In b contexts_part → In b (modifier_form n)
  contexts_inside o b i = object_inside (modifier_members n) n b o (in_left contexts_part default_part b i)

  default_inside : (m : Placed) → HasMember n (codes "default") m → (b : Break) → In b (default_form (context_entries es) m) → In b (modifier_form n)
  default_inside m h b i =
      object_inside (modifier_members n) n b (has_members n (codes "default") m h)
      (in_right contexts_part default_part b (optional_inside (default_form (context_entries es)) (value_of_name (codes "default") es) m b h i))

  -- as a set's or a modifier's own form, since an item of a type is an object
  set_in_item : IsOwn n (codes "set") → (b : Break) → In b (set_form n) → In b (item_form n)
  set_in_item w b i = go (object_cases (set_members n) n b i)
    where
      o : IsObject n
      o = has_members n (codes "type") w.type w.typed

      go : ((object_in (tree_of n) ≡ None) × (b ≡ at Shape n)) ⊎ (IsObject n × In b (set_members n es)) → In b (item_form n)
      go (inl (none, is)) = (let e : None ≡ Some o.0 = sym none ∙ o.1 in cc)
      go (inr (p, j)) = in_own_set w b (in_right name_form (set_members n es) b j)

  modifier_in_item : IsOwn n (codes "modifier") → (b : Break) → In b (modifier_form n) → In b (item_form n)
  modifier_in_item w b i = go (object_cases (modifier_members n) n b i)
    where
      o : IsObject n
      o = has_members n (codes "type") w.type w.typed

      go : ((object_in (tree_of n) ≡ None) × (b ≡ at Shape n)) ⊎ (IsObject n × In b (modifier_members n es)) → In b (item_form n)
      go (inl (none, is)) = (let e : None ≡ Some o.0 = sym none ∙ o.1 in cc)
      go (inr (p, j)) = in_own_modifier w b (in_right name_form (modifier_members n es) b j)

  context_inside : (e : Entry) → Counts n e → (b : Break) → In b (sources_form e.value) → In b (contexts_form n)
  context_inside e c b i =
      object_inside (contexts_members n) n b (is_object e c)
      (in_right (if counts_some es then [] else at_value Contexts n) (flat_map context_form (unreserved es)) b
      (in_flat context_form (unreserved es) e b (of_counts n e c) i))
    where
      is_object : (e : Entry) → Counts n e → IsObject n
      is_object e c = go (object_in (tree_of n)) refl c.among
        where
          go : (o : Option (List Entry)) → object_in (tree_of n) ≡ o → In e (unwrap_or o []) → IsObject n
          go None f j = absurd j
          go (Some xs) f j = (xs, f)

-- a type and a default that are no texts
in_type : (n m : Placed) (b : Break) → In b (text_form m) → In b (item_type n (entries_at n) m)
in_type n m b i = go (string_in (tree_of m)) refl i
  where
    go : (o : Option (List ℕ)) → string_in (tree_of m) ≡ o → In b (formed o (λ _. []) m) → In b (formed o (typed_form n (entries_at n) m) m)
    go None e j = j
    go (Some w) e j = absurd j

in_default : (es : List Entry) (m : Placed) (b : Break) → In b (text_form m) → In b (default_form es m)
in_default es m b i = go (string_in (tree_of m)) i
  where
    go : (o : Option (List ℕ)) → In b (formed o (λ _. []) m) → In b (names_context es m o)
    go None (inl e) = inl e
    go None (inr j) = absurd j
    go (Some w) j = absurd j

-- What stands somewhere in a document: its breaks are breaks of the document.
module _ (root : Placed) where
  abbrev in_root : List Entry
  in_root = entries_at root

  -- the members one after another
  abbrev name_part : List Break
  name_part = optional_member text_form (value_of_name (codes "name") in_root)

  abbrev description_part : List Break
  description_part = optional_member text_form (value_of_name (codes "description") in_root)

  abbrev sets_part : List Break
  sets_part = optional_member (each_value set_form) (value_of_name (codes "sets") in_root)

  abbrev modifiers_part : List Break
  modifiers_part = optional_member (each_value modifier_form) (value_of_name (codes "modifiers") in_root)

  abbrev order_part : List Break
  order_part = needed_member (list_with item_form) root (value_of_name (codes "resolutionOrder") in_root)

  in_document : (b : Break) → In b (object_with (document_members root) root) → In b (form_breaks root)
  in_document b i = in_right (version_form root) (object_with (document_members root) root) b i

  in_name : IsObject root → (b : Break) → In b name_part → In b (form_breaks root)
  in_name o b i = in_document b (object_inside (document_members root) root b o (in_left name_part (description_part ++ (sets_part ++ (modifiers_part ++ order_part))) b i))

  behind_name : IsObject root → (b : Break) → In b (description_part ++ (sets_part ++ (modifiers_part ++ order_part))) → In b (form_breaks root)
  behind_name o b i = in_document b (object_inside (document_members root) root b o (in_right name_part (description_part ++ (sets_part ++ (modifiers_part ++ order_part))) b i))

  in_description : IsObject root → (b : Break) → In b description_part → In b (form_breaks root)
  in_description o b i = behind_name o b (in_left description_part (sets_part ++ (modifiers_part ++ order_part)) b i)

  in_sets : IsObject root → (b : Break) → In b sets_part → In b (form_breaks root)
  in_sets o b i = behind_name o b (in_right description_part (sets_part ++ (modifiers_part ++ order_part)) b (in_left sets_part (modifiers_part ++ order_part) b i))

  in_modifiers : IsObject root → (b : Break) → In b modifiers_part → In b (form_breaks root)
  in_modifiers o b i =
      behind_name o b
      (in_right description_part (sets_part ++ (modifiers_part ++ order_part)) b (in_right sets_part (modifiers_part ++ order_part) b (in_left modifiers_part order_part b i)))

  in_order : IsObject root → (b : Break) → In b order_part → In b (form_breaks root)
  in_order o b i =
      behind_name o b
      (in_right description_part (sets_part ++ (modifiers_part ++ order_part)) b (in_right sets_part (modifiers_part ++ order_part) b (in_right modifiers_part order_part b i)))

  each_inside : (form : Placed → List Break) (n : Placed) (e : Entry) → Counts n e → (b : Break) → In b (form e.value) → In b (each_value form n)
  each_inside form n e c b i = object_inside (λ es. flat_map (λ x. form x.value) (unreserved es)) n b is_object (in_flat (λ x. form x.value) (unreserved (entries_at n)) e b (of_counts n e c) i)
    where
      is_object : IsObject n
      is_object = go (object_in (tree_of n)) refl c.among
        where
          go : (o : Option (List Entry)) → object_in (tree_of n) ≡ o → In e (unwrap_or o []) → IsObject n
          go None f j = absurd j
          go (Some xs) f j = (xs, f)

  listed : {role : Role} {n : Placed} → Stands root role n → (b : Break) → In b (form_at role n) → In b (form_breaks root)
  listed document_stands b i = in_document b i
  listed {n = n} (name_stands h) b i = in_name (has_members root (codes "name") n h) b (optional_inside text_form (value_of_name (codes "name") in_root) n b h i)
  listed {n = n} (description_stands h) b i =
      in_description (has_members root (codes "description") n h) b (optional_inside text_form (value_of_name (codes "description") in_root) n b h i)
  listed {n = n} (sets_stand h) b i = in_sets (has_members root (codes "sets") n h) b (optional_inside (each_value set_form) (value_of_name (codes "sets") in_root) n b h i)
  listed (set_stands {n} {e} s c) b i = listed s b (each_inside set_form n e c b i)
  listed {n = n} (modifiers_stand h) b i =
      in_modifiers (has_members root (codes "modifiers") n h) b (optional_inside (each_value modifier_form) (value_of_name (codes "modifiers") in_root) n b h i)
  listed (modifier_stands {n} {e} s c) b i = listed s b (each_inside modifier_form n e c b i)
  listed {n = n} (order_stands h) b i =
      in_order (has_members root (codes "resolutionOrder") n h) b (needed_inside (list_with item_form) root (value_of_name (codes "resolutionOrder") in_root) n b h i)
  listed (item_stands {n} {m} s j) b i = listed s b (list_inside item_form n m b j i)
  listed (type_stands {n} {m} s l h) b i =
      listed s b (in_item n l (has_members n (codes "type") m h) b
      (needed_inside (item_type n (entries_at n)) n (value_of_name (codes "type") (entries_at n)) m b h (in_type n m b i)))
  listed (own_name_stands {n} {m} s (inl w) h) b i =
      listed s b (in_own_set n w b (in_left (name_form n) (set_members n (entries_at n)) b (needed_inside text_form n (value_of_name (codes "name") (entries_at n)) m b h i)))
  listed (own_name_stands {n} {m} s (inr w) h) b i =
      listed s b (in_own_modifier n w b (in_left (name_form n) (modifier_members n (entries_at n)) b (needed_inside text_form n (value_of_name (codes "name") (entries_at n)) m b h i)))
  listed (own_set_stands {n} s w) b i = listed s b (set_in_item n w b i)
  listed (own_modifier_stands {n} s w) b i = listed s b (modifier_in_item n w b i)
  listed (sources_stand {n} {m} s h) b i = listed s b (set_inside n m h b i)
  listed (contexts_stand {n} {m} s h) b i =
      listed s b (contexts_inside n (has_members n (codes "contexts") m h) b (needed_inside contexts_form n (value_of_name (codes "contexts") (entries_at n)) m b h i))
  listed (default_stands {n} {m} s h) b i = listed s b (default_inside n m h b (in_default (context_entries (entries_at n)) m b i))
  listed (context_stands {n} {e} s c) b i = listed s b (context_inside n e c b i)
  listed (source_stands {n} {m} s j) b i = listed s b (list_inside source_form n m b j i)
  listed (source_reference_stands {n} {m} s h) b i = listed s b (in_source_reference n m h b (reference_text n m h b i))
  listed (item_reference_stands {n} {m} s h) b i = listed s b (in_reference n m h b (reference_text n m h b i))

  -- a value of another form than its role asks for
  other : (role : Role) (n : Placed) → IsOfOtherForm role n → In (at Shape n) (form_at role n)
  other a_document n e = formed_other (object_in (tree_of n)) (document_members n) n e
  other a_text n e = formed_other (string_in (tree_of n)) (λ _. []) n e
  other sets n e = formed_other (object_in (tree_of n)) (λ es. flat_map (λ x. set_form x.value) (unreserved es)) n e
  other a_set n e = formed_other (object_in (tree_of n)) (set_members n) n e
  other modifiers n e = formed_other (object_in (tree_of n)) (λ es. flat_map (λ x. modifier_form x.value) (unreserved es)) n e
  other a_modifier n e = formed_other (object_in (tree_of n)) (modifier_members n) n e
  other contexts n e = formed_other (object_in (tree_of n)) (contexts_members n) n e
  other sources n e = formed_other (array_in (tree_of n)) (flat_map source_form) n e
  other a_source n e = formed_other (object_in (tree_of n)) source_members n e
  other order n e = formed_other (array_in (tree_of n)) (flat_map item_form) n e
  other an_item n e = formed_other (object_in (tree_of n)) (item_members n) n e

  -- versions
  version_differs : (o : Option (List ℕ)) → o ≢ Some (codes "2025.10") → is_version o ≡ false
  version_differs None h = refl
  version_differs (Some s) h = not_itself s (codes "2025.10") (λ e. h (ap Some e))

  in_version : (b : Break) (o : Option Placed) → value_of_name (codes "version") in_root ≡ o → In b (given_version root o) → In b (form_breaks root)
  in_version b o e i =
      in_left (version_form root) (object_with (document_members root) root) b (subst (λ (p : Option Placed). In b (given_version root p)) (sym e) i)

  -- types that are not known
  type_differs : (n type : Placed) (word : List ℕ) → word ≢ codes "set" → word ≢ codes "modifier" → In (at Shape type) (typed_form n (entries_at n) type word)
  type_differs n type word p q = go (bytes_eq word (codes "set")) (bytes_eq word (codes "modifier")) (not_itself word (codes "set") p) (not_itself word (codes "modifier") q)
    where
      go : (s m : Bool) → s ≡ false → m ≡ false
          → In (at Shape type) (if s then name_form n ++ set_members n (entries_at n) else if m then name_form n ++ modifier_members n (entries_at n) else at_value Shape type)
      go true m e f = cc
      go false true e f = cc
      go false false e f = inl refl

  -- contexts of which none counts, and defaults that name none
  none_count : (n : Placed) → ((e : Entry) → Counts n e → ⊥) → counts_some (entries_at n) ≡ false
  none_count n h = not_any (λ e. not (is_reserved e.name)) (entries_at n) (λ e i. go e i (is_reserved e.name) refl)
    where
      go : (e : Entry) → In e (entries_at n) → (t : Bool) → is_reserved e.name ≡ t → not t ≡ false
      go e i true p = refl
      go e i false p = absurd (h e (record { among = i; counted = unmarked e.name p }))

  no_contexts_of : (n m : Placed) (name : List ℕ) → string_in (tree_of m) ≡ Some name → (NamesContext n m → ⊥) → has_context name (context_entries (entries_at n)) ≡ false
  no_contexts_of n m name says h = go (value_of_name (codes "contexts") (entries_at n)) refl
    where
      one : (all : Placed) → HasMember n (codes "contexts") all → (e : Entry) → In e (unreserved (entries_at all)) → bytes_eq e.name name ≡ false
      one all there e i =
          not_itself e.name name
          (λ same. h (record { all = all; there = there; context = e; counts = counts_of all e i; named = says ∙ ap Some (sym same) }))

      go : (o : Option Placed) → value_of_name (codes "contexts") (entries_at n) ≡ o → has_context name (unwrap_or (option_and_then (λ x. object_in (tree_of x)) o) []) ≡ false
      go None e = refl
      go (Some all) e = not_any (λ x. bytes_eq x.name name) (unreserved (entries_at all)) (λ x i. one all e x i)

  default_differs : (n m : Placed) → (NamesContext n m → ⊥) → In (at Default m) (default_form (context_entries (entries_at n)) m)
  default_differs n m h = go (string_in (tree_of m)) refl
    where
      go : (o : Option (List ℕ)) → string_in (tree_of m) ≡ o → In (at Default m) (names_context (context_entries (entries_at n)) m o)
      go None e = inr (inl refl)
      go (Some name) e = subst (λ (t : Bool). In (at Default m) (if t then [] else at_value Default m)) (sym (no_contexts_of n m name e h)) (inl refl)

  pub told : {b : Break} → BreaksForm root b → In b (form_breaks root)
  told (no_version l) = in_version (at Version root) None l (inl refl)
  told (other_version {n} h d) =
      in_version (at Version n) (Some n) h (subst (λ (t : Bool). In (at Version n) (if t then [] else at_value Version n)) (sym (version_differs (string_in (tree_of n)) d)) (inl refl))
  told (other_form {role} {n} s e) = listed s (at Shape n) (other role n e)
  told (no_order o l) = in_order o (at Shape root) (needed_none (list_with item_form) root (value_of_name (codes "resolutionOrder") in_root) l)
  told (no_sources {n} s o l) =
      listed s (at Shape n) (object_inside (set_members n) n (at Shape n) o (needed_none sources_form n (value_of_name (codes "sources") (entries_at n)) l))
  told (no_contexts {n} s o l) = listed s (at Shape n) (contexts_inside n o (at Shape n) (needed_none contexts_form n (value_of_name (codes "contexts") (entries_at n)) l))
  told (no_type {n} s o r l) =
      listed s (at Shape n) (in_item n r o (at Shape n) (needed_none (item_type n (entries_at n)) n (value_of_name (codes "type") (entries_at n)) l))
  told (no_name {n} s (inl w) l) =
      listed s (at Shape n) (in_own_set n w (at Shape n) (in_left (name_form n) (set_members n (entries_at n)) (at Shape n) (needed_none text_form n (value_of_name (codes "name") (entries_at n)) l)))
  told (no_name {n} s (inr w) l) =
      listed s (at Shape n) (in_own_modifier n w (at Shape n) (in_left (name_form n) (modifier_members n (entries_at n)) (at Shape n) (needed_none text_form n (value_of_name (codes "name") (entries_at n)) l)))
  told (other_type {n} {word} s w p q) = listed s (at Shape w.type) (in_own n word w (at Shape w.type) (type_differs n w.type word p q))
  told (beside_source {n} {m} {e} s h c) = listed s (at_name_of Shape e) (in_source_reference n m h (at_name_of Shape e) (reference_neighbor n e c))
  told (beside_item {n} {m} {e} s h c) = listed s (at_name_of Shape e) (in_reference n m h (at_name_of Shape e) (reference_neighbor n e c))
  told (no_context {n} s o h) =
      listed s (at Contexts n) (object_inside (contexts_members n) n (at Contexts n) o
      (in_left (if counts_some (entries_at n) then [] else at_value Contexts n) (flat_map context_form (unreserved (entries_at n))) (at Contexts n)
      (subst (λ (t : Bool). In (at Contexts n) (if t then [] else at_value Contexts n)) (sym (none_count n h)) (inl refl))))
  told (no_such_default {n} {m} s h d) = listed s (at Default m) (default_inside n m h (at Default m) (default_differs n m d))

pub broken_forms_are_listed : BrokenFormsAreListed
broken_forms_are_listed root b x = told root x
