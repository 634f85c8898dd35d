-- In a document whose form is met, each entry of the list of broken references and names breaks its rule at its place.
use Rattle.std.proofs.Common.{◌≡◌, ◌⊎◌, inl, inr, ℕ, zero, suc, Bool, true, false, ◌||◌, List, [], ◌∷◌, ◌++◌, append_assoc, codes, length, drop, nat_eq, Option, Some, None, option_map, option_and_then, unwrap_or, is_some, if◌then◌else◌, refl, sym, ap, ◌∙◌, subst, slice_get}
use Rattle.std.proofs.lemmas.Bool.Decides.{Decides-eqb}
use Rattle.std.proofs.lemmas.Slice.Eq.{bytes_eq-Decides, starts_is}
use Rattle.std.specs.List.{flat_map, starts_with}
use Rattle.std.specs.Str.{bytes_eq}
use Rattle.edit_script.specs.Script.{is_path}
use Rattle.json_span.specs.Tree.{Placed, Entry, tree_of, string_in, object_in, value_of_name}
use Rattle.ring.proofs.Ends.{in_left, in_cases}
use Rattle.ring.specs.Lists.{In}
use Rattle.resolver_doc.specs.declared.rule.PlanRule.TheVariants.{Reference, ModifierInSet, Duplicate}
use Rattle.resolver_doc.specs.declared.rule.Break.{Break}
use Rattle.resolver_doc.specs.Break.{at_value}
use Rattle.resolver_doc.specs.Document.{elements_at, text_at, section, set_entries, modifier_entries, order_items, pointer, pointed_number, set_number, modifier_number, name_in, without_dots, member_text}
use Rattle.resolver_doc.specs.Form.{unreserved, entries_at, form_breaks}
use Rattle.resolver_doc.specs.Naming.{named_breaks, of_each, source_breaks, sources_breaks, set_breaks, modifier_breaks, item_breaks_by, item_breaks, name_of_number, item_name_by, item_name, name_string_by, name_string, is_among, repeat_at, with_name, repeats, naming_breaks}
use Rattle.resolver_doc.specs.Rules.{HasMember, Lacks, Counts, IsOwn, a_set, a_modifier, sources, a_source, an_item, Stands, sets_stand, set_stands, modifiers_stand, modifier_stands, order_stands, item_stands, type_stands, own_set_stands, own_modifier_stands, sources_stand, contexts_stand, context_stands, source_stands, at, BreaksForm, other_form, no_type, other_type, BeginsLikeModifier, HasItemName, its_own, of_set, of_modifier, IsNameString, BreaksNaming, modifier_as_source, no_source, no_item, name_again, NamingBreaksBreak}
use Rattle.resolver_doc.proofs.BreakCases.{from_flat, alone, counts_of}
use Rattle.resolver_doc.proofs.FormsListed.{told}
use Rattle.resolver_doc.proofs.PointersNamed.{pointers_spell, pointers_find}

same_some : {A : Type 0} {x y : A} → Some x ≡ Some y → x ≡ y
same_some e = cc

-- the member of a number is one of the members, and gives its name
pub in_slice : (es : List Entry) (v : ℕ) (e : Entry) → slice_get es v ≡ Some e → In e es
in_slice [] v e is = cc
in_slice (x ∷ es) zero e is = inl (sym (same_some is))
in_slice (x ∷ es) (suc v) e is = inr (in_slice es v e is)

name_at : (es : List Entry) (v : ℕ) (e : Entry) → slice_get es v ≡ Some e → e.name ≡ name_in es v
name_at es v e is = sym (ap (λ (o : Option Entry). unwrap_or (option_map (λ x. x.name) o) []) is)

-- texts that begin like a pointer to a modifier
pub begins : (text : List ℕ) → starts_with nat_eq text (codes "#/modifiers/") ≡ true → BeginsLikeModifier text
begins text e = let s = starts_is Decides-eqb text (codes "#/modifiers/") (starts_with nat_eq text (codes "#/modifiers/")) refl in (drop (length (codes "#/modifiers/")) text, s.0 e)

pub begins_not : (text : List ℕ) → starts_with nat_eq text (codes "#/modifiers/") ≡ false → BeginsLikeModifier text → ⊥
begins_not text e (rest, is) =
    let s = starts_is Decides-eqb text (codes "#/modifiers/") (starts_with nat_eq text (codes "#/modifiers/")) refl in
    let t : starts_with nat_eq text (codes "#/modifiers/") ≡ true = s.1 rest is in
    differ (sym e ∙ t)
  where
    differ : false ≡ true → ⊥
    differ h = cc

-- a text that names a member, and one that names none
pub numbered : (part : List ℕ) (es : List Entry) (text : List ℕ) (e : Entry) → In e es → text ≡ pointer part e → is_some (pointed_number part es text) ≡ true
numbered part es text e i is =
    let (v, found, named) = pointers_find part es e i in
    ap is_some (ap (λ t. pointed_number part es t) is ∙ found)

pub not_numbered : (part : List ℕ) (es : List Entry) (text : List ℕ) → pointed_number part es text ≡ None → (e : Entry) × In e es × (text ≡ pointer part e) → ⊥
not_numbered part es text none (e, i, is) = differ (sym (ap is_some none) ∙ numbered part es text e i is)
  where
    differ : false ≡ true → ⊥
    differ h = cc

-- a member of a section stands there
pub section_member : (root : Placed) (name : List ℕ) (e : Entry) → In e (section name (entries_at root)) → (n : Placed) × HasMember root name n × Counts n e
section_member root name e i = go (value_of_name name (entries_at root)) refl i
  where
    go : (o : Option Placed) → value_of_name name (entries_at root) ≡ o → In e (unreserved (unwrap_or (option_map entries_at o) [])) → (n : Placed) × HasMember root name n × Counts n e
    go None h j = absurd j
    go (Some n) h j = (n, h, counts_of n e j)

pub item_member : (root n : Placed) → In n (order_items root) → (l : Placed) × HasMember root (codes "resolutionOrder") l × In n (elements_at l)
item_member root n i = go (value_of_name (codes "resolutionOrder") (entries_at root)) refl i
  where
    go : (o : Option Placed) → value_of_name (codes "resolutionOrder") (entries_at root) ≡ o → In n (unwrap_or (option_map elements_at o) []) → (l : Placed) × HasMember root (codes "resolutionOrder") l × In n (elements_at l)
    go None h j = absurd j
    go (Some l) h j = (l, h, j)

pub each_cases : {A : Type 0} (breaks : A → List Break) (o : Option A) (b : Break) → In b (of_each breaks o) → (x : A) × (o ≡ Some x) × In b (breaks x)
each_cases breaks None b i = absurd i
each_cases breaks (Some x) b i = (x, refl, i)

pub among_is : (name : List ℕ) (names : List (List ℕ)) → is_among name names ≡ true → In name names
among_is name [] e = cc
among_is name (x ∷ xs) e = go (among_is name xs) (bytes_eq x name) refl e
  where
    go : (is_among name xs ≡ true → In name xs) → (t : Bool) → bytes_eq x name ≡ t → (t || is_among name xs) ≡ true → In name (x ∷ xs)
    go later true p f = inl (sym ((bytes_eq-Decides x name).0 p))
    go later false p f = inr (later f)

module _ (root : Placed) where
  abbrev sets_in : List Entry
  sets_in = set_entries root

  abbrev modifiers_in : List Entry
  modifiers_in = modifier_entries root

  as_told : (b broken : Break) → b ≡ broken → BreaksNaming root broken → BreaksNaming root b
  as_told b broken e x = subst (BreaksNaming root) (sym e) x

  -- the reference of a source
  source : (n : Placed) → Stands root a_source n → (b : Break) → In b (source_breaks sets_in n) → BreaksNaming root b
  source n s b i = its (each_cases (named_breaks sets_in) (value_of_name (codes "$ref") (entries_at n)) b i)
    where
      module_of : (m : Placed) → HasMember n (codes "$ref") m → (p : Bool) → starts_with nat_eq (text_at m) (codes "#/modifiers/") ≡ p → (v : Option ℕ) → set_number sets_in (text_at m) ≡ v
          → (q : Bool) → is_path (without_dots (text_at m)) ≡ q → In b (if p then at_value ModifierInSet m else if is_some v || q then [] else at_value Reference m) → BreaksNaming root b
      module_of m h true e v f q g j = as_told b (at ModifierInSet m) (alone j) (modifier_as_source s h (begins (text_at m) e))
      module_of m h false e (Some v) f q g j = absurd j
      module_of m h false e None f true g j = absurd j
      module_of m h false e None f false g j =
          as_told b (at Reference m) (alone j) (no_source s h (begins_not (text_at m) e) (not_numbered (codes "sets") sets_in (text_at m) f) g)

      its : (m : Placed) × HasMember n (codes "$ref") m × In b (named_breaks sets_in m) → BreaksNaming root b
      its (m, h, j) =
          module_of m h (starts_with nat_eq (text_at m) (codes "#/modifiers/")) refl (set_number sets_in (text_at m)) refl (is_path (without_dots (text_at m))) refl j

  list : (n : Placed) → Stands root sources n → (b : Break) → In b (sources_breaks sets_in n) → BreaksNaming root b
  list n s b i = go (from_flat (source_breaks sets_in) (elements_at n) b i)
    where
      go : (m : Placed) × In m (elements_at n) × In b (source_breaks sets_in m) → BreaksNaming root b
      go (m, j, k) = source m (source_stands s j) b k

  set : (n : Placed) → Stands root a_set n → (b : Break) → In b (set_breaks sets_in (entries_at n)) → BreaksNaming root b
  set n s b i = go (each_cases (sources_breaks sets_in) (value_of_name (codes "sources") (entries_at n)) b i)
    where
      go : (m : Placed) × HasMember n (codes "sources") m × In b (sources_breaks sets_in m) → BreaksNaming root b
      go (m, h, j) = list m (sources_stand s h) b j

  modifier : (n : Placed) → Stands root a_modifier n → (b : Break) → In b (modifier_breaks sets_in (entries_at n)) → BreaksNaming root b
  modifier n s b i = go (value_of_name (codes "contexts") (entries_at n)) refl i
    where
      one : (c : Placed) → HasMember n (codes "contexts") c → (e : Entry) × In e (unreserved (entries_at c)) × In b (sources_breaks sets_in e.value) → BreaksNaming root b
      one c h (e, j, k) = list e.value (context_stands (contexts_stand s h) (counts_of c e j)) b k

      go : (o : Option Placed) → value_of_name (codes "contexts") (entries_at n) ≡ o
          → In b (flat_map (λ e. sources_breaks sets_in e.value) (unreserved (unwrap_or (option_and_then (λ x. object_in (tree_of x)) o) []))) → BreaksNaming root b
      go None h j = absurd j
      go (Some c) h j = one c h (from_flat (λ e. sources_breaks sets_in e.value) (unreserved (entries_at c)) b j)

  module _ (met : form_breaks root ≡ []) where
    not_broken : {b : Break} → BreaksForm root b → ⊥
    not_broken {b} x = subst (λ (bs : List Break). In b bs) met (told root x)

    -- an item of its own, by whether its type is that of a set
    abbrev Own : Placed → Bool → Type 0
    Own n true = IsOwn n (codes "set")
    Own n false = IsOwn n (codes "modifier")

    own : (n : Placed) → Stands root an_item n → Lacks n (codes "$ref") → (t : Bool) → bytes_eq (unwrap_or (member_text (codes "type") (entries_at n)) []) (codes "set") ≡ t → Own n t
    own n s lacks t e = by_form (object_in (tree_of n)) refl
      where
        by_word : (m : Placed) → HasMember n (codes "type") m → (w : List ℕ) → string_in (tree_of m) ≡ Some w → (p : Bool) → bytes_eq w (codes "set") ≡ p → (q : Bool) → bytes_eq w (codes "modifier") ≡ q → Own n p
        by_word m h w says true e q f = record { no_reference = lacks; type = m; typed = h; says = says ∙ ap Some ((bytes_eq-Decides w (codes "set")).0 e) }
        by_word m h w says false e true f = record { no_reference = lacks; type = m; typed = h; says = says ∙ ap Some ((bytes_eq-Decides w (codes "modifier")).0 f) }
        by_word m h w says false e false f =
            absurd (not_broken (other_type s (record { no_reference = lacks; type = m; typed = h; says = says }) (unlike w (codes "set") e) (unlike w (codes "modifier") f)))
          where
            unlike : (a b : List ℕ) → bytes_eq a b ≡ false → a ≡ b → ⊥
            unlike a b g is = (let k : true ≡ false = sym ((bytes_eq-Decides a b).1 is) ∙ g in cc)

        by_text : (m : Placed) → HasMember n (codes "type") m → (o : Option (List ℕ)) → string_in (tree_of m) ≡ o → Own n t
        by_text m h None says = absurd (not_broken (other_form (type_stands s lacks h) says))
        by_text m h (Some w) says =
            let word : unwrap_or (member_text (codes "type") (entries_at n)) [] ≡ w =
            ap (λ (o : Option Placed). unwrap_or (option_and_then (λ x. string_in (tree_of x)) o) []) h ∙ ap (λ (o : Option (List ℕ)). unwrap_or o []) says in
            by_word m h w says t (sym (ap (λ (x : List ℕ). bytes_eq x (codes "set")) word) ∙ e) (bytes_eq w (codes "modifier")) refl

        by_type : (es : List Entry) → object_in (tree_of n) ≡ Some es → (o : Option Placed) → value_of_name (codes "type") (entries_at n) ≡ o → Own n t
        by_type es is None h = absurd (not_broken (no_type s (es, is) lacks h))
        by_type es is (Some m) h = by_text m h (string_in (tree_of m)) refl

        by_form : (o : Option (List Entry)) → object_in (tree_of n) ≡ o → Own n t
        by_form None is = absurd (not_broken (other_form s is))
        by_form (Some es) is = by_type es is (value_of_name (codes "type") (entries_at n)) refl

    item : (n : Placed) → Stands root an_item n → (b : Break) → In b (item_breaks sets_in modifiers_in n) → BreaksNaming root b
    item n s b i = go (value_of_name (codes "$ref") (entries_at n)) refl i
      where
        by_own : (t : Bool) → Own n t → In b (if t then set_breaks sets_in (entries_at n) else modifier_breaks sets_in (entries_at n)) → BreaksNaming root b
        by_own true w j = set n (own_set_stands s w) b j
        by_own false w j = modifier n (own_modifier_stands s w) b j

        by_names : (m : Placed) → HasMember n (codes "$ref") m → (v w : Option ℕ) → set_number sets_in (text_at m) ≡ v → modifier_number modifiers_in (text_at m) ≡ w
            → In b (if is_some v || is_some w then [] else at_value Reference m) → BreaksNaming root b
        by_names m h (Some v) w e f j = absurd j
        by_names m h None (Some w) e f j = absurd j
        by_names m h None None e f j =
            as_told b (at Reference m) (alone j) (no_item s h (not_numbered (codes "sets") sets_in (text_at m) e) (not_numbered (codes "modifiers") modifiers_in (text_at m) f))

        go : (o : Option Placed) → value_of_name (codes "$ref") (entries_at n) ≡ o → In b (item_breaks_by sets_in modifiers_in (entries_at n) o) → BreaksNaming root b
        go None e j =
            by_own (bytes_eq (unwrap_or (member_text (codes "type") (entries_at n)) []) (codes "set"))
            (own n s e (bytes_eq (unwrap_or (member_text (codes "type") (entries_at n)) []) (codes "set")) refl) j
        go (Some m) e j = by_names m e (set_number sets_in (text_at m)) (modifier_number modifiers_in (text_at m)) refl refl j

    -- names
    has_name : (n : Placed) (name : List ℕ) → item_name sets_in modifiers_in n ≡ Some name → HasItemName root n name
    has_name n name e = go (value_of_name (codes "$ref") (entries_at n)) refl e
      where
        its_text : Lacks n (codes "$ref") → (o : Option Placed) → value_of_name (codes "name") (entries_at n) ≡ o → option_and_then (λ x. string_in (tree_of x)) o ≡ Some name → HasItemName root n name
        its_text l None h f = cc
        its_text l (Some m) h f = its_own l h f

        by_set : (m : Placed) → HasMember n (codes "$ref") m → (v : ℕ) → set_number sets_in (text_at m) ≡ Some v → Some (name_in sets_in v) ≡ Some name → HasItemName root n name
        by_set m h v f g =
            let (x, at_v, spelled) = pointers_spell (codes "sets") sets_in (text_at m) v f in
            subst (HasItemName root n) (name_at sets_in v x at_v ∙ same_some g) (of_set x h (in_slice sets_in v x at_v) spelled)

        by_modifier : (m : Placed) → HasMember n (codes "$ref") m → (v : ℕ) → modifier_number modifiers_in (text_at m) ≡ Some v → Some (name_in modifiers_in v) ≡ Some name → HasItemName root n name
        by_modifier m h v f g =
            let (x, at_v, spelled) = pointers_spell (codes "modifiers") modifiers_in (text_at m) v f in
            subst (HasItemName root n) (name_at modifiers_in v x at_v ∙ same_some g) (of_modifier x h (in_slice modifiers_in v x at_v) spelled)

        by_numbers : (m : Placed) → HasMember n (codes "$ref") m → (v w : Option ℕ) → set_number sets_in (text_at m) ≡ v → modifier_number modifiers_in (text_at m) ≡ w
            → name_of_number sets_in modifiers_in v w ≡ Some name → HasItemName root n name
        by_numbers m h (Some v) w f g k = by_set m h v f k
        by_numbers m h None (Some w) f g k = by_modifier m h w g k
        by_numbers m h None None f g k = cc

        go : (o : Option Placed) → value_of_name (codes "$ref") (entries_at n) ≡ o → item_name_by sets_in modifiers_in (entries_at n) o ≡ Some name → HasItemName root n name
        go None h f = its_text h (value_of_name (codes "name") (entries_at n)) refl f
        go (Some m) h f = by_numbers m h (set_number sets_in (text_at m)) (modifier_number modifiers_in (text_at m)) refl refl f

    is_string : (n m : Placed) → name_string n ≡ Some m → IsNameString n m
    is_string n m e = go (value_of_name (codes "$ref") (entries_at n)) refl e
      where
        go : (o : Option Placed) → value_of_name (codes "$ref") (entries_at n) ≡ o → name_string_by (entries_at n) o ≡ Some m → IsNameString n m
        go None h f = inr (h, f)
        go (Some x) h f = inl (h ∙ f)

    -- the names that were seen are those of the items before
    abbrev AreNames : List (List ℕ) → List Placed → Type 0
    AreNames seen before = (name : List ℕ) → In name seen → (m : Placed) × In m before × HasItemName root m name

    with_last : (seen : List (List ℕ)) (before : List Placed) (n : Placed) (o : Option (List ℕ)) → item_name sets_in modifiers_in n ≡ o → AreNames seen before → AreNames (with_name seen o) (before ++ (n ∷ []))
    with_last seen before n None e are name i = let r = are name i in (r.0, in_left before (n ∷ []) r.0 r.1, r.2)
    with_last seen before n (Some x) e are name (inl same) = (n, in_end before n, has_name n name (e ∙ ap Some (sym same)))
      where
        in_end : (xs : List Placed) (y : Placed) → In y (xs ++ (y ∷ []))
        in_end [] y = inl refl
        in_end (z ∷ xs) y = inr (in_end xs y)
    with_last seen before n (Some x) e are name (inr i) = let r = are name i in (r.0, in_left before (n ∷ []) r.0 r.1, r.2)

    repeat : (seen : List (List ℕ)) (before after : List Placed) (n : Placed) → AreNames seen before → order_items root ≡ before ++ (n ∷ after)
        → (b : Break) → In b (of_each (repeat_at seen (item_name sets_in modifiers_in n)) (name_string n)) → BreaksNaming root b
    repeat seen before after n are items b i = go (each_cases (repeat_at seen (item_name sets_in modifiers_in n)) (name_string n) b i)
      where
        by : (m : Placed) → name_string n ≡ Some m → (name : List ℕ) → item_name sets_in modifiers_in n ≡ Some name → (t : Bool) → is_among name seen ≡ t → In b (if t then at_value Duplicate m else []) → BreaksNaming root b
        by m e name f true g j =
            let r = are name (among_is name seen g) in
            as_told b (at Duplicate m) (alone j)
            (name_again (record { before = before; after = after; items = items; earlier = r.0; among = r.1; name = name; has = has_name n name f; earlier_has = r.2 }) (is_string n m e))
        by m e name f false g j = absurd j

        named : (m : Placed) → name_string n ≡ Some m → (o : Option (List ℕ)) → item_name sets_in modifiers_in n ≡ o → In b (repeat_at seen o m) → BreaksNaming root b
        named m e None f j = absurd j
        named m e (Some name) f j = by m e name f (is_among name seen) refl j

        go : (m : Placed) × (name_string n ≡ Some m) × In b (repeat_at seen (item_name sets_in modifiers_in n) m) → BreaksNaming root b
        go (m, e, j) = named m e (item_name sets_in modifiers_in n) refl j

    names : (seen : List (List ℕ)) (before ns : List Placed) → AreNames seen before → order_items root ≡ before ++ ns → (b : Break) → In b (repeats sets_in modifiers_in seen ns) → BreaksNaming root b
    names seen before [] are items b i = absurd i
    names seen before (n ∷ ns) are items b i =
        go (names (with_name seen (item_name sets_in modifiers_in n)) (before ++ (n ∷ [])) ns (with_last seen before n (item_name sets_in modifiers_in n) refl are) (items ∙ sym (append_assoc before (n ∷ []) ns)) b)
        (in_cases (of_each (repeat_at seen (item_name sets_in modifiers_in n)) (name_string n)) (repeats sets_in modifiers_in (with_name seen (item_name sets_in modifiers_in n)) ns) b i)
      where
        go : (In b (repeats sets_in modifiers_in (with_name seen (item_name sets_in modifiers_in n)) ns) → BreaksNaming root b)
            → In b (of_each (repeat_at seen (item_name sets_in modifiers_in n)) (name_string n)) ⊎ In b (repeats sets_in modifiers_in (with_name seen (item_name sets_in modifiers_in n)) ns) → BreaksNaming root b
        go later (inl j) = repeat seen before ns n are items b j
        go later (inr j) = later j

    -- all parts of the list
    in_sets : (b : Break) → In b (flat_map (λ e. set_breaks sets_in (entries_at e.value)) sets_in) → BreaksNaming root b
    in_sets b i = go (from_flat (λ e. set_breaks sets_in (entries_at e.value)) sets_in b i)
      where
        go : (e : Entry) × In e sets_in × In b (set_breaks sets_in (entries_at e.value)) → BreaksNaming root b
        go (e, j, k) = let r = section_member root (codes "sets") e j in set e.value (set_stands (sets_stand r.1) r.2) b k

    in_modifiers : (b : Break) → In b (flat_map (λ e. modifier_breaks sets_in (entries_at e.value)) modifiers_in) → BreaksNaming root b
    in_modifiers b i = go (from_flat (λ e. modifier_breaks sets_in (entries_at e.value)) modifiers_in b i)
      where
        go : (e : Entry) × In e modifiers_in × In b (modifier_breaks sets_in (entries_at e.value)) → BreaksNaming root b
        go (e, j, k) = let r = section_member root (codes "modifiers") e j in modifier e.value (modifier_stands (modifiers_stand r.1) r.2) b k

    in_items : (b : Break) → In b (flat_map (item_breaks sets_in modifiers_in) (order_items root)) → BreaksNaming root b
    in_items b i = go (from_flat (item_breaks sets_in modifiers_in) (order_items root) b i)
      where
        go : (n : Placed) × In n (order_items root) × In b (item_breaks sets_in modifiers_in n) → BreaksNaming root b
        go (n, j, k) = let r = item_member root n j in item n (item_stands (order_stands r.1) r.2) b k

    abbrev of_sets : List Break
    of_sets = flat_map (λ e. set_breaks sets_in (entries_at e.value)) sets_in

    abbrev of_modifiers : List Break
    of_modifiers = flat_map (λ e. modifier_breaks sets_in (entries_at e.value)) modifiers_in

    abbrev of_items : List Break
    of_items = flat_map (item_breaks sets_in modifiers_in) (order_items root)

    abbrev of_names : List Break
    of_names = repeats sets_in modifiers_in [] (order_items root)

    whole : (b : Break) → In b (naming_breaks root) → BreaksNaming root b
    whole b i = first (in_cases of_sets (of_modifiers ++ (of_items ++ of_names)) b i)
      where
        third : In b of_items ⊎ In b of_names → BreaksNaming root b
        third (inl j) = in_items b j
        third (inr j) = names [] [] (order_items root) (λ name k. absurd k) refl b j

        second : In b of_modifiers ⊎ In b (of_items ++ of_names) → BreaksNaming root b
        second (inl j) = in_modifiers b j
        second (inr j) = third (in_cases of_items of_names b j)

        first : In b of_sets ⊎ In b (of_modifiers ++ (of_items ++ of_names)) → BreaksNaming root b
        first (inl j) = in_sets b j
        first (inr j) = second (in_cases of_modifiers (of_items ++ of_names) b j)

pub naming_breaks_break : NamingBreaksBreak
naming_breaks_break root b met i = whole root met b i
