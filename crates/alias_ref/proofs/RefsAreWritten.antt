-- The tokens that a value names are those of the references that are written in it.
use Rattle.std.proofs.Common.{◌≡◌, ℕ, ◌+◌, List, [], ◌∷◌, ◌++◌, Bool, true, false, cond, Option, Some, None, inl, inr, refl, sym, ap, ◌∙◌, subst, option_map}
use Rattle.std.specs.Prelude.{option_and_then, ◌⊎◌}
use Rattle.std.specs.FinMap as flat_map
use Rattle.std.specs.Fmt.{decimal}
use Rattle.std.specs.Str.{bytes_eq}
use Rattle.tk_io.specs.Order.{names_cmp}
use Rattle.ring.specs.Lists.{In}
use Rattle.name_path.specs.declared.place.Place.{Place}
use Rattle.json_span.specs.Tree.{Tree, a_null, a_boolean, a_number, a_string, an_array, an_object, Placed, placed, Elements, no_elements, an_element, Members, no_members, a_member, tree_of, elements_in, entries_in}
use Rattle.json_span.specs.Parts.{IsPart, itself, inside, inside_array, inside_object, IsInElements, in_element, in_later_element, IsInMembers, in_member, in_later_member}
use Rattle.token_tree.specs.Tree.{Definition}
use Rattle.token_tree.proofs.Names.{same_text}
use Rattle.group_inherit.specs.Flattening.{Flattened}
use Rattle.alias_ref.specs.Written.{Step, Written, leaf, parts, refers, misspelled, parts_by_index, parts_by_name, parts_of, part_under, part_behind, value_at, Role, of_value, text_written, object_written, written_as, role_behind, role_at_end, role_at, written_at, written_in}
use Rattle.alias_ref.specs.Refs.{named_by, refs_in, refs_at, refs_in_items, refs_in_members, refs_of}
use Rattle.alias_ref.proofs.IndexSteps.{index_role}

pub In-left : {A : Type 0} (u : A) (xs ys : List A) → In u xs → In u (xs ++ ys)
In-left u [] ys h = elim h [ ]
In-left u (x ∷ xs) ys (inl e) = inl e
In-left u (x ∷ xs) ys (inr h) = inr (In-left u xs ys h)

pub In-right : {A : Type 0} (u : A) (xs ys : List A) → In u ys → In u (xs ++ ys)
In-right u [] ys h = h
In-right u (x ∷ xs) ys h = inr (In-right u xs ys h)

pub In-either : {A : Type 0} (u : A) (xs ys : List A) → In u (xs ++ ys) → In u xs ⊎ In u ys
In-either u [] ys h = inr h
In-either u (x ∷ xs) ys (inl e) = inl (inl e)
In-either u (x ∷ xs) ys (inr h) = elim (In-either u xs ys h) [
  | inl k ↦ inl (inr k)
  | inr k ↦ inr k
]

unfoldable pub role_from : Role → List Step → Role
role_from role [] = role
role_from role (s ∷ trail) = role_at_end s trail

pub role_on : (s : Step) (trail : List Step) → role_from (role_behind s) trail ≡ role_at_end s trail
unfolding role_from
role_on s [] = refl
role_on s (r ∷ trail) = refl

pub role_begins : (own_ref : Bool) (trail : List Step) → role_from (role_at own_ref []) trail ≡ role_at own_ref trail
unfolding role_from
role_begins true [] = refl
role_begins false [] = refl
role_begins true (s ∷ trail) = refl
role_begins false (s ∷ trail) = refl

-- a reference names its token
named_here : (w : Written) (u ss : List Step) → w ≡ refers u ss → In u (named_by w)
named_here w u ss e = subst (λ x. In u (named_by x)) (sym e) (inl refl)

here : (role : Role) (v : Tree) (u ss : List Step) → written_as role v ≡ refers u ss → In u (refs_at role v)
here role a_null u ss e = absurd (cc)
here role (a_boolean b) u ss e = absurd (cc)
here role (a_number k) u ss e = absurd (cc)
here role (a_string text) u ss e = named_here (text_written role text) u ss e
here role (an_array ns) u ss e = absurd (cc)
here role (an_object ms) u ss e = In-left u (named_by (object_written (entries_in ms))) (refs_in_members ms) (named_here (object_written (entries_in ms)) u ss e)

in_items : (u : List Step) (s : Step) (c : Placed) (i : ℕ) (ns : Elements) → part_under s (parts_by_index i (elements_in ns)) ≡ Some c → In u (refs_in (role_behind s) c) → In u (refs_in_items ns)
in_items u s c i no_elements e h = absurd (cc)
in_items u s c i (an_element n ns) e h = go (bytes_eq (decimal i) s) refl e (λ f. in_items u s c (i + 1) ns f h)
  where
    go : (b : Bool) → bytes_eq (decimal i) s ≡ b → cond b (Some n) (part_under s (parts_by_index (i + 1) (elements_in ns))) ≡ Some c → (part_under s (parts_by_index (i + 1) (elements_in ns)) ≡ Some c → In u (refs_in_items ns)) → In u (refs_in of_value n ++ refs_in_items ns)
    go true k f rec =
        let same : c ≡ n = cc in
        let role : role_behind s ≡ of_value = ap role_behind (sym (same_text (decimal i) s k)) ∙ index_role i in
        In-left u (refs_in of_value n) (refs_in_items ns) (subst (λ x. In u (refs_in of_value x)) same (subst (λ r. In u (refs_in r c)) role h))
    go false k f rec = In-right u (refs_in of_value n) (refs_in_items ns) (rec f)

in_members : (u : List Step) (s : Step) (c : Placed) (ms : Members) → part_under s (parts_by_name (entries_in ms)) ≡ Some c → In u (refs_in (role_behind s) c) → In u (refs_in_members ms)
in_members u s c no_members e h = absurd (cc)
in_members u s c (a_member name start end n ms) e h = go (bytes_eq name s) refl e (λ f. in_members u s c ms f h)
  where
    go : (b : Bool) → bytes_eq name s ≡ b → cond b (Some n) (part_under s (parts_by_name (entries_in ms))) ≡ Some c → (part_under s (parts_by_name (entries_in ms)) ≡ Some c → In u (refs_in_members ms)) → In u (refs_in (role_behind name) n ++ refs_in_members ms)
    go true k f rec =
        let same : c ≡ n = cc in
        let role : role_behind s ≡ role_behind name = ap role_behind (sym (same_text name s k)) in
        In-left u (refs_in (role_behind name) n) (refs_in_members ms) (subst (λ x. In u (refs_in (role_behind name) x)) same (subst (λ r. In u (refs_in r c)) role h))
    go false k f rec = In-right u (refs_in (role_behind name) n) (refs_in_members ms) (rec f)

in_part : (role : Role) (v : Tree) (u : List Step) (s : Step) (c : Placed) → part_under s (parts_of v) ≡ Some c → In u (refs_in (role_behind s) c) → In u (refs_at role v)
in_part role a_null u s c e h = absurd (cc)
in_part role (a_boolean b) u s c e h = absurd (cc)
in_part role (a_number k) u s c e h = absurd (cc)
in_part role (a_string text) u s c e h = absurd (cc)
in_part role (an_array ns) u s c e h = in_items u s c 0 ns e h
in_part role (an_object ms) u s c e h = In-right u (named_by (object_written (entries_in ms))) (refs_in_members ms) (in_members u s c ms e h)

refs_of_tree : (role : Role) (n : Placed) → refs_in role n ≡ refs_at role (tree_of n)
refs_of_tree role (placed v start end) = refl

in_value : (role : Role) (n : Placed) (trail : List Step) (m : Placed) (u ss : List Step) → value_at n trail ≡ Some m → written_as (role_from role trail) (tree_of m) ≡ refers u ss → In u (refs_in role n)
unfolding value_at role_from
in_value role n [] m u ss h e =
    let same : m ≡ n = cc in
    subst (In u) (sym (refs_of_tree role n)) (here role (tree_of n) u ss (subst (λ x. written_as role (tree_of x) ≡ refers u ss) same e))
in_value role n (s ∷ trail) m u ss h e = subst (In u) (sym (refs_of_tree role n)) (go (part_behind n s) refl h (λ c k. in_value (role_behind s) c trail m u ss k (ap (λ r. written_as r (tree_of m)) (role_on s trail) ∙ e)))
  where
    go : (o : Option Placed) → part_behind n s ≡ o → option_and_then (λ c. value_at c trail) o ≡ Some m → ((c : Placed) → value_at c trail ≡ Some m → In u (refs_in (role_behind s) c)) → In u (refs_at role (tree_of n))
    go None k f rec = absurd (cc)
    go (Some c) k f rec = in_part role (tree_of n) u s c k (rec c f)

pub written_listed : (d : Definition) (trail : List Step) (u ss : List Step) → written_at d trail ≡ Some (refers u ss) → In u (refs_of d)
unfolding written_at refs_of
written_listed d trail u ss h = go (value_at d.value trail) refl h
  where
    go : (o : Option Placed) → value_at d.value trail ≡ o → option_map (λ n. written_as (role_at d.by_ref trail) (tree_of n)) o ≡ Some (refers u ss) → In u (refs_in (role_at d.by_ref []) d.value)
    go None e k = absurd (cc)
    go (Some n) e k =
        let w : written_as (role_at d.by_ref trail) (tree_of n) ≡ refers u ss = cc in
        in_value (role_at d.by_ref []) d.value trail n u ss e (ap (λ r. written_as r (tree_of n)) (role_begins d.by_ref trail) ∙ w)

-- each reference that is written in a flat tree names a token of its own token's list
pub reference_listed : (flat : flat_map.FinMap names_cmp Flattened) (p : Place) (u ss : List Step) → written_in flat p ≡ Some (refers u ss) → (f : Flattened) × (flat_map.get flat p.token ≡ Some f) × In u (refs_of f.def)
unfolding written_in
reference_listed flat p u ss h = go (flat_map.get flat p.token) refl h
  where
    go : (o : Option Flattened) → flat_map.get flat p.token ≡ o → option_and_then (λ f. written_at f.def p.trail) o ≡ Some (refers u ss) → (f : Flattened) × (flat_map.get flat p.token ≡ Some f) × In u (refs_of f.def)
    go None e k = absurd (cc)
    go (Some f) e k = (f, e, written_listed f.def p.trail u ss k)

-- what is listed is named by a reference among the parts

named_is : (w : Written) (u : List Step) → In u (named_by w) → (ss : List Step) × (w ≡ refers u ss)
named_is (refers t ss) u (inl e) = (ss, ap (λ x. refers x ss) (sym e))
named_is (refers t ss) u (inr h) = elim h [ ]
named_is (leaf v) u h = elim h [ ]
named_is (parts c steps) u h = elim h [ ]
named_is misspelled u h = elim h [ ]

abbrev pub Among : (Placed → Type 0) → List Step → Type 0
Among P u = (role : Role) × (m : Placed) × (ss : List Step) × P m × (written_as role (tree_of m) ≡ refers u ss)

among_on : (P Q : Placed → Type 0) (u : List Step) → ((m : Placed) → P m → Q m) → Among P u → Among Q u
among_on P Q u f (role, m, ss, h, e) = (role, m, ss, f m h, e)

mutual
  listed_in : (role : Role) (n : Placed) (u : List Step) → In u (refs_in role n) → Among (λ m. IsPart m n) u
  listed_in role (placed v start end) u h = listed_at role v start end u h

  listed_at : (role : Role) (v : Tree) (start end : ℕ) (u : List Step) → In u (refs_at role v) → Among (λ m. IsPart m (placed v start end)) u
  listed_at role a_null start end u h = elim h [ ]
  listed_at role (a_boolean b) start end u h = elim h [ ]
  listed_at role (a_number k) start end u h = elim h [ ]
  listed_at role (a_string text) start end u h = let k = named_is (text_written role text) u h in (role, placed (a_string text) start end, k.0, itself, k.1)
  listed_at role (an_array ns) start end u h = among_on (λ m. IsInElements m ns) (λ m. IsPart m (placed (an_array ns) start end)) u (λ m i. inside (inside_array i)) (listed_in_items ns u h)
  listed_at role (an_object ms) start end u h = elim (In-either u (named_by (object_written (entries_in ms))) (refs_in_members ms) h) [
    | inl k ↦ let w = named_is (object_written (entries_in ms)) u k in (role, placed (an_object ms) start end, w.0, itself, w.1)
    | inr k ↦ among_on (λ m. IsInMembers m ms) (λ m. IsPart m (placed (an_object ms) start end)) u (λ m i. inside (inside_object i)) (listed_in_members ms u k)
  ]

  listed_in_items : (ns : Elements) (u : List Step) → In u (refs_in_items ns) → Among (λ m. IsInElements m ns) u
  listed_in_items no_elements u h = elim h [ ]
  listed_in_items (an_element n ns) u h = elim (In-either u (refs_in of_value n) (refs_in_items ns) h) [
    | inl k ↦ among_on (λ m. IsPart m n) (λ m. IsInElements m (an_element n ns)) u (λ m i. in_element i) (listed_in of_value n u k)
    | inr k ↦ among_on (λ m. IsInElements m ns) (λ m. IsInElements m (an_element n ns)) u (λ m i. in_later_element i) (listed_in_items ns u k)
  ]

  listed_in_members : (ms : Members) (u : List Step) → In u (refs_in_members ms) → Among (λ m. IsInMembers m ms) u
  listed_in_members no_members u h = elim h [ ]
  listed_in_members (a_member s start end n ms) u h = elim (In-either u (refs_in (role_behind s) n) (refs_in_members ms) h) [
    | inl k ↦ among_on (λ m. IsPart m n) (λ m. IsInMembers m (a_member s start end n ms)) u (λ m i. in_member i) (listed_in (role_behind s) n u k)
    | inr k ↦ among_on (λ m. IsInMembers m ms) (λ m. IsInMembers m (a_member s start end n ms)) u (λ m i. in_later_member i) (listed_in_members ms u k)
  ]

pub listed_written : (d : Definition) (u : List Step) → In u (refs_of d) → Among (λ m. IsPart m d.value) u
unfolding refs_of
listed_written d u h = listed_in (role_at d.by_ref []) d.value u h
