-- What a value names, part after part.
use Rattle.std.proofs.Common.{◌≡◌, ℕ, List, [], ◌∷◌, ◌++◌, Bool, true, false, cond, Some, None, refl, sym, ap, ap₂, ◌∙◌, append_assoc, codes}
use Rattle.std.specs.Prelude.{is_some}
use Rattle.std.specs.Str.{bytes_eq}
use Rattle.json_span.specs.Tree.{Tree, a_null, a_boolean, a_number, a_string, an_array, an_object, Placed, placed, Elements, no_elements, an_element, Members, no_members, a_member, Entry, tree_of, elements_in, entries_in, array_in, object_in, value_of_name}
use Rattle.alias_ref.specs.Written.{Step, parts, refers, object, steps_of, parts_by_name, Role, of_value, of_ref, pointed, reference_written, object_written, written_as, role_behind}
use Rattle.alias_ref.specs.inner.Steps.{items_refs, entries_refs}
use Rattle.token_tree.specs.Tree.{Definition}
use Rattle.alias_ref.specs.Refs.{named_by, refs_in, refs_in_items, refs_in_members, refs_of}
use Rattle.alias_ref.specs.inner.Contents.{role_of}
use Rattle.alias_ref.proofs.SpotsStand.{whole_role}

items_are : (ns : Elements) → refs_in_items ns ≡ items_refs (elements_in ns)
items_are no_elements = refl
items_are (an_element n ns) = ap (λ us. refs_in of_value n ++ us) (items_are ns)

entries_are : (ms : Members) → refs_in_members ms ≡ entries_refs (entries_in ms)
entries_are no_members = refl
entries_are (a_member s start end n ms) = ap (λ us. refs_in (role_behind s) n ++ us) (entries_are ms)

pub refs_array : (role : Role) (n : Placed) (ns : List Placed) → array_in (tree_of n) ≡ Some ns → refs_in role n ≡ named_by (written_as role (tree_of n)) ++ items_refs ns
refs_array role (placed a_null start end) ns e = absurd (cc)
refs_array role (placed (a_boolean b) start end) ns e = absurd (cc)
refs_array role (placed (a_number k) start end) ns e = absurd (cc)
refs_array role (placed (a_string s) start end) ns e = absurd (cc)
refs_array role (placed (an_array es) start end) ns e = let same : elements_in es ≡ ns = cc in items_are es ∙ ap items_refs same
refs_array role (placed (an_object ms) start end) ns e = absurd (cc)

pub refs_object : (role : Role) (n : Placed) (es : List Entry) → object_in (tree_of n) ≡ Some es → refs_in role n ≡ named_by (written_as role (tree_of n)) ++ entries_refs es
refs_object role (placed a_null start end) es e = absurd (cc)
refs_object role (placed (a_boolean b) start end) es e = absurd (cc)
refs_object role (placed (a_number k) start end) es e = absurd (cc)
refs_object role (placed (a_string s) start end) es e = absurd (cc)
refs_object role (placed (an_array ns) start end) es e = absurd (cc)
refs_object role (placed (an_object ms) start end) es e = let same : entries_in ms ≡ es = cc in ap (λ us. named_by (object_written (entries_in ms)) ++ us) (entries_are ms ∙ ap entries_refs same)

-- adding, and what is still to add
pub added_then : {A : Type 0} (old mid new done rest all : List A) → mid ≡ old ++ done → new ≡ mid ++ rest → all ≡ done ++ rest → new ≡ old ++ all
added_then old mid new done rest all e f g = f ∙ ap (λ xs. xs ++ rest) e ∙ append_assoc old done rest ∙ ap (λ xs. old ++ xs) (sym g)

pub refs_of_is : (d : Definition) → refs_in (role_of d.by_ref) d.value ≡ refs_of d
unfolding refs_of
refs_of_is d = ap (λ r. refs_in r d.value) (whole_role d.by_ref)

-- A value that is a reference without steps names nothing else.

-- the text of its `$ref` names nothing by itself
text_alone : (v : Tree) (start end : ℕ) (named : List Step) → reference_written (pointed v) ≡ refers named [] → refs_in of_ref (placed v start end) ≡ []
text_alone a_null start end named e = absurd (cc)
text_alone (a_boolean b) start end named e = absurd (cc)
text_alone (a_number k) start end named e = absurd (cc)
text_alone (a_string s) start end named e = refl
text_alone (an_array ns) start end named e = absurd (cc)
text_alone (an_object ms) start end named e = absurd (cc)

members_alone : (ms : Members) (named : List Step) → object_written (entries_in ms) ≡ refers named [] → refs_in_members ms ≡ []
members_alone no_members named e = refl
members_alone (a_member s start end (placed v from to) no_members) named e = go (bytes_eq s (codes "$ref")) refl e
  where
    go : (b : Bool) → bytes_eq s (codes "$ref") ≡ b
        → cond (is_some (cond b (Some (placed v from to)) None)) (reference_written (pointed v)) (parts object (s ∷ [])) ≡ refers named [] → refs_in (role_behind s) (placed v from to) ++ [] ≡ []
    go true k f = ap (λ r. refs_in r (placed v from to) ++ []) (ap (λ b. cond b of_ref of_value) k) ∙ ap (λ us. us ++ []) (text_alone v from to named f)
    go false k f = absurd (cc)
members_alone (a_member s start end n (a_member r from to m ms)) named e = go (is_some (value_of_name (codes "$ref") (entries_in (a_member s start end n (a_member r from to m ms))))) e
  where
    go : (b : Bool) → cond b (reference_written None) (parts object (steps_of (parts_by_name (entries_in (a_member s start end n (a_member r from to m ms)))))) ≡ refers named [] → refs_in_members (a_member s start end n (a_member r from to m ms)) ≡ []
    go true f = absurd (cc)
    go false f = absurd (cc)

alone : (role : Role) (n : Placed) (named : List Step) → written_as role (tree_of n) ≡ refers named [] → refs_in role n ≡ named ∷ []
alone role (placed a_null start end) named e = absurd (cc)
alone role (placed (a_boolean b) start end) named e = absurd (cc)
alone role (placed (a_number k) start end) named e = absurd (cc)
alone role (placed (a_string s) start end) named e = ap named_by e
alone role (placed (an_array ns) start end) named e = absurd (cc)
alone role (placed (an_object ms) start end) named e = ap₂ (λ us ws. us ++ ws) (ap named_by e) (members_alone ms named e)

pub alias_names : (d : Definition) (named : List Step) → written_as (role_of d.by_ref) (tree_of d.value) ≡ refers named [] → refs_of d ≡ named ∷ []
alias_names d named is = sym (refs_of_is d) ∙ alone (role_of d.by_ref) d.value named is
