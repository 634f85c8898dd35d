-- What is written in a value does not change where its offsets are moved, so it is decided by the source.
use Rattle.std.proofs.Common.{◌≡◌, ℕ, ◌+◌, List, [], ◌∷◌, ◌++◌, Bool, true, false, cond, Option, Some, None, refl, sym, ap, ap₂, ◌∙◌, subst, map, codes, option_map}
use Rattle.std.specs.Prelude.{option_and_then}
use Rattle.std.specs.Fmt.{decimal}
use Rattle.std.specs.Str.{bytes_eq}
use Rattle.name_path.specs.declared.place.Place.{Place}
use Rattle.json_span.specs.Tree.{Tree, a_null, a_boolean, a_number, a_string, an_array, an_object, Placed, placed, Elements, no_elements, an_element, Members, no_members, a_member, Entry, tree_of, elements_in, entries_in}
use Rattle.json_span.specs.Parts.{moved, moved_tree, moved_elements, moved_members}
use Rattle.json_span.proofs.Unique.{shows_one}
use Rattle.json_span.specs.Reading.{Shows}
use Rattle.token_tree.specs.Tree.{Definition}
use Rattle.token_tree.specs.Shape.{entries_at, extensions_of, has, said_deprecated, said_description, said_kind, token_value}
use Rattle.token_tree.specs.Promise.{IsDefinition}
use Rattle.token_tree.proofs.Moved.{moved_entry, moved_tree_of, entries_at_moved, has_moved}
use Rattle.alias_ref.specs.Written.{Step, array, object, Written, parts, Parts, parts_by_index, parts_by_name, parts_of, steps_of, part_under, part_behind, value_at, Role, of_value, reference_written, pointed, object_pointed, object_written, written_as, role_behind, role_at, written_at}
use Rattle.alias_ref.specs.Laws.{ShowsSame}
use Rattle.alias_ref.specs.Refs.{named_by, refs_in, refs_at, refs_in_items, refs_in_members, refs_of}

abbrev pub moved_part : ℕ → Step × Placed → Step × Placed
moved_part d p = (p.0, moved d p.1)

numbered_moved : (d i : ℕ) (ns : Elements) → parts_by_index i (elements_in (moved_elements d ns)) ≡ map (moved_part d) (parts_by_index i (elements_in ns))
numbered_moved d i no_elements = refl
numbered_moved d i (an_element n ns) = ap (λ (ps : Parts). (decimal i, moved d n) ∷ ps) (numbered_moved d (i + 1) ns)

named_moved : (d : ℕ) (ms : Members) → parts_by_name (entries_in (moved_members d ms)) ≡ map (moved_part d) (parts_by_name (entries_in ms))
named_moved d no_members = refl
named_moved d (a_member s start end n ms) = ap (λ (ps : Parts). (s, moved d n) ∷ ps) (named_moved d ms)

parts_moved : (d : ℕ) (v : Tree) → parts_of (moved_tree d v) ≡ map (moved_part d) (parts_of v)
parts_moved d a_null = refl
parts_moved d (a_boolean b) = refl
parts_moved d (a_number k) = refl
parts_moved d (a_string s) = refl
parts_moved d (an_array ns) = numbered_moved d 0 ns
parts_moved d (an_object ms) = named_moved d ms

chosen : {A B : Type 0} (f : A → B) (b : Bool) (x y : Option A) → cond b (option_map f x) (option_map f y) ≡ option_map f (cond b x y)
chosen f true x y = refl
chosen f false x y = refl

under_moved : (d : ℕ) (s : Step) (ps : Parts) → part_under s (map (moved_part d) ps) ≡ option_map (moved d) (part_under s ps)
under_moved d s [] = refl
under_moved d s (p ∷ ps) = ap (cond (bytes_eq p.0 s) (Some (moved d p.1))) (under_moved d s ps) ∙ chosen (moved d) (bytes_eq p.0 s) (Some p.1) (part_under s ps)

part_moved : (d : ℕ) (n : Placed) (s : Step) → part_behind (moved d n) s ≡ option_map (moved d) (part_behind n s)
part_moved d n s = ap (λ v. part_under s (parts_of v)) (moved_tree_of d n) ∙ ap (part_under s) (parts_moved d (tree_of n)) ∙ under_moved d s (parts_of (tree_of n))

pub value_moved : (d : ℕ) (n : Placed) (trail : List Step) → value_at (moved d n) trail ≡ option_map (moved d) (value_at n trail)
unfolding value_at
value_moved d n [] = refl
value_moved d n (s ∷ trail) = ap (option_and_then (λ m. value_at m trail)) (part_moved d n s) ∙ through (λ m. value_moved d m trail) (part_behind n s)
  where
    through : ((m : Placed) → value_at (moved d m) trail ≡ option_map (moved d) (value_at m trail)) → (o : Option Placed) → option_and_then (λ m. value_at m trail) (option_map (moved d) o) ≡ option_map (moved d) (option_and_then (λ m. value_at m trail) o)
    through rec None = refl
    through rec (Some m) = rec m

steps_moved : (d : ℕ) (ps : Parts) → steps_of (map (moved_part d) ps) ≡ steps_of ps
steps_moved d [] = refl
steps_moved d (p ∷ ps) = ap (λ ss. p.0 ∷ ss) (steps_moved d ps)

pointed_moved : (d : ℕ) (v : Tree) → pointed (moved_tree d v) ≡ pointed v
pointed_moved d a_null = refl
pointed_moved d (a_boolean b) = refl
pointed_moved d (a_number k) = refl
pointed_moved d (a_string s) = refl
pointed_moved d (an_array ns) = refl
pointed_moved d (an_object ms) = refl

object_pointed_moved : (d : ℕ) (es : List Entry) → object_pointed (map (moved_entry d) es) ≡ object_pointed es
object_pointed_moved d [] = refl
object_pointed_moved d (e ∷ []) = ap pointed (moved_tree_of d e.value) ∙ pointed_moved d (tree_of e.value)
object_pointed_moved d (e ∷ f ∷ es) = refl

names_moved : (d : ℕ) (es : List Entry) → steps_of (parts_by_name (map (moved_entry d) es)) ≡ steps_of (parts_by_name es)
names_moved d [] = refl
names_moved d (e ∷ es) = ap (λ ss. e.name ∷ ss) (names_moved d es)

object_moved : (d : ℕ) (ms : Members) → object_written (entries_in (moved_members d ms)) ≡ object_written (entries_in ms)
object_moved d ms =
    let es = entries_in ms in
    let make : Bool → Option Place → List Step → Written = λ b o ss. cond b (reference_written o) (parts object ss) in
    ap object_written (entries_at_moved d (placed (an_object ms) 0 0))
    ∙ (λ i. make (has_moved d (codes "$ref") es i) (object_pointed_moved d es i) (names_moved d es i))

pub written_moved : (d : ℕ) (role : Role) (v : Tree) → written_as role (moved_tree d v) ≡ written_as role v
written_moved d role a_null = refl
written_moved d role (a_boolean b) = refl
written_moved d role (a_number k) = refl
written_moved d role (a_string s) = refl
written_moved d role (an_array ns) = ap (parts array) (ap steps_of (numbered_moved d 0 ns) ∙ steps_moved d (parts_by_index 0 (elements_in ns)))
written_moved d role (an_object ms) = object_moved d ms

mutual
  refs_moved : (d : ℕ) (role : Role) (n : Placed) → refs_in role (moved d n) ≡ refs_in role n
  refs_moved d role (placed v start end) = refs_at_moved d role v

  refs_at_moved : (d : ℕ) (role : Role) (v : Tree) → refs_at role (moved_tree d v) ≡ refs_at role v
  refs_at_moved d role a_null = refl
  refs_at_moved d role (a_boolean b) = refl
  refs_at_moved d role (a_number k) = refl
  refs_at_moved d role (a_string s) = refl
  refs_at_moved d role (an_array ns) = refs_items_moved d ns
  refs_at_moved d role (an_object ms) = ap₂ (λ w us. named_by w ++ us) (object_moved d ms) (refs_members_moved d ms)

  refs_items_moved : (d : ℕ) (ns : Elements) → refs_in_items (moved_elements d ns) ≡ refs_in_items ns
  refs_items_moved d no_elements = refl
  refs_items_moved d (an_element n ns) = ap₂ (λ xs ys. xs ++ ys) (refs_moved d of_value n) (refs_items_moved d ns)

  refs_members_moved : (d : ℕ) (ms : Members) → refs_in_members (moved_members d ms) ≡ refs_in_members ms
  refs_members_moved d no_members = refl
  refs_members_moved d (a_member s start end n ms) = ap₂ (λ xs ys. xs ++ ys) (refs_moved d (role_behind s) n) (refs_members_moved d ms)

-- what is written in the token of an object, and what it names
abbrev read_written : Placed → List Step → Option Written
read_written n trail = option_map (λ m. written_as (role_at (has (codes "$ref") (entries_at n)) trail) (tree_of m)) (value_at (token_value n) trail)

abbrev read_refs : Placed → List (List Step)
read_refs n = refs_in (role_at (has (codes "$ref") (entries_at n)) []) (token_value n)

module _ (d : Definition) (k : IsDefinition d) where
  written_read : (trail : List Step) → written_at d trail ≡ read_written k.object trail
  unfolding written_at
  written_read trail =
      let role = role_at (has (codes "$ref") (entries_at k.object)) trail in
      let value = token_value k.object in
      ap (λ x. written_at x trail) k.same
      ∙ ap (option_map (λ n. written_as role (tree_of n))) (value_moved d.start value trail)
      ∙ through role (value_at value trail)
    where
      through : (role : Role) (o : Option Placed) → option_map (λ n. written_as role (tree_of n)) (option_map (moved d.start) o) ≡ option_map (λ n. written_as role (tree_of n)) o
      through role None = refl
      through role (Some n) = ap Some (ap (written_as role) (moved_tree_of d.start n) ∙ written_moved d.start role (tree_of n))

  refs_read : refs_of d ≡ read_refs k.object
  unfolding refs_of
  refs_read = ap refs_of k.same ∙ refs_moved d.start (role_at (has (codes "$ref") (entries_at k.object)) []) (token_value k.object)

  kind_read : d.kind ≡ said_kind (entries_at k.object)
  kind_read = ap (λ x. x.kind) k.same

module _ (d e : Definition) (k : IsDefinition d) (l : IsDefinition e) (source : d.source ≡ e.source) where
  one_object : k.object ≡ l.object
  one_object = shows_one e.source k.object l.object (subst (λ s. Shows s k.object) source k.shown) l.shown

  pub source_decides : (trail : List Step) → written_at d trail ≡ written_at e trail
  source_decides trail = written_read d k trail ∙ ap (λ o. read_written o trail) one_object ∙ sym (written_read e l trail)

  pub refs_of_source : refs_of d ≡ refs_of e
  refs_of_source = refs_read d k ∙ ap read_refs one_object ∙ sym (refs_read e l)

  pub kind_of_source : d.kind ≡ e.kind
  kind_of_source = kind_read d k ∙ ap (λ o. said_kind (entries_at o)) one_object ∙ sym (kind_read e l)

  pub shown_of_source : ShowsSame d e
  shown_of_source =
      record {
        description = ap (λ x. x.description) k.same ∙ (ap (λ o. said_description (entries_at o)) one_object ∙ sym (ap (λ x. x.description) l.same));
        extensions = ap (λ x. x.extensions) k.same ∙ (ap₂ (λ s o. extensions_of s (entries_at o)) source one_object ∙ sym (ap (λ x. x.extensions) l.same));
        deprecated = ap (λ x. x.deprecated) k.same ∙ (ap (λ o. said_deprecated (entries_at o)) one_object ∙ sym (ap (λ x. x.deprecated) l.same));
      }
