-- The tokens that the references of a value name, in written order.
use Rattle.std.specs.Prelude.{◌≡◌, List, [], ◌∷◌, ◌++◌, Some}
use Rattle.ring.specs.Lists.{In, Each}
use Rattle.json_span.specs.Tree.{Tree, a_null, a_boolean, a_number, a_string, an_array, an_object, Placed, placed, tree_of, Elements, no_elements, an_element, Members, no_members, a_member, entries_in}
use Rattle.token_tree.specs.Tree.{Definition}
use Rattle.alias_ref.specs.Written.{Step, Written, leaf, parts, refers, misspelled, Role, of_value, text_written, object_written, role_behind, role_at, steps_of, parts_of, part_behind}

-- the token that a reference names, where it is spelled well
abbrev pub named_by : Written → List (List Step)
named_by (refers token steps) = token ∷ []
named_by (leaf v) = []
named_by (parts c steps) = []
named_by misspelled = []

-- a reference first, and then what stands inside it
abbrev mutual
  pub refs_in : Role → Placed → List (List Step)
  refs_in role (placed v start end) = refs_at role v

  pub refs_at : Role → Tree → List (List Step)
  refs_at role a_null = []
  refs_at role (a_boolean b) = []
  refs_at role (a_number k) = []
  refs_at role (a_string text) = named_by (text_written role text)
  refs_at role (an_array ns) = refs_in_items ns
  refs_at role (an_object ms) = named_by (object_written (entries_in ms)) ++ refs_in_members ms

  pub refs_in_items : Elements → List (List Step)
  refs_in_items no_elements = []
  refs_in_items (an_element n ns) = refs_in of_value n ++ refs_in_items ns

  pub refs_in_members : Members → List (List Step)
  refs_in_members no_members = []
  refs_in_members (a_member s start end n ms) = refs_in (role_behind s) n ++ refs_in_members ms

-- those of a token's value
unfoldable pub refs_of : Definition → List (List Step)
refs_of d = refs_in (role_at d.by_ref []) d.value

-- The order in which what stands in a value is written, by the steps to it: a value comes before its parts, and what stands in an earlier part before
-- what stands in a later one.
pub data IsWrittenBefore : Placed → List Step → List Step → Type 0 where
  before_parts : {n : Placed} {s : Step} {trail : List Step} → IsWrittenBefore n [] (s ∷ trail)
  before_later : {n : Placed} {s r : Step} {trail later : List Step} (front back : List Step) → steps_of (parts_of (tree_of n)) ≡ front ++ s ∷ back → In r back → (s ≡ r → ⊥) → IsWrittenBefore n (s ∷ trail) (r ∷ later)
  before_inside : {n m : Placed} {s : Step} {trail later : List Step} → part_behind n s ≡ Some m → IsWrittenBefore m trail later → IsWrittenBefore n (s ∷ trail) (s ∷ later)

-- each comes before all that follow it
abbrev pub AreInOrder : Placed → List (List Step) → Type 0
AreInOrder n [] = Unit {0}
AreInOrder n (trail ∷ trails) = Each trails (IsWrittenBefore n trail) × AreInOrder n trails
