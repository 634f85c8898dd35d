-- How much a JSON value holds: more than each of its parts.
use Rattle.std.proofs.Common.{◌≡◌, ℕ, ◌+◌, refl}
use Rattle.json_span.specs.Tree.{Tree, a_null, a_boolean, a_number, a_string, an_array, an_object, Placed, placed, Elements, no_elements, an_element, Members, no_members, a_member, tree_of}

abbrev mutual
  pub node_weight : Placed → ℕ
  node_weight (placed v start end) = tree_weight v + 3

  pub tree_weight : Tree → ℕ
  tree_weight a_null = 0
  tree_weight (a_boolean b) = 0
  tree_weight (a_number k) = 0
  tree_weight (a_string s) = 0
  tree_weight (an_array ns) = elements_weight ns
  tree_weight (an_object ms) = members_weight ms

  pub elements_weight : Elements → ℕ
  elements_weight no_elements = 0
  elements_weight (an_element n ns) = node_weight n + 3 + elements_weight ns

  pub members_weight : Members → ℕ
  members_weight no_members = 0
  members_weight (a_member name start end n ms) = node_weight n + 3 + members_weight ms

pub weight_of : (n : Placed) → node_weight n ≡ tree_weight (tree_of n) + 3
weight_of (placed v start end) = refl
