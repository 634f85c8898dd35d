-- How much a value holds: more than each of its parts.
use Rattle.std.proofs.Common.{◌≡◌, ℕ, ◌+◌, ◌<◌, List, [], ◌∷◌, Some, refl, ap, arith}
use Rattle.json_span.specs.Tree.{Tree, a_null, a_boolean, a_number, a_string, an_array, an_object, Placed, placed, Elements, no_elements, an_element, Members, no_members, a_member, Entry, tree_of, elements_in, entries_in, array_in, object_in}

abbrev mutual
  pub weight : Placed → ℕ
  weight (placed v start end) = tree_weight v + 3

  pub tree_weight : Tree → ℕ
  tree_weight a_null = 0
  tree_weight (a_boolean b) = 0
  tree_weight (a_number k) = 0
  tree_weight (a_string s) = 0
  tree_weight (an_array ns) = elements_weight ns
  tree_weight (an_object ms) = members_weight ms

  pub elements_weight : Elements → ℕ
  elements_weight no_elements = 0
  elements_weight (an_element n ns) = weight n + 1 + elements_weight ns

  pub members_weight : Members → ℕ
  members_weight no_members = 0
  members_weight (a_member name start end n ms) = weight n + 1 + members_weight ms

-- of lists of them
abbrev pub weights : List Placed → ℕ
weights [] = 0
weights (n ∷ ns) = weight n + 1 + weights ns

abbrev pub entry_weights : List Entry → ℕ
entry_weights [] = 0
entry_weights (e ∷ es) = weight e.value + 1 + entry_weights es

elements_weigh : (ns : Elements) → elements_weight ns ≡ weights (elements_in ns)
elements_weigh no_elements = refl
elements_weigh (an_element n ns) = ap (λ k. weight n + 1 + k) (elements_weigh ns)

members_weigh : (ms : Members) → members_weight ms ≡ entry_weights (entries_in ms)
members_weigh no_members = refl
members_weigh (a_member s start end n ms) = ap (λ k. weight n + 1 + k) (members_weigh ms)

pub array_lighter : (n : Placed) (ns : List Placed) → array_in (tree_of n) ≡ Some ns → weights ns + 2 < weight n
array_lighter (placed a_null start end) ns e = absurd (cc)
array_lighter (placed (a_boolean b) start end) ns e = absurd (cc)
array_lighter (placed (a_number k) start end) ns e = absurd (cc)
array_lighter (placed (a_string s) start end) ns e = absurd (cc)
array_lighter (placed (an_array es) start end) ns e = let same : elements_in es ≡ ns = cc in omega (arith, elements_weigh es, ap weights same)
array_lighter (placed (an_object ms) start end) ns e = absurd (cc)

pub object_lighter : (n : Placed) (es : List Entry) → object_in (tree_of n) ≡ Some es → entry_weights es + 2 < weight n
object_lighter (placed a_null start end) es e = absurd (cc)
object_lighter (placed (a_boolean b) start end) es e = absurd (cc)
object_lighter (placed (a_number k) start end) es e = absurd (cc)
object_lighter (placed (a_string s) start end) es e = absurd (cc)
object_lighter (placed (an_array ns) start end) es e = absurd (cc)
object_lighter (placed (an_object ms) start end) es e = let same : entries_in ms ≡ es = cc in omega (arith, members_weigh ms, ap entry_weights same)
