-- The parts of what a text shows stand in the order of the text.
use Rattle.std.proofs.Common.{◌≡◌, ℕ, ◌+◌, ◌<◌, ◌≤◌, List, length, refl, arith}
use Rattle.grammar.proofs.Steps.{no_longer, shorter}
use Rattle.json_span.specs.Tree.{Tree, a_null, a_boolean, a_number, a_string, an_array, an_object, Placed, placed, Elements, no_elements, an_element, Members, no_members, a_member, start_of, end_of}
use Rattle.json_span.specs.Reading.{ValueAt, with_span, Shape, null_shape, false_shape, true_shape, number_shape, string_shape, array_shape, object_shape, ElementsAt, no_element, first_element, MoreElements, last_element, next_element, member_at, MembersAt, no_member, first_member, MoreMembers, last_member, next_member, Shows}
use Rattle.json_span.proofs.Predictive.{honest_json}
use Rattle.json_span.proofs.Unique.{value_reads}

abbrev mutual
  pub InOrder : Placed → Type 0
  InOrder (placed v start end) = (start < end) × PartsInOrder start end v

  pub PartsInOrder : ℕ → ℕ → Tree → Type 0
  PartsInOrder start end a_null = Unit {0}
  PartsInOrder start end (a_boolean b) = Unit {0}
  PartsInOrder start end (a_number k) = Unit {0}
  PartsInOrder start end (a_string s) = Unit {0}
  PartsInOrder start end (an_array ns) = ElementsInOrder start end ns
  PartsInOrder start end (an_object ms) = MembersInOrder start end ms

  pub ElementsInOrder : ℕ → ℕ → Elements → Type 0
  ElementsInOrder low high no_elements = low ≤ high
  ElementsInOrder low high (an_element n ns) = (low ≤ start_of n) × InOrder n × ElementsInOrder (end_of n) high ns

  pub MembersInOrder : ℕ → ℕ → Members → Type 0
  MembersInOrder low high no_members = low ≤ high
  MembersInOrder low high (a_member s start end n ms) = (low ≤ start) × (start ≤ start_of n) × InOrder n × MembersInOrder (end_of n) high ms

value_begins : {total : ℕ} {t u : List ℕ} {n : Placed} → ValueAt total t n u → start_of n + length t ≡ total
value_begins (with_span s p q) = p

value_ends : {total : ℕ} {t u : List ℕ} {n : Placed} → ValueAt total t n u → end_of n + length u ≡ total
value_ends (with_span s p q) = q

mutual
  pub value_in_order : {total : ℕ} {t u : List ℕ} {n : Placed} → ValueAt total t n u → InOrder n
  value_in_order (with_span {start = start} {end = end} s p q) =
      let lt = shorter honest_json.visible (value_reads (with_span s p q)) refl in
      (omega (arith, p, q, lt), shape_in_order start end s (omega (arith, p)) (omega (arith, q)))

  shape_in_order : (low high : ℕ) {total : ℕ} {t u : List ℕ} {v : Tree} → Shape total t v u → low + length t ≤ total → total ≤ high + length u → PartsInOrder low high v
  shape_in_order low high (null_shape x) h k = tt
  shape_in_order low high (false_shape x) h k = tt
  shape_in_order low high (true_shape x) h k = tt
  shape_in_order low high (number_shape x e) h k = tt
  shape_in_order low high (string_shape x) h k = tt
  shape_in_order low high (array_shape x y) h k = elements_in_order low high y (omega (arith, h, no_longer x)) k
  shape_in_order low high (object_shape x y) h k = members_in_order low high y (omega (arith, h, no_longer x)) k

  elements_in_order : (low high : ℕ) {total : ℕ} {t u : List ℕ} {ns : Elements} → ElementsAt total t ns u → low + length t ≤ total → total ≤ high + length u → ElementsInOrder low high ns
  elements_in_order low high (no_element x) h k = omega (arith, h, k, no_longer x)
  elements_in_order low high (first_element {n = n} v b m) h k = (omega (arith, h, value_begins v), value_in_order v, more_elements_in_order (end_of n) high m (omega (arith, value_ends v, no_longer b)) k)

  more_elements_in_order : (low high : ℕ) {total : ℕ} {t u : List ℕ} {ns : Elements} → MoreElements total t ns u → low + length t ≤ total → total ≤ high + length u → ElementsInOrder low high ns
  more_elements_in_order low high (last_element x) h k = omega (arith, h, k, no_longer x)
  more_elements_in_order low high (next_element {n = n} x v b m) h k = (omega (arith, h, no_longer x, value_begins v), value_in_order v, more_elements_in_order (end_of n) high m (omega (arith, value_ends v, no_longer b)) k)

  members_in_order : (low high : ℕ) {total : ℕ} {t u : List ℕ} {ms : Members} → MembersAt total t ms u → low + length t ≤ total → total ≤ high + length u → MembersInOrder low high ms
  members_in_order low high (no_member x) h k = omega (arith, h, k, no_longer x)
  members_in_order low high (first_member {n = n} (member_at q p r a c v) b m) h k =
      (omega (arith, h, p), omega (arith, p, value_begins v, no_longer q.reads, no_longer a, no_longer c), value_in_order v, more_members_in_order (end_of n) high m (omega (arith, value_ends v, no_longer b)) k)

  more_members_in_order : (low high : ℕ) {total : ℕ} {t u : List ℕ} {ms : Members} → MoreMembers total t ms u → low + length t ≤ total → total ≤ high + length u → MembersInOrder low high ms
  more_members_in_order low high (last_member x) h k = omega (arith, h, k, no_longer x)
  more_members_in_order low high (next_member {n = n} x (member_at q p r a c v) b m) h k =
      (omega (arith, h, p, no_longer x), omega (arith, p, value_begins v, no_longer q.reads, no_longer a, no_longer c), value_in_order v, more_members_in_order (end_of n) high m (omega (arith, value_ends v, no_longer b)) k)

pub shown_in_order : (text : List ℕ) (n : Placed) → Shows text n → InOrder n
shown_in_order text n (t, m, before, v, after) = value_in_order v
