-- The parts of a value, and a value with its offsets moved.
use Rattle.std.specs.Prelude.{◌≡◌, ℕ, ◌+◌, List, slice_range}
use Rattle.json_span.specs.Tree.{Tree, a_null, a_boolean, a_number, a_string, an_array, an_object, Placed, placed, Elements, no_elements, an_element, Members, no_members, a_member, start_of, end_of}
use Rattle.json_span.specs.Reading.{Shows}

abbrev mutual
  -- every offset greater by so much
  pub moved : ℕ → Placed → Placed
  moved d (placed v start end) = placed (moved_tree d v) (d + start) (d + end)

  pub moved_tree : ℕ → Tree → Tree
  moved_tree d a_null = a_null
  moved_tree d (a_boolean b) = a_boolean b
  moved_tree d (a_number k) = a_number k
  moved_tree d (a_string s) = a_string s
  moved_tree d (an_array ns) = an_array (moved_elements d ns)
  moved_tree d (an_object ms) = an_object (moved_members d ms)

  pub moved_elements : ℕ → Elements → Elements
  moved_elements d no_elements = no_elements
  moved_elements d (an_element n ns) = an_element (moved d n) (moved_elements d ns)

  pub moved_members : ℕ → Members → Members
  moved_members d no_members = no_members
  moved_members d (a_member s start end n ms) = a_member s (d + start) (d + end) (moved d n) (moved_members d ms)

mutual
  -- the value itself, or one inside it
  pub data IsPart (n : Placed) : Placed → Type 0 where
    itself : IsPart n n
    inside : {v : Tree} {start end : ℕ} → IsInside n v → IsPart n (placed v start end)

  pub data IsInside (n : Placed) : Tree → Type 0 where
    inside_array : {ns : Elements} → IsInElements n ns → IsInside n (an_array ns)
    inside_object : {ms : Members} → IsInMembers n ms → IsInside n (an_object ms)

  pub data IsInElements (n : Placed) : Elements → Type 0 where
    in_element : {p : Placed} {ns : Elements} → IsPart n p → IsInElements n (an_element p ns)
    in_later_element : {p : Placed} {ns : Elements} → IsInElements n ns → IsInElements n (an_element p ns)

  pub data IsInMembers (n : Placed) : Members → Type 0 where
    in_member : {s : List ℕ} {start end : ℕ} {p : Placed} {ms : Members} → IsPart n p →
        IsInMembers n (a_member s start end p ms)
    in_later_member : {s : List ℕ} {start end : ℕ} {p : Placed} {ms : Members} → IsInMembers n ms →
        IsInMembers n (a_member s start end p ms)

-- the slice of a part, read by itself, shows the part with its start taken off every offset
abbrev pub SlicesShow : Type 0
SlicesShow = (text : List ℕ) (root n : Placed) → Shows text root → IsPart n root →
    (m : Placed) × Shows (slice_range text (start_of n) (end_of n)) m × (moved (start_of n) m ≡ n)
