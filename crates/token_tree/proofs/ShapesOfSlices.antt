-- The shape of a value is decided by its file's name, its slice and where that starts.
use Rattle.std.proofs.Common.{◌≡◌, ℕ, ◌+◌, ◌≤◌, List, cond, Option, Some, None, option_map, refl, sym, ap, ap₂, ◌∙◌, subst, arith, codes}
use Rattle.std.specs.Prelude.{slice_range}
use Rattle.std.specs.FinMap as map
use Rattle.json_span.specs.Laws.{ShowsOne}
use Rattle.json_span.specs.Parts.{moved, moved_tree, moved_elements, moved_members, IsPart, itself, inside, IsInside, inside_array, inside_object, IsInElements, in_element, in_later_element, IsInMembers, in_member, in_later_member, SlicesShow}
use Rattle.json_span.specs.Reading.{Shows}
use Rattle.json_span.specs.Tree.{Tree, a_null, a_boolean, a_number, a_string, an_array, an_object, Placed, placed, Elements, no_elements, an_element, Members, no_members, a_member, entries_in, start_of, end_of, value_of_name}
use Rattle.json_span.proofs.InOrder.{InOrder, PartsInOrder, ElementsInOrder, MembersInOrder, value_in_order}
use Rattle.token_tree.specs.Laws.{OneShape}
use Rattle.token_tree.specs.Shape.{entries_at, extensions_of, slice_of, def_of, is_token, is_child, shape_breaks, shape_of, properties_of, put_children, child_of, group_of}
use Rattle.token_tree.specs.Tree.{a_token, a_group, group_with, Named}
use Rattle.token_tree.proofs.Keeps.{own_members, slice_again}
use Rattle.token_tree.proofs.Moved.{moved_start, moved_end}
use Rattle.token_tree.proofs.Places.{under_part}

-- Parts stand inside.

abbrev Within : Placed → ℕ → Type 0
Within p high = (start_of p ≤ end_of p) × (end_of p ≤ high)

own_within : (p : Placed) → InOrder p → Within p (end_of p)
own_within (placed v start end) o = (omega (arith, o.0), omega arith)

elements_below : (low high : ℕ) (ns : Elements) → ElementsInOrder low high ns → low ≤ high
elements_below low high no_elements o = o
elements_below low high (an_element (placed v start end) ns) o =
    omega (arith, o.0, o.1.0, elements_below end high ns o.2)

members_below : (low high : ℕ) (ms : Members) → MembersInOrder low high ms → low ≤ high
members_below low high no_members o = o
members_below low high (a_member s from to (placed v start end) ms) o =
    omega (arith, o.0, o.1, o.2.0, members_below end high ms o.3)

mutual
  part_within : {p n : Placed} → IsPart p n → InOrder n → Within p (end_of n)
  part_within {p} itself o = own_within p o
  part_within (inside {start = start} {end = end} i) o = inner_within start end i o.1

  inner_within : {p : Placed} {v : Tree} (low high : ℕ) → IsInside p v → PartsInOrder low high v → Within p high
  inner_within low high (inside_array i) o = element_within low high i o
  inner_within low high (inside_object i) o = member_within low high i o

  element_within : {p : Placed} {ns : Elements} (low high : ℕ) → IsInElements p ns → ElementsInOrder low high ns → Within p high
  element_within low high (in_element {p = n} {ns = ns} i) o =
      let w = part_within i o.1 in
      (w.0, omega (arith, w.1, elements_below (end_of n) high ns o.2))
  element_within low high (in_later_element {p = n} i) o = element_within (end_of n) high i o.2

  member_within : {p : Placed} {ms : Members} (low high : ℕ) → IsInMembers p ms → MembersInOrder low high ms → Within p high
  member_within low high (in_member {p = n} {ms = ms} i) o =
      let w = part_within i o.2 in
      (w.0, omega (arith, w.1, members_below (end_of n) high ms o.3))
  member_within low high (in_later_member {p = n} i) o = member_within (end_of n) high i o.3

-- A part of a value whose offsets are moved is a part of it, moved.

abbrev IsMovedFrom : ℕ → Placed → (Placed → Type 0) → Type 0
IsMovedFrom d p holds = (q : Placed) × holds q × (p ≡ moved d q)

mutual
  part_moved : (d : ℕ) {p : Placed} (n : Placed) → IsPart p (moved d n) → IsMovedFrom d p (λ q. IsPart q n)
  part_moved d (placed v start end) itself = (placed v start end, itself, refl)
  part_moved d (placed v start end) (inside i) = let (q, j, e) = inner_moved d v i in (q, inside j, e)

  inner_moved : (d : ℕ) {p : Placed} (v : Tree) → IsInside p (moved_tree d v) → IsMovedFrom d p (λ q. IsInside q v)
  inner_moved d a_null i = elim i [ ]
  inner_moved d (a_boolean b) i = elim i [ ]
  inner_moved d (a_number k) i = elim i [ ]
  inner_moved d (a_string s) i = elim i [ ]
  inner_moved d (an_array ns) (inside_array i) = let (q, j, e) = element_moved d ns i in (q, inside_array j, e)
  inner_moved d (an_object ms) (inside_object i) = let (q, j, e) = member_moved d ms i in (q, inside_object j, e)

  element_moved : (d : ℕ) {p : Placed} (ns : Elements) → IsInElements p (moved_elements d ns) → IsMovedFrom d p (λ q. IsInElements q ns)
  element_moved d no_elements i = elim i [ ]
  element_moved d (an_element n ns) (in_element i) = let (q, j, e) = part_moved d n i in (q, in_element j, e)
  element_moved d (an_element n ns) (in_later_element i) = let (q, j, e) = element_moved d ns i in (q, in_later_element j, e)

  member_moved : (d : ℕ) {p : Placed} (ms : Members) → IsInMembers p (moved_members d ms) → IsMovedFrom d p (λ q. IsInMembers q ms)
  member_moved d no_members i = elim i [ ]
  member_moved d (a_member s start end n ms) (in_member i) = let (q, j, e) = part_moved d n i in (q, in_member j, e)
  member_moved d (a_member s start end n ms) (in_later_member i) = let (q, j, e) = member_moved d ms i in (q, in_later_member j, e)

-- Where the slices of all parts are the same in two texts, so is what a value shows.

module _ (file text other : List ℕ) where
  abbrev IsSame : Placed → Type 0
  IsSame p = slice_of text p ≡ slice_of other p

  same_slice : (o : Option Placed) → ((p : Placed) → o ≡ Some p → IsSame p) → option_map (slice_of text) o ≡ option_map (slice_of other) o
  same_slice None each = refl
  same_slice (Some p) each = ap Some (each p refl)

  same_extensions : (n : Placed) → ((p : Placed) → IsPart p n → IsSame p) → extensions_of text (entries_at n) ≡ extensions_of other (entries_at n)
  same_extensions (placed a_null start end) each = refl
  same_extensions (placed (a_boolean b) start end) each = refl
  same_extensions (placed (a_number k) start end) each = refl
  same_extensions (placed (a_string s) start end) each = refl
  same_extensions (placed (an_array ns) start end) each = refl
  same_extensions (placed (an_object ms) start end) each =
      let n = placed (an_object ms) start end in
      same_slice (value_of_name (codes "$extensions") (entries_at n)) (λ p u. each p (under_part n (entries_at n) (codes "$extensions") p (own_members n ms refl) u))

  same_def : (n : Placed) → ((p : Placed) → IsPart p n → IsSame p) → def_of file text n ≡ def_of file other n
  same_def n each =
      let source = each n itself in
      let extensions = same_extensions n each in
      λ i. record (def_of file text n) { source = source i; extensions = extensions i }

  mutual
    same_children : (ms : Members) (cs : Named) → ((p : Placed) → IsInMembers p ms → IsSame p) → put_children file text ms cs ≡ put_children file other ms cs
    same_children no_members cs each = refl
    same_children (a_member name start end n ms) cs each =
        ap (λ c. put_children file text ms (cond (is_child name) (map.insert cs name c) cs)) (same_child n (λ p i. each p (in_member i)))
        ∙ same_children ms (cond (is_child name) (map.insert cs name (child_of file other n)) cs) (λ p i. each p (in_later_member i))

    same_child : (n : Placed) → ((p : Placed) → IsPart p n → IsSame p) → child_of file text n ≡ child_of file other n
    same_child (placed v start end) each =
        ap₂ (λ d g. cond (is_token (placed v start end)) (a_token d) (a_group g)) (same_def (placed v start end) each) (same_group v (λ p i. each p (inside i)))

    same_group : (v : Tree) → ((p : Placed) → IsInside p v → IsSame p) → group_of file text v ≡ group_of file other v
    same_group a_null each = refl
    same_group (a_boolean b) each = refl
    same_group (a_number k) each = refl
    same_group (a_string s) each = refl
    same_group (an_array ns) each = refl
    same_group (an_object ms) each = ap (group_with (properties_of file (entries_in ms))) (same_children ms map.empty (λ p i. each p (inside_object i)))

  same_shape : (n : Placed) → ((p : Placed) → IsPart p n → IsSame p) → shape_of file text n ≡ shape_of file other n
  unfolding shape_of
  same_shape (placed v start end) each = same_group v (λ p i. each p (inside i))

-- The slice of a part is a slice of the whole's slice.

shown_below : (s : List ℕ) (m q : Placed) → Shows s m → IsPart q m → Within q (end_of m)
shown_below s m q (t, u, blanks, value, after) i = part_within i (value_in_order value)

part_slice : (text s : List ℕ) (a b : ℕ) (m q : Placed) → slice_range text a b ≡ s → b ≡ a + end_of m → Shows s m → IsPart q m
    → slice_of text (moved a q) ≡ slice_range s (start_of q) (end_of q)
part_slice text s a b m q cut last shown i =
    let w = shown_below s m q shown i in
    ap₂ (slice_range text) (moved_start a q) (moved_end a q)
    ∙ (sym (slice_again text a b (start_of q) (end_of q) w.0 (omega (arith, last, w.1)))
    ∙ ap (λ z. slice_range z (start_of q) (end_of q)) cut)

-- a value that its slice shows by itself, with its offsets moved
record Alone (text s : List ℕ) (a : ℕ) (n m : Placed) : Type 0 where
  shown : Shows s m
  cut : slice_range text a (end_of n) ≡ s
  is_moved : moved a m ≡ n

parts_same : (text other s : List ℕ) (a : ℕ) (n m : Placed) → Alone text s a n m → Alone other s a n m → (p : Placed) → IsPart p n → slice_of text p ≡ slice_of other p
parts_same text other s a n m x y p i =
    let (q, j, e) = part_moved a m (subst (IsPart p) (sym x.is_moved) i) in
    let last : end_of n ≡ a + end_of m = ap end_of (sym x.is_moved) ∙ moved_end a m in
    ap (slice_of text) e
    ∙ (part_slice text s a (end_of n) m q x.cut last x.shown j
    ∙ (sym (part_slice other s a (end_of n) m q y.cut last y.shown j)
    ∙ ap (slice_of other) (sym e)))

pub one_shape : SlicesShow → ShowsOne → OneShape
one_shape slices one file text other n m i j cut start =
    let (x, shown, is) = slices text i.root n i.shown i.part in
    let (y, shown_too, is_too) = slices other j.root m j.shown j.part in
    let s = slice_of other m in
    let here : Shows s x = subst (λ z. Shows z x) cut shown in
    let alone : x ≡ y = one s x y here shown_too in
    let same : n ≡ m = sym is ∙ (ap₂ moved start alone ∙ is_too) in
    let first : Alone text s (start_of n) n x = record { shown = here; cut = cut; is_moved = is } in
    let second : Alone other s (start_of n) n x = record {
      shown = here;
      cut = ap (slice_of other) same;
      is_moved = is;
    } in
    (ap shape_breaks same, same_shape file text other n (parts_same text other s (start_of n) n x first second) ∙ ap (shape_of file other) same)
