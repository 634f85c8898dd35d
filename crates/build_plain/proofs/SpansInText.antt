-- Each part of what a text shows has a span in the text.
use Rattle.std.proofs.Common.{◌≡◌, ◌⊎◌, ℕ, zero, suc, ◌+◌, ◌<◌, ◌≤◌, Bool, true, false, List, [], ◌∷◌, Option, Some, None, length, unwrap_or, if◌then◌else◌, inl, inr, refl, sym, ap, subst, arith}
use Rattle.std.specs.Str.{bytes_eq}
use Rattle.grammar.proofs.Steps.{no_longer}
use Rattle.json_span.specs.Flaw.{Flaw, equal_names, too_deep, most_open}
use Rattle.json_span.specs.FlawLaws.{IsElementOf, this_one, later_one, IsMemberOf, this_member, later_member, IsSecond, behind_first, behind_other, IsAtDepth, the_root, below_array, below_object, IsFlaw, second_name, opens_too_deep}
use Rattle.json_span.specs.Parts.{moved, moved_tree, moved_elements, moved_members, IsPart, itself, inside, IsInside, inside_array, inside_object, IsInElements, in_element, in_later_element, IsInMembers, in_member, in_later_member}
use Rattle.json_span.specs.Reading.{ValueAt, with_span, Shape, null_shape, false_shape, true_shape, number_shape, string_shape, array_shape, object_shape, ElementsAt, no_element, first_element, MoreElements, last_element, next_element, member_at, MembersAt, no_member, first_member, MoreMembers, last_member, next_member, Shows}
use Rattle.json_span.specs.Tree.{Tree, a_null, a_boolean, a_number, a_string, an_array, an_object, Placed, placed, Elements, no_elements, an_element, Members, no_members, a_member, Entry, tree_of, start_of, end_of, array_in, object_in, elements_in, entries_in, value_of_name}
use Rattle.json_span.proofs.InOrder.{value_in_order}
use Rattle.ring.specs.Lists.{In}
use Rattle.resolver_doc.specs.Document.{elements_at}
use Rattle.resolver_doc.specs.Form.{entries_at}

-- the span rises, and stands between these offsets
pub record IsWithin (low high start end : ℕ) : Type 0 where
  pub low_is : low ≤ start
  pub rises : start ≤ end
  pub high_is : end ≤ high

-- those of a value and of all its parts do
abbrev mutual
  pub SpansIn : ℕ → ℕ → Placed → Type 0
  SpansIn low high (placed v start end) = (low ≤ start) × (start < end) × (end ≤ high) × PartsIn low high v

  pub PartsIn : ℕ → ℕ → Tree → Type 0
  PartsIn low high a_null = Unit {0}
  PartsIn low high (a_boolean b) = Unit {0}
  PartsIn low high (a_number k) = Unit {0}
  PartsIn low high (a_string s) = Unit {0}
  PartsIn low high (an_array ns) = ElementsIn low high ns
  PartsIn low high (an_object ms) = MembersIn low high ms

  pub ElementsIn : ℕ → ℕ → Elements → Type 0
  ElementsIn low high no_elements = Unit {0}
  ElementsIn low high (an_element n ns) = SpansIn low high n × ElementsIn low high ns

  pub MembersIn : ℕ → ℕ → Members → Type 0
  MembersIn low high no_members = Unit {0}
  MembersIn low high (a_member s start end n ms) = IsWithin low high start end × SpansIn low high n × MembersIn low high ms

mutual
  value_in : {total : ℕ} {t u : List ℕ} {n : Placed} → ValueAt total t n u → SpansIn 0 total n
  value_in (with_span s p q) =
      (omega arith, (value_in_order (with_span s p q)).0, omega (arith, q), shape_in s)

  shape_in : {total : ℕ} {t u : List ℕ} {v : Tree} → Shape total t v u → PartsIn 0 total v
  shape_in (null_shape x) = tt
  shape_in (false_shape x) = tt
  shape_in (true_shape x) = tt
  shape_in (number_shape x e) = tt
  shape_in (string_shape x) = tt
  shape_in (array_shape x y) = elements_of y
  shape_in (object_shape x y) = members_of y

  elements_of : {total : ℕ} {t u : List ℕ} {ns : Elements} → ElementsAt total t ns u → ElementsIn 0 total ns
  elements_of (no_element x) = tt
  elements_of (first_element v b m) = (value_in v, more_elements m)

  more_elements : {total : ℕ} {t u : List ℕ} {ns : Elements} → MoreElements total t ns u → ElementsIn 0 total ns
  more_elements (last_element x) = tt
  more_elements (next_element x v b m) = (value_in v, more_elements m)

  members_of : {total : ℕ} {t u : List ℕ} {ms : Members} → MembersAt total t ms u → MembersIn 0 total ms
  members_of (no_member x) = tt
  members_of (first_member (member_at q p r a c v) b m) =
      (record { low_is = omega arith; rises = omega (arith, p, r, no_longer q.reads); high_is = omega (arith, r) }, value_in v, more_members m)

  more_members : {total : ℕ} {t u : List ℕ} {ms : Members} → MoreMembers total t ms u → MembersIn 0 total ms
  more_members (last_member x) = tt
  more_members (next_member x (member_at q p r a c v) b m) =
      (record { low_is = omega arith; rises = omega (arith, p, r, no_longer q.reads); high_is = omega (arith, r) }, value_in v, more_members m)

pub shown_in : (text : List ℕ) (n : Placed) → Shows text n → SpansIn 0 (length text) n
shown_in text n (t, m, before, v, after) = value_in v

-- with so much added to every offset
mutual
  pub moved_in : (d low high : ℕ) (n : Placed) → SpansIn low high n → SpansIn (d + low) (d + high) (moved d n)
  moved_in d low high (placed v start end) s = (omega (arith, s.0), omega (arith, s.1), omega (arith, s.2), moved_parts d low high v s.3)

  moved_parts : (d low high : ℕ) (v : Tree) → PartsIn low high v → PartsIn (d + low) (d + high) (moved_tree d v)
  moved_parts d low high a_null s = tt
  moved_parts d low high (a_boolean b) s = tt
  moved_parts d low high (a_number k) s = tt
  moved_parts d low high (a_string t) s = tt
  moved_parts d low high (an_array ns) s = moved_elements_in d low high ns s
  moved_parts d low high (an_object ms) s = moved_members_in d low high ms s

  moved_elements_in : (d low high : ℕ) (ns : Elements) → ElementsIn low high ns → ElementsIn (d + low) (d + high) (moved_elements d ns)
  moved_elements_in d low high no_elements s = tt
  moved_elements_in d low high (an_element n ns) s = (moved_in d low high n s.0, moved_elements_in d low high ns s.1)

  moved_members_in : (d low high : ℕ) (ms : Members) → MembersIn low high ms → MembersIn (d + low) (d + high) (moved_members d ms)
  moved_members_in d low high no_members s = tt
  moved_members_in d low high (a_member name start end n ms) s =
      let w = s.0 in
      let a = w.low_is in
      let b = w.rises in
      let c = w.high_is in
      (record { low_is = omega (arith, a); rises = omega (arith, b); high_is = omega (arith, c) }, moved_in d low high n s.1, moved_members_in d low high ms s.2)

module _ (low high : ℕ) where
  pub span_within : (n : Placed) → SpansIn low high n → IsWithin low high (start_of n) (end_of n)
  span_within (placed v start end) s = (let rises = s.1 in record { low_is = s.0; rises = omega (arith, rises); high_is = s.2 })

  -- parts
  mutual
    pub part_in : {n p : Placed} → IsPart n p → SpansIn low high p → SpansIn low high n
    part_in itself s = s
    part_in (inside i) s = inside_in i s.3

    inside_in : {n : Placed} {v : Tree} → IsInside n v → PartsIn low high v → SpansIn low high n
    inside_in (inside_array i) s = in_elements i s
    inside_in (inside_object i) s = in_members i s

    in_elements : {n : Placed} {ns : Elements} → IsInElements n ns → ElementsIn low high ns → SpansIn low high n
    in_elements (in_element p) s = part_in p s.0
    in_elements (in_later_element i) s = in_elements i s.1

    in_members : {n : Placed} {ms : Members} → IsInMembers n ms → MembersIn low high ms → SpansIn low high n
    in_members (in_member p) s = part_in p s.1
    in_members (in_later_member i) s = in_members i s.2

  -- a member's name and its value
  pub record EntryIn (e : Entry) : Type 0 where
    pub name_in : IsWithin low high e.start e.end
    pub value : SpansIn low high e.value

  abbrev pub AllIn : List Entry → Type 0
  AllIn es = (e : Entry) → In e es → EntryIn e

  pub entries_all : (ms : Members) → MembersIn low high ms → AllIn (entries_in ms)
  entries_all no_members s e i = absurd i
  entries_all (a_member name start end n ms) s e (inl same) = subst EntryIn (sym same) (record { name_in = s.0; value = s.1 })
  entries_all (a_member name start end n ms) s e (inr i) = entries_all ms s.2 e i

  pub at_entries : (n : Placed) → SpansIn low high n → AllIn (entries_at n)
  at_entries (placed a_null start end) s e i = absurd i
  at_entries (placed (a_boolean b) start end) s e i = absurd i
  at_entries (placed (a_number k) start end) s e i = absurd i
  at_entries (placed (a_string t) start end) s e i = absurd i
  at_entries (placed (an_array ns) start end) s e i = absurd i
  at_entries (placed (an_object ms) start end) s e i = entries_all ms s.3 e i

  pub elements_all : (ns : Elements) → ElementsIn low high ns → (m : Placed) → In m (elements_in ns) → SpansIn low high m
  elements_all no_elements s m i = absurd i
  elements_all (an_element n ns) s m (inl same) = subst (SpansIn low high) (sym same) s.0
  elements_all (an_element n ns) s m (inr i) = elements_all ns s.1 m i

  pub at_elements : (n : Placed) → SpansIn low high n → (m : Placed) → In m (elements_at n) → SpansIn low high m
  at_elements (placed a_null start end) s m i = absurd i
  at_elements (placed (a_boolean b) start end) s m i = absurd i
  at_elements (placed (a_number k) start end) s m i = absurd i
  at_elements (placed (a_string t) start end) s m i = absurd i
  at_elements (placed (an_array ns) start end) s m i = elements_all ns s.3 m i
  at_elements (placed (an_object ms) start end) s m i = absurd i

  pub under_name : (name : List ℕ) (es : List Entry) (n : Placed) → AllIn es → value_of_name name es ≡ Some n → SpansIn low high n
  under_name name [] n all e = cc
  under_name name (x ∷ xs) n all e = go (bytes_eq x.name name) (under_name name xs n (λ y i. all y (inr i))) e
    where
      go : (t : Bool) → (value_of_name name xs ≡ Some n → SpansIn low high n) → (if t then Some x.value else value_of_name name xs) ≡ Some n → SpansIn low high n
      go true later k = (let same : x.value ≡ n = cc in subst (SpansIn low high) same (all x (inl refl)).value)
      go false later k = later k

  -- flaws
  element_of : {n : Placed} {ns : Elements} → IsElementOf n ns → ElementsIn low high ns → SpansIn low high n
  element_of this_one s = s.0
  element_of (later_one i) s = element_of i s.1

  member_of : {e : Entry} {ms : Members} → IsMemberOf e ms → MembersIn low high ms → EntryIn e
  member_of this_member s = record { name_in = s.0; value = s.1 }
  member_of (later_member i) s = member_of i s.2

  second_of : {e : Entry} {ms : Members} → IsSecond e ms → MembersIn low high ms → EntryIn e
  second_of (behind_first i same) s = member_of i s.2
  second_of (behind_other i) s = second_of i s.2

  at_depth : {p root : Placed} {depth : ℕ} → IsAtDepth p depth root → SpansIn low high root → SpansIn low high p
  at_depth the_root s = s
  at_depth (below_array i w) s = at_depth w (element_of i s.3)
  at_depth (below_object i w) s = at_depth w (member_of i s.3).value

  -- where a flaw is told
  abbrev pub FlawIn : Flaw → Type 0
  FlawIn (equal_names start end) = IsWithin low high start end
  FlawIn (too_deep start end) = IsWithin low high start end

  pub flaw_in : {most : ℕ} {root : Placed} {f : Flaw} → IsFlaw most root f → SpansIn low high root → FlawIn f
  flaw_in (second_name w i) s = (second_of i (at_depth w s).3).name_in
  flaw_in (opens_too_deep w l) s = (let x = at_depth w s in let a = x.0 in let b = x.1 in let c = x.2 in record { low_is = a; rises = omega arith; high_is = omega (arith, b, c) })
