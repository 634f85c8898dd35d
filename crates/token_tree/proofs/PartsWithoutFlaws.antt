-- A part of a value without a flaw has none, and neither has the part with its offsets moved.
use Rattle.std.proofs.Common.{◌≡◌, ℕ, zero, suc, ◌+◌, Bool, true, false, List, [], ◌∷◌, Option, Some, None, refl, ap, ◌∙◌, cond}
use Rattle.json_span.specs.Tree.{Tree, a_null, a_boolean, a_number, a_string, an_array, an_object, Placed, placed, Elements, no_elements, an_element, Members, no_members, a_member}
use Rattle.json_span.specs.Flaw.{Flaw, equal_names, or_else, is_seen, flaw_in, flaw_at, flaw_in_elements, flaw_in_members}
use Rattle.json_span.specs.Parts.{moved, moved_tree, moved_elements, moved_members, IsPart, itself, inside, IsInside, inside_array, inside_object, IsInElements, in_element, in_later_element, IsInMembers, in_member, in_later_member}

left_none : (a b : Option Flaw) → or_else a b ≡ None → a ≡ None
left_none None b e = refl
left_none (Some x) b e = cc

pub right_none : (a b : Option Flaw) → or_else a b ≡ None → b ≡ None
right_none None b e = e
right_none (Some x) b e = cc

both_none : (a b : Option Flaw) → a ≡ None → b ≡ None → or_else a b ≡ None
both_none a b p q = ap (λ x. or_else x b) p ∙ q

-- a name is not seen before, and what follows has no flaw
pub not_seen : (t : Bool) (f : Flaw) (o : Option Flaw) → cond t (Some f) o ≡ None → t ≡ false
not_seen true f o e = cc
not_seen false f o e = refl

pub rest_none : (t : Bool) (f : Flaw) (o : Option Flaw) → cond t (Some f) o ≡ None → o ≡ None
rest_none true f o e = cc
rest_none false f o e = e

new_none : (t : Bool) (f : Flaw) (o : Option Flaw) → t ≡ false → o ≡ None → cond t (Some f) o ≡ None
new_none t f o p q = ap (λ x. cond x (Some f) o) p ∙ q

-- with more room
mutual
  roomy : (r : ℕ) (n : Placed) → flaw_in r n ≡ None → flaw_in (suc r) n ≡ None
  roomy r (placed v start end) e = roomy_tree r start v e

  roomy_tree : (r start : ℕ) (v : Tree) → flaw_at r start v ≡ None → flaw_at (suc r) start v ≡ None
  roomy_tree r start a_null e = refl
  roomy_tree r start (a_boolean b) e = refl
  roomy_tree r start (a_number k) e = refl
  roomy_tree r start (a_string s) e = refl
  roomy_tree zero start (an_array ns) e = cc
  roomy_tree (suc r) start (an_array ns) e = roomy_elements r ns e
  roomy_tree zero start (an_object ms) e = cc
  roomy_tree (suc r) start (an_object ms) e = roomy_members r [] ms e

  roomy_elements : (r : ℕ) (ns : Elements) → flaw_in_elements r ns ≡ None → flaw_in_elements (suc r) ns ≡ None
  roomy_elements r no_elements e = refl
  roomy_elements r (an_element n ns) e = both_none _ _ (roomy r n (left_none _ (flaw_in_elements r ns) e)) (roomy_elements r ns (right_none (flaw_in r n) _ e))

  roomy_members : (r : ℕ) (names : List (List ℕ)) (ms : Members) → flaw_in_members r names ms ≡ None → flaw_in_members (suc r) names ms ≡ None
  roomy_members r names no_members e = refl
  roomy_members r names (a_member s start end n ms) e =
      let o = or_else (flaw_in r n) (flaw_in_members r (s ∷ names) ms) in
      let f = equal_names start end in
      let k : o ≡ None = rest_none (is_seen names s) f o e in
      new_none (is_seen names s) f _ (not_seen (is_seen names s) f o e)
      (both_none _ _ (roomy r n (left_none _ (flaw_in_members r (s ∷ names) ms) k)) (roomy_members r (s ∷ names) ms (right_none (flaw_in r n) _ k)))

mutual
  pub part_flawless : {n p : Placed} (r : ℕ) → IsPart n p → flaw_in r p ≡ None → flaw_in r n ≡ None
  part_flawless r itself e = e
  part_flawless r (inside {start = start} i) e = tree_flawless r start i e

  tree_flawless : {n : Placed} {v : Tree} (r start : ℕ) → IsInside n v → flaw_at r start v ≡ None → flaw_in r n ≡ None
  tree_flawless zero start (inside_array i) e = absurd (cc)
  tree_flawless {n} (suc r) start (inside_array {ns = ns} i) e = roomy r n (elements_flawless r ns i e)
  tree_flawless zero start (inside_object i) e = absurd (cc)
  tree_flawless {n} (suc r) start (inside_object {ms = ms} i) e = roomy r n (members_flawless r [] ms i e)

  elements_flawless : {n : Placed} (r : ℕ) (ns : Elements) → IsInElements n ns → flaw_in_elements r ns ≡ None → flaw_in r n ≡ None
  elements_flawless r no_elements i e = elim i [ ]
  elements_flawless r (an_element p ns) (in_element i) e = part_flawless r i (left_none _ (flaw_in_elements r ns) e)
  elements_flawless r (an_element p ns) (in_later_element i) e = elements_flawless r ns i (right_none (flaw_in r p) _ e)

  members_flawless : {n : Placed} (r : ℕ) (names : List (List ℕ)) (ms : Members) → IsInMembers n ms → flaw_in_members r names ms ≡ None → flaw_in r n ≡ None
  members_flawless r names no_members i e = elim i [ ]
  members_flawless r names (a_member s start end p ms) (in_member i) e =
      part_flawless r i (left_none _ (flaw_in_members r (s ∷ names) ms) (rest_none (is_seen names s) (equal_names start end) _ e))
  members_flawless r names (a_member s start end p ms) (in_later_member i) e =
      members_flawless r (s ∷ names) ms i (right_none (flaw_in r p) _ (rest_none (is_seen names s) (equal_names start end) _ e))

mutual
  pub unmoved : (d r : ℕ) (n : Placed) → flaw_in r (moved d n) ≡ None → flaw_in r n ≡ None
  unmoved d r (placed v start end) e = unmoved_tree d r start v e

  unmoved_tree : (d r start : ℕ) (v : Tree) → flaw_at r (d + start) (moved_tree d v) ≡ None → flaw_at r start v ≡ None
  unmoved_tree d r start a_null e = refl
  unmoved_tree d r start (a_boolean b) e = refl
  unmoved_tree d r start (a_number k) e = refl
  unmoved_tree d r start (a_string s) e = refl
  unmoved_tree d zero start (an_array ns) e = cc
  unmoved_tree d (suc r) start (an_array ns) e = unmoved_elements d r ns e
  unmoved_tree d zero start (an_object ms) e = cc
  unmoved_tree d (suc r) start (an_object ms) e = unmoved_members d r [] ms e

  unmoved_elements : (d r : ℕ) (ns : Elements) → flaw_in_elements r (moved_elements d ns) ≡ None → flaw_in_elements r ns ≡ None
  unmoved_elements d r no_elements e = refl
  unmoved_elements d r (an_element n ns) e =
      both_none _ _ (unmoved d r n (left_none _ (flaw_in_elements r (moved_elements d ns)) e)) (unmoved_elements d r ns (right_none (flaw_in r (moved d n)) _ e))

  unmoved_members : (d r : ℕ) (names : List (List ℕ)) (ms : Members) → flaw_in_members r names (moved_members d ms) ≡ None → flaw_in_members r names ms ≡ None
  unmoved_members d r names no_members e = refl
  unmoved_members d r names (a_member s start end n ms) e =
      let o = or_else (flaw_in r (moved d n)) (flaw_in_members r (s ∷ names) (moved_members d ms)) in
      let f = equal_names (d + start) (d + end) in
      let k : o ≡ None = rest_none (is_seen names s) f o e in
      new_none (is_seen names s) (equal_names start end) _ (not_seen (is_seen names s) f o e)
      (both_none _ _ (unmoved d r n (left_none _ (flaw_in_members r (s ∷ names) (moved_members d ms)) k)) (unmoved_members d r (s ∷ names) ms (right_none (flaw_in r (moved d n)) _ k)))
