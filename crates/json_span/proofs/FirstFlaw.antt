-- The first flaw of a value is the one that starts first.
use Rattle.std.proofs.Common.{◌≡◌, ℕ, zero, suc, ◌<◌, ◌≤◌, ◌||◌, List, [], ◌∷◌, Bool, true, false, cond, Option, Some, None, refl, subst, arith, ◌⊎◌, inl, inr}
use Rattle.std.specs.Str.{bytes_eq}
use Rattle.std.proofs.lemmas.Slice.Eq.{bytes_eq-Decides}
use Rattle.json_span.specs.Tree.{Tree, a_null, a_boolean, a_number, a_string, an_array, an_object, Placed, placed, Elements, no_elements, an_element, Members, no_members, a_member, Entry, start_of, end_of}
use Rattle.json_span.specs.Flaw.{Flaw, equal_names, or_else, is_seen, flaw_in, flaw_at, flaw_in_elements, flaw_in_members, most_open, first_flaw}
use Rattle.json_span.specs.FlawLaws.{IsElementOf, this_one, later_one, IsMemberOf, this_member, later_member, IsSecond, behind_first, behind_other, IsAtDepth, the_root, below_array, below_object, is_list, IsFlaw, second_name, opens_too_deep, flaw_start, FirstIsLeast, NoneIsNone}
use Rattle.json_span.proofs.InOrder.{InOrder, ElementsInOrder, MembersInOrder, shown_in_order}

-- the same of lists, one after another; the names stand before
data InElements (room : ℕ) : Elements → Flaw → Type 0 where
  this_value : {n : Placed} {ns : Elements} {g : Flaw} → IsFlaw room n g → InElements room (an_element n ns) g
  later_value : {n : Placed} {ns : Elements} {g : Flaw} → InElements room ns g → InElements room (an_element n ns) g

data InMembers (room : ℕ) : List (List ℕ) → Members → Flaw → Type 0 where
  this_name : {names : List (List ℕ)} {s : List ℕ} {start end : ℕ} {n : Placed} {ms : Members} → is_seen names s ≡ true → InMembers room names (a_member s start end n ms) (equal_names start end)
  of_this : {names : List (List ℕ)} {s : List ℕ} {start end : ℕ} {n : Placed} {ms : Members} {g : Flaw} → IsFlaw room n g → InMembers room names (a_member s start end n ms) g
  of_later : {names : List (List ℕ)} {s : List ℕ} {start end : ℕ} {n : Placed} {ms : Members} {g : Flaw} → InMembers room (s ∷ names) ms g → InMembers room names (a_member s start end n ms) g

-- the flaws of lists are those of their parts
of_element : (room : ℕ) (n : Placed) (ns : Elements) (g : Flaw) → IsElementOf n ns → IsFlaw room n g → InElements room ns g
of_element room n _ g this_one x = this_value x
of_element room n (an_element m ns) g (later_one i) x = later_value (of_element room n ns g i x)

of_member : (room : ℕ) (e : Entry) (names : List (List ℕ)) (ms : Members) (g : Flaw) → IsMemberOf e ms → IsFlaw room e.value g → InMembers room names ms g
of_member room e names _ g this_member x = of_this x
of_member room e names (a_member s start end n ms) g (later_member i) x = of_later (of_member room e (s ∷ names) ms g i x)

or_true : (a b : Bool) → b ≡ true → (a || b) ≡ true
or_true true b e = refl
or_true false b e = e

or_first : (a b : Bool) → a ≡ true → (a || b) ≡ true
or_first true b e = refl
or_first false b e = cc

or_either : (a b : Bool) → (a || b) ≡ true → (a ≡ true) ⊎ (b ≡ true)
or_either true b e = inl refl
or_either false b e = inr e

of_seen : (room : ℕ) (e : Entry) (names : List (List ℕ)) (ms : Members) → IsMemberOf e ms → is_seen names e.name ≡ true → InMembers room names ms (equal_names e.start e.end)
of_seen room e names _ this_member h = this_name h
of_seen room e names (a_member s start end n ms) (later_member i) h = of_later (of_seen room e (s ∷ names) ms i (or_true (bytes_eq s e.name) (is_seen names e.name) h))

of_second : (room : ℕ) (e : Entry) (names : List (List ℕ)) (ms : Members) → IsSecond e ms → InMembers room names ms (equal_names e.start e.end)
of_second room e names no_members x = elim x [ ]
of_second room e names (a_member s start end n ms) (behind_first i same) = of_later (of_seen room e (s ∷ names) ms i (or_first (bytes_eq s e.name) (is_seen names e.name) ((bytes_eq-Decides s e.name).1 same)))
of_second room e names (a_member s start end n ms) (behind_other i) = of_later (of_second room e (s ∷ names) ms i)

array_down : (room : ℕ) (ns : Elements) (start end : ℕ) (g : Flaw) → IsFlaw (suc room) (placed (an_array ns) start end) g → InElements room ns g
array_down room ns start end _ (second_name (below_array {n = n} i w) s) = of_element room n ns _ i (second_name w s)
array_down room ns start end _ (opens_too_deep (below_array {n = n} i w) l) = of_element room n ns _ i (opens_too_deep w l)

object_down : (room : ℕ) (ms : Members) (start end : ℕ) (g : Flaw) → IsFlaw (suc room) (placed (an_object ms) start end) g → InMembers room [] ms g
object_down room ms start end _ (second_name {e = e} the_root s) = of_second room e [] ms s
object_down room ms start end _ (second_name (below_object {e = e} i w) s) = of_member room e [] ms _ i (second_name w s)
object_down room ms start end _ (opens_too_deep (below_object {e = e} i w) l) = of_member room e [] ms _ i (opens_too_deep w l)

array_step : (room : ℕ) (n : Placed) (ns : Elements) (start end : ℕ) (g : Flaw) → IsElementOf n ns → IsFlaw room n g → IsFlaw (suc room) (placed (an_array ns) start end) g
array_step room n ns start end _ i (second_name w s) = second_name (below_array i w) s
array_step room n ns start end _ i (opens_too_deep w l) = opens_too_deep (below_array i w) l

object_step : (room : ℕ) (e : Entry) (ms : Members) (start end : ℕ) (g : Flaw) → IsMemberOf e ms → IsFlaw room e.value g → IsFlaw (suc room) (placed (an_object ms) start end) g
object_step room e ms start end _ i (second_name w s) = second_name (below_object i w) s
object_step room e ms start end _ i (opens_too_deep w l) = opens_too_deep (below_object i w) l

element_of : (room : ℕ) (ns : Elements) (g : Flaw) → InElements room ns g → (n : Placed) × IsElementOf n ns × IsFlaw room n g
element_of room no_elements g x = elim x [ ]
element_of room (an_element n ns) g (this_value x) = (n, this_one, x)
element_of room (an_element m ns) g (later_value x) = let (n, i, y) = element_of room ns g x in (n, later_one i, y)

array_up : (room : ℕ) (ns : Elements) (start end : ℕ) (g : Flaw) → InElements room ns g → IsFlaw (suc room) (placed (an_array ns) start end) g
array_up room ns start end g x = let (n, i, y) = element_of room ns g x in array_step room n ns start end g i y

-- a second name, one of those that stand before, or a flaw of a value
data Found (room : ℕ) (names : List (List ℕ)) (ms : Members) : Flaw → Type 0 where
  again : {e : Entry} → IsSecond e ms → Found room names ms (equal_names e.start e.end)
  before : {e : Entry} → IsMemberOf e ms → is_seen names e.name ≡ true → Found room names ms (equal_names e.start e.end)
  of_value : {e : Entry} {g : Flaw} → IsMemberOf e ms → IsFlaw room e.value g → Found room names ms g

found_later : (room : ℕ) (names : List (List ℕ)) (s : List ℕ) (start end : ℕ) (n : Placed) (ms : Members) (g : Flaw) → Found room (s ∷ names) ms g → Found room names (a_member s start end n ms) g
found_later room names s start end n ms _ (again i) = again (behind_other i)
found_later room names s start end n ms _ (before {e = e} i h) = elim (or_either (bytes_eq s e.name) (is_seen names e.name) h) as (λ _. Found room names (a_member s start end n ms) (equal_names e.start e.end)) [ inl t ↦ again (behind_first i ((bytes_eq-Decides s e.name).0 t)) | inr t ↦ before (later_member i) t ]
found_later room names s start end n ms g (of_value i x) = of_value (later_member i) x

found : (room : ℕ) (names : List (List ℕ)) (ms : Members) (g : Flaw) → InMembers room names ms g → Found room names ms g
found room names no_members g x = elim x [ ]
found room names (a_member s start end n ms) _ (this_name h) = before {e = record { name = s; start = start; end = end; value = n }} this_member h
found room names (a_member s start end n ms) g (of_this x) = of_value {e = record { name = s; start = start; end = end; value = n }} this_member x
found room names (a_member s start end n ms) g (of_later x) = found_later room names s start end n ms g (found room (s ∷ names) ms g x)

no_name_yet : (s : List ℕ) → is_seen [] s ≡ true → ⊥
no_name_yet s e = cc

found_up : (room : ℕ) (ms : Members) (start end : ℕ) (g : Flaw) → Found room [] ms g → IsFlaw (suc room) (placed (an_object ms) start end) g
found_up room ms start end _ (again i) = second_name the_root i
found_up room ms start end _ (before {e = e} i h) = absurd (no_name_yet e.name h)
found_up room ms start end g (of_value {e = e} i x) = object_step room e ms start end g i x

object_up : (room : ℕ) (ms : Members) (start end : ℕ) (g : Flaw) → InMembers room [] ms g → IsFlaw (suc room) (placed (an_object ms) start end) g
object_up room ms start end g x = found_up room ms start end g (found room [] ms g x)

-- a flaw stands within its value
abbrev Inside : ℕ → ℕ → Flaw → Type 0
Inside low high g = (low ≤ flaw_start g) × (flaw_start g < high)

positive : (n : Placed) → InOrder n → start_of n < end_of n
positive (placed v start end) o = o.0

elements_reach : (low high : ℕ) (ns : Elements) → ElementsInOrder low high ns → low ≤ high
elements_reach low high no_elements o = o
elements_reach low high (an_element n ns) o = omega (arith, o.0, positive n o.1, elements_reach (end_of n) high ns o.2)

members_reach : (low high : ℕ) (ms : Members) → MembersInOrder low high ms → low ≤ high
members_reach low high no_members o = o
members_reach low high (a_member s start end n ms) o = omega (arith, o.0, o.1, positive n o.2, members_reach (end_of n) high ms o.3)

element_inside : (low high : ℕ) (n : Placed) (ns : Elements) → ElementsInOrder low high ns → IsElementOf n ns → (low ≤ start_of n) × (end_of n ≤ high) × InOrder n
element_inside low high n no_elements o i = elim i [ ]
element_inside low high n _ o (this_one {ns = ns}) = (o.0, elements_reach (end_of n) high ns o.2, o.1)
element_inside low high n (an_element m ns) o (later_one i) = let x = element_inside (end_of m) high n ns o.2 i in (omega (arith, o.0, positive m o.1, x.0), x.1, x.2)

member_inside : (low high : ℕ) (e : Entry) (ms : Members) → MembersInOrder low high ms → IsMemberOf e ms → (low ≤ e.start) × (e.start ≤ start_of e.value) × (end_of e.value ≤ high) × InOrder e.value
member_inside low high e no_members o i = elim i [ ]
member_inside low high e (a_member s start end n ms) o this_member = (o.0, o.1, members_reach (end_of e.value) high ms o.3, o.2)
member_inside low high e (a_member s start end n ms) o (later_member i) = let x = member_inside (end_of n) high e ms o.3 i in (omega (arith, o.0, o.1, positive n o.2, x.0), x.1, x.2, x.3)

second_member : (e : Entry) (ms : Members) → IsSecond e ms → IsMemberOf e ms
second_member e no_members i = elim i [ ]
second_member e (a_member s start end n ms) (behind_first i same) = later_member i
second_member e (a_member s start end n ms) (behind_other i) = later_member (second_member e ms i)

within_inside : {p root : Placed} {depth : ℕ} → IsAtDepth p depth root → InOrder root → (start_of root ≤ start_of p) × (end_of p ≤ end_of root) × InOrder p
within_inside the_root o = (omega arith, omega arith, o)
within_inside (below_array {start = start} {end = end} {n = n} {ns = ns} i w) o =
    let x = element_inside start end n ns o.1 i in
    let y = within_inside w x.2 in
    (omega (arith, x.0, y.0), omega (arith, x.1, y.1), y.2)
within_inside (below_object {start = start} {end = end} {e = e} {ms = ms} i w) o =
    let x = member_inside start end e ms o.1 i in
    let y = within_inside w x.3 in
    (omega (arith, x.0, x.1, y.0), omega (arith, x.2, y.1), y.2)

flaw_inside : (room : ℕ) (root : Placed) → InOrder root → (g : Flaw) → IsFlaw room root g → Inside (start_of root) (end_of root) g
flaw_inside room root o _ (second_name {start = start} {end = end} {e = e} {ms = ms} w s) =
    let x = within_inside w o in
    let y = member_inside start end e ms x.2.1 (second_member e ms s) in
    (omega (arith, x.0, y.0), omega (arith, x.1, y.1, y.2, positive e.value y.3))
flaw_inside room root o _ (opens_too_deep w l) = let x = within_inside w o in (x.0, omega (arith, x.1, x.2.0))

elements_from : (room low high : ℕ) (ns : Elements) → ElementsInOrder low high ns → (g : Flaw) → InElements room ns g → low ≤ flaw_start g
elements_from room low high ns o g x =
    let (n, i, y) = element_of room ns g x in
    let p = element_inside low high n ns o i in
    omega (arith, p.0, (flaw_inside room n p.2 g y).0)

members_from : (room low high : ℕ) (names : List (List ℕ)) (ms : Members) → MembersInOrder low high ms → (g : Flaw) → InMembers room names ms g → low ≤ flaw_start g
members_from room low high names no_members o g x = elim x [ ]
members_from room low high names (a_member s start end n ms) o _ (this_name h) = o.0
members_from room low high names (a_member s start end n ms) o g (of_this x) = omega (arith, o.0, o.1, (flaw_inside room n o.2 g x).0)
members_from room low high names (a_member s start end n ms) o g (of_later x) = omega (arith, o.0, o.1, positive n o.2, members_from room (end_of n) high (s ∷ names) ms o.3 g x)

-- what is reported is a flaw that starts first; where nothing is reported there is none
abbrev Least : (Flaw → Type 0) → Option Flaw → Type 0
Least R None = (g : Flaw) → R g → ⊥
Least R (Some f) = R f × ((g : Flaw) → R g → flaw_start f ≤ flaw_start g)

least_by : (R S : Flaw → Type 0) → ((g : Flaw) → R g → S g) → ((g : Flaw) → S g → R g) → (a : Option Flaw) → Least R a → Least S a
least_by R S to from None x = λ g y. x g (from g y)
least_by R S to from (Some f) x = (to f x.0, λ g y. x.1 g (from g y))

module _ (A B C : Flaw → Type 0) (of_a : (g : Flaw) → A g → C g) (of_b : (g : Flaw) → B g → C g) (split : (g : Flaw) → C g → A g ⊎ B g) where
  least_second : ((g : Flaw) → A g → ⊥) → (b : Option Flaw) → Least B b → Least C b
  least_second none None y = λ g c. elim (split g c) as (λ _. ⊥) [ inl x ↦ none g x | inr z ↦ y g z ]
  least_second none (Some f) y = (of_b f y.0, λ g c. elim (split g c) as (λ _. flaw_start f ≤ flaw_start g) [ inl x ↦ absurd (none g x) | inr z ↦ y.1 g z ])

  least_of : ((f g : Flaw) → A f → B g → flaw_start f ≤ flaw_start g) → (a b : Option Flaw) → Least A a → Least B b → Least C (or_else a b)
  least_of order None b x y = least_second x b y
  least_of order (Some f) b x y = (of_a f x.0, λ g c. elim (split g c) as (λ _. flaw_start f ≤ flaw_start g) [ inl z ↦ x.1 g z | inr z ↦ order f g x.0 z ])

not_both : (b : Bool) → b ≡ true → b ≡ false → ⊥
not_both b e f = cc

no_scalar : (room : ℕ) (v : Tree) (start end : ℕ) → is_list v ≡ false → (g : Flaw) → IsFlaw room (placed v start end) g → ⊥
no_scalar room _ start end h _ (second_name the_root s) = cc
no_scalar room _ start end h _ (second_name (below_array i w) s) = cc
no_scalar room _ start end h _ (second_name (below_object i w) s) = cc
no_scalar room v start end h _ (opens_too_deep the_root l) = not_both (is_list v) l h
no_scalar room _ start end h _ (opens_too_deep (below_array i w) l) = cc
no_scalar room _ start end h _ (opens_too_deep (below_object i w) l) = cc

no_elements_flaw : (room : ℕ) (g : Flaw) → InElements room no_elements g → ⊥
no_elements_flaw room g x = elim x [ ]

no_members_flaw : (room : ℕ) (names : List (List ℕ)) (g : Flaw) → InMembers room names no_members g → ⊥
no_members_flaw room names g x = elim x [ ]

split_elements : (room : ℕ) (n : Placed) (ns : Elements) (g : Flaw) → InElements room (an_element n ns) g → IsFlaw room n g ⊎ InElements room ns g
split_elements room n ns g (this_value x) = inl x
split_elements room n ns g (later_value x) = inr x

split_members : (room : ℕ) (names : List (List ℕ)) (s : List ℕ) (start end : ℕ) (n : Placed) (ms : Members) → is_seen names s ≡ false → (g : Flaw) → InMembers room names (a_member s start end n ms) g → IsFlaw room n g ⊎ InMembers room (s ∷ names) ms g
split_members room names s start end n ms h _ (this_name k) = absurd (not_both (is_seen names s) k h)
split_members room names s start end n ms h g (of_this x) = inl x
split_members room names s start end n ms h g (of_later x) = inr x

least_member : (room low high : ℕ) (names : List (List ℕ)) (s : List ℕ) (start end : ℕ) (n : Placed) (ms : Members) → MembersInOrder low high (a_member s start end n ms) → (b : Bool) → is_seen names s ≡ b →
    Least (IsFlaw room n) (flaw_in room n) → Least (InMembers room (s ∷ names) ms) (flaw_in_members room (s ∷ names) ms) →
    Least (InMembers room names (a_member s start end n ms)) (cond b (Some (equal_names start end)) (or_else (flaw_in room n) (flaw_in_members room (s ∷ names) ms)))
least_member room low high names s start end n ms o true h x y = (this_name h, λ g z. members_from room start high names (a_member s start end n ms) (omega arith, o.1, o.2, o.3) g z)
least_member room low high names s start end n ms o false h x y =
    least_of (IsFlaw room n) (InMembers room (s ∷ names) ms) (InMembers room names (a_member s start end n ms)) (λ g z. of_this z) (λ g z. of_later z) (split_members room names s start end n ms h)
    (λ f g z w. omega (arith, (flaw_inside room n o.2 f z).1, members_from room (end_of n) high (s ∷ names) ms o.3 g w)) (flaw_in room n) (flaw_in_members room (s ∷ names) ms) x y

mutual
  least_value : (room : ℕ) (n : Placed) → InOrder n → Least (IsFlaw room n) (flaw_in room n)
  least_value room (placed v start end) o = least_tree room start end v o

  least_tree : (room start end : ℕ) (v : Tree) → InOrder (placed v start end) → Least (IsFlaw room (placed v start end)) (flaw_at room start v)
  least_tree zero start end a_null o = no_scalar zero a_null start end refl
  least_tree zero start end (a_boolean b) o = no_scalar zero (a_boolean b) start end refl
  least_tree zero start end (a_number k) o = no_scalar zero (a_number k) start end refl
  least_tree zero start end (a_string s) o = no_scalar zero (a_string s) start end refl
  least_tree zero start end (an_array ns) o = (opens_too_deep the_root refl, λ g x. (flaw_inside zero (placed (an_array ns) start end) o g x).0)
  least_tree zero start end (an_object ms) o = (opens_too_deep the_root refl, λ g x. (flaw_inside zero (placed (an_object ms) start end) o g x).0)
  least_tree (suc room) start end a_null o = no_scalar (suc room) a_null start end refl
  least_tree (suc room) start end (a_boolean b) o = no_scalar (suc room) (a_boolean b) start end refl
  least_tree (suc room) start end (a_number k) o = no_scalar (suc room) (a_number k) start end refl
  least_tree (suc room) start end (a_string s) o = no_scalar (suc room) (a_string s) start end refl
  least_tree (suc room) start end (an_array ns) o =
      least_by (InElements room ns) (IsFlaw (suc room) (placed (an_array ns) start end)) (array_up room ns start end) (array_down room ns start end) (flaw_in_elements room ns) (least_elements room start end ns o.1)
  least_tree (suc room) start end (an_object ms) o =
      least_by (InMembers room [] ms) (IsFlaw (suc room) (placed (an_object ms) start end)) (object_up room ms start end) (object_down room ms start end) (flaw_in_members room [] ms) (least_members room start end [] ms o.1)

  least_elements : (room low high : ℕ) (ns : Elements) → ElementsInOrder low high ns → Least (InElements room ns) (flaw_in_elements room ns)
  least_elements room low high no_elements o = no_elements_flaw room
  least_elements room low high (an_element n ns) o =
      least_of (IsFlaw room n) (InElements room ns) (InElements room (an_element n ns)) (λ g z. this_value z) (λ g z. later_value z) (split_elements room n ns)
      (λ f g z w. omega (arith, (flaw_inside room n o.1 f z).1, elements_from room (end_of n) high ns o.2 g w)) (flaw_in room n) (flaw_in_elements room ns) (least_value room n o.1) (least_elements room (end_of n) high ns o.2)

  least_members : (room low high : ℕ) (names : List (List ℕ)) (ms : Members) → MembersInOrder low high ms → Least (InMembers room names ms) (flaw_in_members room names ms)
  least_members room low high names no_members o = no_members_flaw room names
  least_members room low high names (a_member s start end n ms) o =
      least_member room low high names s start end n ms o (is_seen names s) refl (least_value room n o.2) (least_members room (end_of n) high (s ∷ names) ms o.3)

none_told : (R : Flaw → Type 0) (a : Option Flaw) → Least R a → ((g : Flaw) → R g → ⊥) → a ≡ None
none_told R None x h = refl
none_told R (Some f) x h = absurd (h f x.0)

pub first_is_least : FirstIsLeast
first_is_least text n f s e = subst (Least (IsFlaw most_open n)) e (least_value most_open n (shown_in_order text n s))

pub none_is_none : NoneIsNone
none_is_none text n s = ((λ e. subst (Least (IsFlaw most_open n)) e (least_value most_open n (shown_in_order text n s))), none_told (IsFlaw most_open n) (first_flaw n) (least_value most_open n (shown_in_order text n s)))
