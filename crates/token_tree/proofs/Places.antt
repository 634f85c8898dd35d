-- Parts of parts, and where the values of members stand.
use Rattle.std.proofs.Common.{◌≡◌, ℕ, zero, suc, ◌+◌, List, [], ◌∷◌, Some, None, subst, sym}
use Rattle.std.specs.Prelude.{slice_get}
use Rattle.json_span.specs.Tree.{Tree, Placed, placed, Elements, Members, Entry, an_object, members_of, value_of_name}
use Rattle.json_span.specs.Flaw.{too_deep, most_open, flaw_at}
use Rattle.json_span.specs.Parts.{IsPart, itself, inside, IsInside, inside_array, inside_object, IsInElements, in_element, in_later_element, IsInMembers, in_member, in_later_member}
use Rattle.token_tree.specs.Answer.{IsObjectOf}
use Rattle.token_tree.specs.inner.Outcomes.{EachStands, NamesDiffer}
use Rattle.token_tree.specs.Promise.{StandsIn}
use Rattle.token_tree.proofs.PartsWithoutFlaws.{part_flawless}
use Rattle.token_tree.proofs.Sound.{among}

mutual
  pub part_of_part : {a b c : Placed} → IsPart a b → IsPart b c → IsPart a c
  part_of_part x itself = x
  part_of_part x (inside i) = inside (part_in x i)

  part_in : {a b : Placed} {v : Tree} → IsPart a b → IsInside b v → IsInside a v
  part_in x (inside_array i) = inside_array (part_element x i)
  part_in x (inside_object i) = inside_object (part_member x i)

  part_element : {a b : Placed} {ns : Elements} → IsPart a b → IsInElements b ns → IsInElements a ns
  part_element x (in_element i) = in_element (part_of_part x i)
  part_element x (in_later_element i) = in_later_element (part_element x i)

  part_member : {a b : Placed} {ms : Members} → IsPart a b → IsInMembers b ms → IsInMembers a ms
  part_member x (in_member i) = in_member (part_of_part x i)
  part_member x (in_later_member i) = in_later_member (part_member x i)

nth_member : (es : List Entry) (i : ℕ) (e : Entry) → slice_get es i ≡ Some e → IsInMembers e.value (members_of es)
nth_member [] i e g = absurd (cc)
nth_member (f ∷ es) zero e g = let k : f ≡ e = cc in in_member (subst (λ (z : Entry). IsPart e.value z.value) (sym k) itself)
nth_member (f ∷ es) (suc i) e g = in_later_member (nth_member es i e g)

-- a part of what stands in a text stands there
pub part_stands : (text : List ℕ) (a b : Placed) → IsPart a b → StandsIn text b → StandsIn text a
part_stands text a b x s = record { root = s.root; shown = s.shown; flawless = s.flawless; part = part_of_part x s.part }

member_part : (n : Placed) (es : List Entry) (i : ℕ) (e : Entry) → IsObjectOf n es → slice_get es i ≡ Some e → IsPart e.value n
member_part (placed v start end) es i e h g = inside (subst (IsInside e.value) (sym h) (inside_object (nth_member es i e g)))

-- so do the values of the members
pub members_stand : (text : List ℕ) (n : Placed) (es : List Entry) → IsObjectOf n es → StandsIn text n → EachStands text es
members_stand text n es h s i e g = part_stands text e.value n (member_part n es i e h g) s

pub under_part : (n : Placed) (es : List Entry) (name : List ℕ) (m : Placed) → IsObjectOf n es → value_of_name name es ≡ Some m → IsPart m n
under_part n es name m h u = let a = among name es m u in subst (λ z. IsPart z n) a.holds (member_part n es a.index a.entry h a.there)

pub under_stands : (text : List ℕ) (n : Placed) (es : List Entry) → IsObjectOf n es → StandsIn text n → (name : List ℕ) (m : Placed) → value_of_name name es ≡ Some m → StandsIn text m
under_stands text n es h s name m u = part_stands text m n (under_part n es name m h u) s

-- the names of an object that stands in a text without a flaw differ
roomed : (v : Tree) (room start : ℕ) (es : List Entry) → v ≡ an_object (members_of es) → flaw_at room start v ≡ None → NamesDiffer es
roomed v zero start es h f = absurd (no_room (subst (λ z. flaw_at zero start z ≡ None) h f))
  where
    no_room : Some (too_deep start (start + 1)) ≡ None → ⊥
    no_room e = cc
roomed v (suc room) start es h f = (room, subst (λ z. flaw_at (suc room) start z ≡ None) h f)

pub names_differ : (text : List ℕ) (n : Placed) (es : List Entry) → IsObjectOf n es → StandsIn text n → NamesDiffer es
names_differ text (placed v start end) es h s = roomed v most_open start es h (part_flawless most_open s.part s.flawless)
