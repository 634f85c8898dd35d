-- The slice of a part says what the part is without places.
use Rattle.std.proofs.Common.{◌≡◌, ℕ, List, slice_range, refl, sym, subst, ap, ◌∙◌}
use Rattle.json_span.specs.Tree.{Tree, a_null, a_boolean, a_number, a_string, an_array, an_object, Placed, placed, Elements, no_elements, an_element, Members, no_members, a_member, start_of, end_of}
use Rattle.json_span.specs.Reading.{Shows}
use Rattle.json_span.specs.Parts.{moved, moved_tree, moved_elements, moved_members, IsPart}
use Rattle.json_span.specs.Plain.{plain_array, plain_object, plains, plain_members}
use Rattle.json_span.specs.Says.{SaysText, plain_of, plain_tree, plain_elements, plain_fields}
use Rattle.json_span.proofs.Slices.{slices_show}
use Rattle.json_span.proofs.Saying.{shows_says}

module _ {K : Type 0} (num : List ℕ → K) (d : ℕ) where
  mutual
    pub moved_same : (n : Placed) → plain_of num (moved d n) ≡ plain_of num n
    moved_same (placed v start end) = tree_same v

    tree_same : (v : Tree) → plain_tree num (moved_tree d v) ≡ plain_tree num v
    tree_same a_null = refl
    tree_same (a_boolean b) = refl
    tree_same (a_number k) = refl
    tree_same (a_string s) = refl
    tree_same (an_array ns) = ap plain_array (elements_same ns)
    tree_same (an_object ms) = ap plain_object (members_same ms)

    elements_same : (ns : Elements) → plain_elements num (moved_elements d ns) ≡ plain_elements num ns
    elements_same no_elements = refl
    elements_same (an_element n ns) = let p = moved_same n in let q = elements_same ns in λ i. plains (p i) (q i)

    members_same : (ms : Members) → plain_fields num (moved_members d ms) ≡ plain_fields num ms
    members_same no_members = refl
    members_same (a_member s start end n ms) = let p = moved_same n in let q = members_same ms in λ i. plain_members s (p i) (q i)

pub slice_says : {K : Type 0} (num : List ℕ → K) (text : List ℕ) (root n : Placed) → Shows text root → IsPart n root → SaysText num (slice_range text (start_of n) (end_of n)) (plain_of num n)
slice_says num text root n x p =
    let m = slices_show text root n x p in
    let slice = slice_range text (start_of n) (end_of n) in
    subst (SaysText num slice) (sym (moved_same num (start_of n) m.0) ∙ ap (plain_of num) m.2) (shows_says num slice m.0 m.1)
