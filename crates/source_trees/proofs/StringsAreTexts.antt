-- In a text of UTF-8 the names of members, the strings and the slices of objects are UTF-8.
use Rattle.std.proofs.Common.{arith, ◌≡◌, ℕ, List, length, subst}
use Rattle.std.proofs.lemmas.Str.{IsUtf8-between}
use Rattle.std.specs.Str.{IsUtf8}
use Rattle.json_span.specs.FitsIn.{FitsIn, ItemsFitIn, MembersFitIn, SaidFits}
use Rattle.json_span.specs.Laws.{ShowsSay}
use Rattle.json_span.specs.Parts.{IsPart, itself, inside, IsInside, inside_array, inside_object, IsInElements, in_element, in_later_element, IsInMembers, in_member, in_later_member}
use Rattle.json_span.specs.Says.{plain_of, plain_tree, plain_elements, plain_fields}
use Rattle.json_span.specs.Tree.{Tree, a_null, a_boolean, a_number, a_string, an_array, an_object, Placed, placed, Elements, Members, no_members, a_member, tree_of, start_of, end_of}
use Rattle.token_tree.specs.Promise.{StandsIn}
use Rattle.token_tree.specs.Shape.{members_in, slice_of}
use Rattle.token_tree.proofs.Objects.{ObjectAt, boundaries}
use Rattle.source_trees.specs.Texts.{IsText}
use Rattle.source_trees.proofs.ShapesHoldTokens.{NamesHold}

-- what fits in fits in each part
module _ (k : ℕ) where
  mutual
    part_fits : {n root : Placed} → IsPart n root → FitsIn k (plain_of length root) → FitsIn k (plain_of length n)
    part_fits itself h = h
    part_fits (inside i) h = part_in i h

    part_in : {n : Placed} {v : Tree} → IsInside n v → FitsIn k (plain_tree length v) → FitsIn k (plain_of length n)
    part_in (inside_array i) h = part_element i h.1
    part_in (inside_object i) h = part_member i h.1

    part_element : {n : Placed} {ns : Elements} → IsInElements n ns → ItemsFitIn k (plain_elements length ns)
        → FitsIn k (plain_of length n)
    part_element (in_element p) h = part_fits p h.0
    part_element (in_later_element i) h = part_element i h.1

    part_member : {n : Placed} {ms : Members} → IsInMembers n ms → MembersFitIn k (plain_fields length ms)
        → FitsIn k (plain_of length n)
    part_member (in_member p) h = part_fits p h.1
    part_member (in_later_member i) h = part_member i h.2

  -- names and strings, where something is known
  module _ (known : Type 0) where
    abbrev Utf8Known : List ℕ → Type 0
    Utf8Known s = known → IsUtf8 s

    names_utf8 : (ms : Members) → (known → MembersFitIn k (plain_fields length ms)) → NamesHold Utf8Known ms
    names_utf8 no_members h = tt
    names_utf8 (a_member name start end n ms) h = (λ x. (h x).0, names_utf8 ms (λ x. (h x).2))

    members_utf8 : (n : Placed) → (known → FitsIn k (plain_of length n)) → NamesHold Utf8Known (members_in (tree_of n))
    members_utf8 (placed a_null start end) h = tt
    members_utf8 (placed (a_boolean b) start end) h = tt
    members_utf8 (placed (a_number s) start end) h = tt
    members_utf8 (placed (a_string s) start end) h = tt
    members_utf8 (placed (an_array ns) start end) h = tt
    members_utf8 (placed (an_object ms) start end) h = names_utf8 ms (λ x. (h x).1)

  string_utf8 : (n : Placed) (s : List ℕ) → tree_of n ≡ a_string s → FitsIn k (plain_of length n) → IsUtf8 s
  string_utf8 (placed v start end) s is h = subst (λ (w : Tree). FitsIn k (plain_tree length w)) is h

module _ (said : SaidFits ℕ) (shown : ShowsSay ℕ) (text : List ℕ) (n : Placed) (stands : StandsIn text n) where
  standing_fits : IsUtf8 text → FitsIn (length text) (plain_of length n)
  standing_fits utf8 =
      part_fits (length text) stands.part
      (said length text (plain_of length stands.root) (length text) utf8 (omega arith)
      (shown length text stands.root stands.shown))

  pub names_are_texts : (known : Type 0) → (known → IsText text) → NamesHold (λ s. known → IsUtf8 s) (members_in (tree_of n))
  names_are_texts known texts = members_utf8 (length text) known n (λ x. standing_fits (texts x).utf8)

  pub string_is_text : (s : List ℕ) → tree_of n ≡ a_string s → IsText text → IsUtf8 s
  string_is_text s is texts = string_utf8 (length text) n s is (standing_fits texts.utf8)

-- the slice of an object
pub object_is_text : (text : List ℕ) (n : Placed) → ObjectAt text n → IsText text → IsText (slice_of text n)
object_is_text text n at texts =
    let (first, last) = boundaries text n texts.utf8 at in
    record {
      utf8 = IsUtf8-between text (start_of n) (end_of n) texts.utf8 (omega (arith, at.long)) first last;
      fits = omega (arith, at.long, at.within, texts.fits);
    }
