-- Tokens that are written in a resolver document are parts of the document, and a file is named by a string of it.
use Rattle.std.proofs.Common.{◌≡◌, ℕ, zero, suc, Bool, true, false, not, List, [], ◌∷◌, Option, Some, None, length, map, codes, refl, sym, ap, subst, inl, inr}
use Rattle.std.specs.List.{filter, flat_map, slice_get}
use Rattle.std.specs.Prelude.{◌⊎◌, if◌then◌else◌, option_map, option_and_then, unwrap_or}
use Rattle.std.specs.Str.{bytes_eq}
use Rattle.ring.specs.Lists.{In}
use Rattle.json_span.specs.Parts.{IsPart, itself, inside, IsInside, inside_array, inside_object, IsInElements, in_element, in_later_element, IsInMembers, in_member, in_later_member}
use Rattle.json_span.specs.Tree.{Tree, a_null, a_boolean, a_number, a_string, an_array, an_object, Placed, placed, Elements, no_elements, an_element, Members, no_members, a_member, Entry, tree_of, object_in, elements_in, entries_in, value_of_name}
use Rattle.resolver_doc.specs.Document.{SourceData, file_source, set_source, inline_source, SetData, ItemData, set_item, elements_at, section, set_entries, modifier_entries, order_items, set_number, modifier_number, name_in, member_entries, text_at, member_text, set_or_file, source_by, source_of, sources_of, sources_in, set_of, context_of, modifier_of, named_modifier, named_item, own_name, own_item, item_by, order_item, resolver_of}
use Rattle.resolver_doc.specs.Form.{is_reserved, unreserved, context_entries, entries_at}
use Rattle.permutations.specs.Laws.{InlinesArePart, IsNamedBy, FilesAreNamed}
use Rattle.permutations.specs.Permutation.{TokenSource, file, inline, replaced, sources_written, set_within, set_sources, sources_from, Pick, context_pick, picks, choices, Permutation, permutation, permutations}
use Rattle.permutations.proofs.NamesApart.{in_map}
use Rattle.permutations.proofs.SetRoutes.{in_either}

-- Parts of parts.
mutual
  through : {n m root : Placed} → IsPart n m → IsPart m root → IsPart n root
  through p itself = p
  through p (inside i) = inside (through_in p i)

  through_in : {n m : Placed} {v : Tree} → IsPart n m → IsInside m v → IsInside n v
  through_in p (inside_array i) = inside_array (through_elements p i)
  through_in p (inside_object i) = inside_object (through_members p i)

  through_elements : {n m : Placed} {ns : Elements} → IsPart n m → IsInElements m ns → IsInElements n ns
  through_elements p (in_element q) = in_element (through p q)
  through_elements p (in_later_element i) = in_later_element (through_elements p i)

  through_members : {n m : Placed} {ms : Members} → IsPart n m → IsInMembers m ms → IsInMembers n ms
  through_members p (in_member q) = in_member (through p q)
  through_members p (in_later_member i) = in_later_member (through_members p i)

element_in : (n : Placed) (ns : Elements) → In n (elements_in ns) → IsInElements n ns
element_in n no_elements i = absurd i
element_in n (an_element m ns) (inl e) = in_element (subst (λ (x : Placed). IsPart n x) e itself)
element_in n (an_element m ns) (inr i) = in_later_element (element_in n ns i)

element_part : (m n : Placed) → In n (elements_at m) → IsPart n m
element_part (placed a_null s e) n i = absurd i
element_part (placed (a_boolean b) s e) n i = absurd i
element_part (placed (a_number k) s e) n i = absurd i
element_part (placed (a_string t) s e) n i = absurd i
element_part (placed (an_array ns) s e) n i = inside (inside_array (element_in n ns i))
element_part (placed (an_object ms) s e) n i = absurd i

member_in : (e : Entry) (ms : Members) → In e (entries_in ms) → IsInMembers e.value ms
member_in e no_members i = absurd i
member_in e (a_member name start end m ms) (inl is) = in_member (subst (λ (x : Placed). IsPart e.value x) (ap (λ (x : Entry). x.value) is) itself)
member_in e (a_member name start end m ms) (inr i) = in_later_member (member_in e ms i)

entry_part : (m : Placed) (e : Entry) → In e (entries_at m) → IsPart e.value m
entry_part (placed a_null s t) e i = absurd i
entry_part (placed (a_boolean b) s t) e i = absurd i
entry_part (placed (a_number k) s t) e i = absurd i
entry_part (placed (a_string x) s t) e i = absurd i
entry_part (placed (an_array ns) s t) e i = absurd i
entry_part (placed (an_object ms) s t) e i = inside (inside_object (member_in e ms i))

in_filter : {A : Type 0} (p : A → Bool) (xs : List A) (x : A) → In x (filter p xs) → In x xs
in_filter p [] x i = absurd i
in_filter {A} p (y ∷ ys) x i = at (p y) (in_filter p ys x) i
  where
    at : (t : Bool) → (In x (filter p ys) → In x ys) → In x (if t then y ∷ filter p ys else filter p ys) → (x ≡ y) ⊎ In x ys
    at true rest (inl e) = inl e
    at true rest (inr j) = inr (rest j)
    at false rest j = inr (rest j)

in_slice : {A : Type 0} (xs : List A) (i : ℕ) (x : A) → slice_get xs i ≡ Some x → In x xs
in_slice [] i x e = cc
in_slice (y ∷ ys) zero x e = inl (let same : y ≡ x = cc in sym same)
in_slice (y ∷ ys) (suc i) x e = inr (in_slice ys i x e)

in_flat_map : {A B : Type 0} (f : A → List B) (xs : List A) (y : B) → In y (flat_map f xs) → (x : A) × In x xs × In y (f x)
in_flat_map f [] y i = absurd i
in_flat_map f (x ∷ xs) y i = elim (in_either (f x) (flat_map f xs) y i) [
  | inl j ↦ (x, inl refl, j)
  | inr k ↦ (let c = in_flat_map f xs y k in (c.0, inr c.1, c.2))
]

module _ (root : Placed) where
  -- the values of members are parts of the document
  abbrev AllPart : List Entry → Type 0
  AllPart es = (e : Entry) → In e es → IsPart e.value root

  -- tokens among sources are, and strings name the files
  abbrev IsWritten : SourceData → Type 0
  IsWritten (file_source name start end) = IsNamedBy root name start end
  IsWritten (set_source name v) = Unit {0}
  IsWritten (inline_source n) = IsPart n root

  abbrev IsFrom : TokenSource → Type 0
  IsFrom (file name start end) = IsNamedBy root name start end
  IsFrom (inline n) = IsPart n root

  abbrev SourcesPart : List SourceData → Type 0
  SourcesPart ss = (s : SourceData) → In s ss → IsWritten s

  abbrev TokensPart : List TokenSource → Type 0
  TokensPart ts = (t : TokenSource) → In t ts → IsFrom t

  entries_part : (m : Placed) → IsPart m root → AllPart (entries_at m)
  entries_part m p e i = through (entry_part m e i) p

  counted_part : (es : List Entry) → AllPart es → AllPart (unreserved es)
  counted_part es all e i = all e (in_filter (λ (x : Entry). not (is_reserved x.name)) es e i)

  under_part : (name : List ℕ) (es : List Entry) (n : Placed) → AllPart es → value_of_name name es ≡ Some n → IsPart n root
  under_part name [] n all e = cc
  under_part name (x ∷ xs) n all e = at (bytes_eq x.name name) (under_part name xs n (λ y i. all y (inr i))) e
    where
      at : (t : Bool) → (value_of_name name xs ≡ Some n → IsPart n root) → (if t then Some x.value else value_of_name name xs) ≡ Some n → IsPart n root
      at true rest k = (let same : x.value ≡ n = cc in subst (λ (m : Placed). IsPart m root) same (all x (inl refl)))
      at false rest k = rest k

  -- of a list of sources
  source_part : (sets : List Entry) (x : Placed) → IsPart x root → IsWritten (source_of sets x)
  source_part sets x p = at (value_of_name (codes "$ref") (entries_at x)) (λ string k. under_part (codes "$ref") (entries_at x) string (entries_part x p) k)
    where
      at_set : (string : Placed) (o : Option ℕ) → IsPart string root → IsWritten (set_or_file sets string o)
      at_set string None q = record { string = string; part = q; name_is = refl; start_is = refl; end_is = refl }
      at_set string (Some v) q = tt

      at : (o : Option Placed) → ((string : Placed) → o ≡ Some string → IsPart string root) → IsWritten (source_by sets x o)
      at None part = p
      at (Some string) part = at_set string (set_number sets (text_at string)) (part string refl)

  sources_part : (sets : List Entry) (m : Placed) → IsPart m root → SourcesPart (sources_of sets m)
  sources_part sets m p s i =
      let c = in_map (source_of sets) (elements_at m) s i in
      subst IsWritten (sym c.is) (source_part sets c.from (through (element_part m c.from c.there) p))

  sources_in_part : (sets es : List Entry) → AllPart es → SourcesPart (sources_in sets es)
  sources_in_part sets es all = at (value_of_name (codes "sources") es) (λ m. under_part (codes "sources") es m all)
    where
      at : (o : Option Placed) → ((m : Placed) → o ≡ Some m → IsPart m root) → SourcesPart (unwrap_or (option_map (sources_of sets) o) [])
      at None part n i = absurd i
      at (Some m) part n i = sources_part sets m (part m refl) n i

  section_part : (name : List ℕ) → AllPart (section name (entries_at root))
  section_part name = counted_part (unwrap_or (option_map entries_at (value_of_name name (entries_at root))) []) (at (value_of_name name (entries_at root)) (λ m. under_part name (entries_at root) m (entries_part root itself)))
    where
      at : (o : Option Placed) → ((m : Placed) → o ≡ Some m → IsPart m root) → AllPart (unwrap_or (option_map entries_at o) [])
      at None part e i = absurd i
      at (Some m) part e i = entries_part m (part m refl) e i

  members_part : (es : List Entry) (v : ℕ) → AllPart es → AllPart (member_entries es v)
  members_part es v all = at (slice_get es v) (λ e k. in_slice es v e k)
    where
      at : (o : Option Entry) → ((e : Entry) → o ≡ Some e → In e es) → AllPart (unwrap_or (option_map (λ e. entries_at e.value) o) [])
      at None there e i = absurd i
      at (Some x) there e i = entries_part x.value (all x (there x refl)) e i

  contexts_part : (es : List Entry) → AllPart es → AllPart (context_entries es)
  contexts_part es all = at (value_of_name (codes "contexts") es) (λ m. under_part (codes "contexts") es m all)
    where
      at : (o : Option Placed) → ((m : Placed) → o ≡ Some m → IsPart m root) → AllPart (unwrap_or (option_and_then (λ n. object_in (tree_of n)) o) [])
      at None part e i = absurd i
      at (Some m) part e i = entries_part m (part m refl) e i

  -- of what is picked from an item
  abbrev ItemPart : ItemData → Type 0
  ItemPart item = (p : Pick) → In p (picks item) → SourcesPart p.sources

  set_part : (ss : List SourceData) → SourcesPart ss → ItemPart (set_item ss)
  set_part ss all p (inl e) n i = all n (subst (λ (q : Pick). In n q.sources) e i)
  set_part ss all p (inr none) n i = absurd none

  modifier_part : (sets : List Entry) (name : List ℕ) (es : List Entry) → AllPart es → ItemPart (modifier_of sets name es)
  modifier_part sets name es all p i n j =
      let context = in_map (context_pick name) (map (context_of sets) (unreserved (context_entries es))) p i in
      let entry = in_map (context_of sets) (unreserved (context_entries es)) context.from context.there in
      let part = counted_part (context_entries es) (contexts_part es all) entry.from entry.there in
      sources_part sets entry.from.value part n
      (subst (λ (c : SetData). In n c.sources) entry.is (subst (λ (q : Pick). In n q.sources) context.is j))

  own_part : (sets es : List Entry) → AllPart es → ItemPart (own_item sets es)
  own_part sets es all = at (bytes_eq (unwrap_or (member_text (codes "type") es) []) (codes "set"))
    where
      at : (t : Bool) → ItemPart (if t then set_item (sources_in sets es) else modifier_of sets (own_name es) es)
      at true = set_part (sources_in sets es) (sources_in_part sets es all)
      at false = modifier_part sets (own_name es) es all

  modifier_named : (sets modifiers : List Entry) → AllPart modifiers → (o : Option ℕ) → ItemPart (named_modifier sets modifiers o)
  modifier_named sets modifiers all None = set_part [] (λ n i. absurd i)
  modifier_named sets modifiers all (Some v) = modifier_part sets (name_in modifiers v) (member_entries modifiers v) (members_part modifiers v all)

  named_part : (sets modifiers : List Entry) → AllPart sets → AllPart modifiers → (text : List ℕ) (o : Option ℕ) → ItemPart (named_item sets modifiers text o)
  named_part sets modifiers a b text None = modifier_named sets modifiers b (modifier_number modifiers text)
  named_part sets modifiers a b text (Some v) = set_part (sources_in sets (member_entries sets v)) (sources_in_part sets (member_entries sets v) (members_part sets v a))

  item_part : (n : Placed) → IsPart n root → ItemPart (order_item (set_entries root) (modifier_entries root) n)
  item_part n p = at (value_of_name (codes "$ref") (entries_at n))
    where
      at : (o : Option Placed) → ItemPart (item_by (set_entries root) (modifier_entries root) (entries_at n) o)
      at None = own_part (set_entries root) (entries_at n) (entries_part n p)
      at (Some string) =
          named_part (set_entries root) (modifier_entries root) (section_part (codes "sets")) (section_part (codes "modifiers")) (text_at string) (set_number (set_entries root) (text_at string))

  order_part : (n : Placed) → In n (order_items root) → IsPart n root
  order_part n = at (value_of_name (codes "resolutionOrder") (entries_at root)) (λ m. under_part (codes "resolutionOrder") (entries_at root) m (entries_part root itself))
    where
      at : (o : Option Placed) → ((m : Placed) → o ≡ Some m → IsPart m root) → In n (unwrap_or (option_map elements_at o) []) → IsPart n root
      at None part i = absurd i
      at (Some m) part i = through (element_part m n i) (part m refl)

  items_part : (item : ItemData) → In item (resolver_of root).order → ItemPart item
  items_part item i =
      let c = in_map (order_item (set_entries root) (modifier_entries root)) (order_items root) item i in
      subst (λ (x : ItemData). ItemPart x) (sym c.is) (item_part c.from (order_part c.from c.there))

  -- of what sets come to
  written_part : (v : ℕ) → SourcesPart (sources_written (resolver_of root).sets v)
  written_part v = at (slice_get (resolver_of root).sets v) (λ s k. in_slice (resolver_of root).sets v s k)
    where
      at : (o : Option SetData) → ((s : SetData) → o ≡ Some s → In s (resolver_of root).sets) → SourcesPart (unwrap_or (option_map (λ s. s.sources) o) [])
      at None there n i = absurd i
      at (Some s) there n i =
          let c = in_map (set_of (set_entries root)) (set_entries root) s (there s refl) in
          sources_in_part (set_entries root) (entries_at c.from.value) (entries_part c.from.value (section_part (codes "sets") c.from c.there)) n
          (subst (λ (x : SetData). In n x.sources) c.is i)

  replaced_part : (f : ℕ → List TokenSource) → ((v : ℕ) → TokensPart (f v)) → (ss : List SourceData) → SourcesPart ss → TokensPart (flat_map (replaced f) ss)
  replaced_part f all [] part n i = absurd i
  replaced_part f all (file_source name start end ∷ ss) part n (inl e) = subst IsFrom (sym e) (part (file_source name start end) (inl refl))
  replaced_part f all (file_source name start end ∷ ss) part n (inr i) = replaced_part f all ss (λ m j. part m (inr j)) n i
  replaced_part f all (set_source name v ∷ ss) part n i = elim (in_either (f v) (flat_map (replaced f) ss) n i) [
    | inl j ↦ all v n j
    | inr k ↦ replaced_part f all ss (λ m j. part m (inr j)) n k
  ]
  replaced_part f all (inline_source m ∷ ss) part n (inl e) = subst IsFrom (sym e) (part (inline_source m) (inl refl))
  replaced_part f all (inline_source m ∷ ss) part n (inr i) = replaced_part f all ss (λ k j. part k (inr j)) n i

  within_part : (k v : ℕ) → TokensPart (set_within (resolver_of root).sets k v)
  unfolding set_within
  within_part zero v n i = absurd i
  within_part (suc k) v n i = replaced_part (set_within (resolver_of root).sets k) (within_part k) (sources_written (resolver_of root).sets v) (written_part v) n i

  -- of permutations
  choice_part : (order : List ItemData) → ((item : ItemData) → In item order → ItemPart item) → (ps : List Pick) → In ps (choices order) → (p : Pick) → In p ps → SourcesPart p.sources
  choice_part [] all ps (inl e) p i = absurd (subst (λ (xs : List Pick). In p xs) e i)
  choice_part [] all ps (inr none) p i = absurd none
  choice_part (item ∷ items) all ps i p j =
      let c = in_flat_map (λ pick. map (λ rest. pick ∷ rest) (choices items)) (picks item) ps i in
      let m = in_map (λ rest. c.0 ∷ rest) (choices items) ps c.2 in
      at c.0 c.1 m.from m.there (choice_part items (λ x k. all x (inr k)) m.from m.there p) (subst (λ (xs : List Pick). In p xs) m.is j)
    where
      at : (pick : Pick) → In pick (picks item) → (rest : List Pick) → In rest (choices items) → (In p rest → SourcesPart p.sources) → In p (pick ∷ rest) → SourcesPart p.sources
      at pick here rest there more (inl e) = subst (λ (q : Pick). SourcesPart q.sources) (sym e) (all item (inl refl) pick here)
      at pick here rest there more (inr k) = more k

sources_written_in : (root : Placed) (p : Permutation) → In p (permutations (resolver_of root)) → (t : TokenSource) → In t p.sources → IsFrom root t
sources_written_in root p i t j =
    let sets = (resolver_of root).sets in
    let order = (resolver_of root).order in
    let c = in_map (permutation sets) (choices order) p i in
    let d = in_flat_map (λ (q : Pick). sources_from sets q.sources) c.from t (subst (λ (x : Permutation). In t x.sources) c.is j) in
    replaced_part root (set_sources sets) (within_part root (length sets)) d.0.sources (choice_part root order (items_part root) c.from c.there d.0 d.1) t d.2

pub inlines_are_part : InlinesArePart
inlines_are_part root p i n j = sources_written_in root p i (inline n) j

pub files_are_named : FilesAreNamed
files_are_named root p i name start end j = sources_written_in root p i (file name start end) j
