-- Rings of sets that name each other. The walk goes to each set in document order, and from a set to those that its
-- sources name, in order.
use Rattle.std.specs.Prelude.{◌≡◌, ℕ, ◌==◌, Bool, true, false, List, [], ◌∷◌, ◌++◌, codes, length, map, Option, Some, None, if◌then◌else◌, option_map, unwrap_or, slice_get, slice_index_or}
use Rattle.std.specs.List.{flat_map, list_all, range_with_len}
use Rattle.std.specs.Str.{bytes_eq}
use Rattle.std.specs.declared.alloc.Global.{Global}
use Rattle.std.specs.declared.vec.Vec.{Vec}
use Rattle.json_span.specs.Tree.{Placed, Entry, start_of, end_of, value_of_name}
use Rattle.ring.specs.Graph.{needs_in}
use Rattle.ring.specs.Routes.{IsRing, HasNoRing}
use Rattle.resolver_doc.specs.Form.{entries_at}
use Rattle.resolver_doc.specs.Document.{SourceData, file_source, set_source, inline_source, SetData, ItemData, set_item, modifier_item, elements_at, set_entries, name_in, member_entries, source_of, resolver_of}

-- the numbers of the sets that sources name, in order
abbrev pub set_in : SourceData → List ℕ
set_in (file_source name start end) = []
set_in (set_source name v) = v ∷ []
set_in (inline_source n) = []

abbrev pub sets_in : List SourceData → List ℕ
sets_in sources = flat_map set_in sources

-- a row for each set, and after them one of all sets
abbrev pub set_rows : List SetData → List (List ℕ)
set_rows sets = map (λ s. sets_in s.sources) sets ++ range_with_len 0 (length sets) ∷ []

-- what a set names; the number after the last set stands for the document, which names each set
abbrev pub set_needs : List SetData → ℕ → List ℕ
set_needs sets v = slice_index_or (set_rows sets) v []

-- the rows of a table list what each set names
abbrev pub ListsNeeds : List (Vec ℕ Global) → List SetData → Type 0
ListsNeeds graph sets = (v : ℕ) → needs_in graph v ≡ set_needs sets v

abbrev pub IsRingOfSets : List SetData → List ℕ → Type 0
IsRingOfSets sets ring = IsRing (set_needs sets) (length sets) ring

abbrev pub HasNoRingOfSets : List SetData → Type 0
HasNoRingOfSets sets = HasNoRing (set_needs sets) (length sets)

-- each reference to a set has the name and the number of one of the sets
abbrev pub is_set_named : List ℕ → Option SetData → Bool
is_set_named name None = false
is_set_named name (Some s) = bytes_eq s.name name

abbrev pub is_right : List SetData → SourceData → Bool
is_right sets (file_source name start end) = true
is_right sets (set_source name v) = is_set_named name (slice_get sets v)
is_right sets (inline_source n) = true

abbrev pub are_right : List SetData → List SourceData → Bool
are_right sets sources = list_all (is_right sets) sources

abbrev pub are_sets_right : List SetData → List SetData → Bool
are_sets_right sets listed = list_all (λ s. are_right sets s.sources) listed

abbrev pub is_item_right : List SetData → ItemData → Bool
is_item_right sets (set_item sources) = are_right sets sources
is_item_right sets (modifier_item name contexts default) = are_sets_right sets contexts

abbrev pub are_items_right : List SetData → List ItemData → Bool
are_items_right sets order = list_all (is_item_right sets) order

-- the string by which one of these sources first names the set of a number
abbrev pub is_set : ℕ → SourceData → Bool
is_set v (file_source name start end) = false
is_set v (set_source name w) = w == v
is_set v (inline_source n) = false

abbrev pub naming_string : List Entry → ℕ → List Placed → Option Placed
naming_string sets v [] = None
naming_string sets v (n ∷ ns) =
    if is_set v (source_of sets n) then value_of_name (codes "$ref") (entries_at n) else naming_string sets v ns

abbrev pub sources_at : List Entry → ℕ → List Placed
sources_at sets v = unwrap_or (option_map elements_at (value_of_name (codes "sources") (member_entries sets v))) []

abbrev pub last_of : ℕ → List ℕ → ℕ
last_of v [] = v
last_of v (w ∷ ws) = last_of w ws

-- the string by which the ring's last set first names its first one
abbrev pub ring_string : List Entry → List ℕ → Option Placed
ring_string sets [] = None
ring_string sets (v ∷ vs) = naming_string sets v (sources_at sets (last_of v vs))

-- the sets of these names are the first ring of the document, and the span is that of the string that closes it
pub record IsSetRing (root : Placed) (names : List (List ℕ)) (start end : ℕ) : Type 0 where
  pub ring : List ℕ
  pub is : IsRingOfSets (resolver_of root).sets ring
  pub named : names ≡ map (name_in (set_entries root)) ring
  pub string : Placed
  pub closes : ring_string (set_entries root) ring ≡ Some string
  pub starts : start ≡ start_of string
  pub ends : end ≡ end_of string
