-- What a resolver document says (Design Tokens Resolver Module 2025.10, in this project's profile): its sets, and the items
-- of its order. Sets are numbered from 0 in document order.
use Rattle.std.specs.Prelude.{ℕ, Bool, true, false, ◌==◌, ◌&&◌, List, [], ◌∷◌, codes, map, Option, Some, None, if◌then◌else◌, option_map, option_and_then, unwrap_or, slice_get}
use Rattle.std.specs.List.{position_from, list_all}
use Rattle.std.specs.Str.{bytes_eq}
use Rattle.tk_io.specs.Characters.{full_stop, solidus}
use Rattle.json_span.specs.Tree.{Placed, Entry, tree_of, start_of, end_of, string_in, array_in, value_of_name}
use Rattle.name_path.specs.Reference.{pointer_text}
use Rattle.ring.specs.Lists.{AreApart}
use Rattle.resolver_doc.specs.Form.{unreserved, context_entries, entries_at}

-- A source as it is written: a file by its name and the span of the string that names it, a set by its name and its number,
-- or tokens that are written in the document.
pub data SourceData : Type 0 where
  file_source : List ℕ → ℕ → ℕ → SourceData
  set_source : List ℕ → ℕ → SourceData
  inline_source : Placed → SourceData

-- a set, or a context of a modifier
pub record SetData : Type 0 where
  pub name : List ℕ
  pub sources : List SourceData

-- an item of the order: the sources of a set, or a modifier's name, its contexts, and its default where given
pub data ItemData : Type 0 where
  set_item : List SourceData → ItemData
  modifier_item : List ℕ → List SetData → Option (List ℕ) → ItemData

pub record ResolverData : Type 0 where
  pub sets : List SetData
  pub order : List ItemData

-- the elements of a list, and the characters of a string
abbrev pub elements_at : Placed → List Placed
elements_at n = unwrap_or (array_in (tree_of n)) []

abbrev pub text_at : Placed → List ℕ
text_at n = unwrap_or (string_in (tree_of n)) []

-- the members of an object that count, and where an object has the name of a section, those of that section
abbrev pub section : List ℕ → List Entry → List Entry
section name es = unreserved (unwrap_or (option_map entries_at (value_of_name name es)) [])

abbrev pub set_entries : Placed → List Entry
set_entries root = section (codes "sets") (entries_at root)

abbrev pub modifier_entries : Placed → List Entry
modifier_entries root = section (codes "modifiers") (entries_at root)

abbrev pub order_items : Placed → List Placed
order_items root = unwrap_or (option_map elements_at (value_of_name (codes "resolutionOrder") (entries_at root))) []

-- the members of a section are named by pointers: `#/sets/` and a set's name, `#/modifiers/` and a modifier's name
abbrev pub pointer : List ℕ → Entry → List ℕ
pointer name e = pointer_text (name ∷ e.name ∷ [])

-- the number of the first member that the text points to
abbrev pub pointed_number : List ℕ → List Entry → List ℕ → Option ℕ
pointed_number name es text = position_from (λ e. bytes_eq (pointer name e) text) 0 es

abbrev pub set_number : List Entry → List ℕ → Option ℕ
set_number sets text = pointed_number (codes "sets") sets text

abbrev pub modifier_number : List Entry → List ℕ → Option ℕ
modifier_number modifiers text = pointed_number (codes "modifiers") modifiers text

-- the name and the members of the member of a number
abbrev pub name_in : List Entry → ℕ → List ℕ
name_in es v = unwrap_or (option_map (λ e. e.name) (slice_get es v)) []

abbrev pub member_entries : List Entry → ℕ → List Entry
member_entries es v = unwrap_or (option_map (λ e. entries_at e.value) (slice_get es v)) []

-- a file's name is the text without its leading `./`, as often as that stands there
abbrev pub without_dots : List ℕ → List ℕ
without_dots [] = []
without_dots (b ∷ []) = b ∷ []
without_dots (b ∷ c ∷ cs) = if (b == full_stop) && (c == solidus) then without_dots cs else b ∷ c ∷ cs

-- the source that a string names: a set, and else a file
abbrev pub set_or_file : List Entry → Placed → Option ℕ → SourceData
set_or_file sets string None = file_source (without_dots (text_at string)) (start_of string) (end_of string)
set_or_file sets string (Some v) = set_source (name_in sets v) v

abbrev pub source_by : List Entry → Placed → Option Placed → SourceData
source_by sets n None = inline_source n
source_by sets n (Some string) = set_or_file sets string (set_number sets (text_at string))

-- an object with `$ref` is a reference, and any other is tokens
abbrev pub source_of : List Entry → Placed → SourceData
source_of sets n = source_by sets n (value_of_name (codes "$ref") (entries_at n))

abbrev pub sources_of : List Entry → Placed → List SourceData
sources_of sets n = map (source_of sets) (elements_at n)

-- the sources of a list, where there is one
abbrev pub listed_sources : List Entry → Option Placed → List SourceData
listed_sources sets list = unwrap_or (option_map (sources_of sets) list) []

-- the sources of a set with these members
abbrev pub sources_in : List Entry → List Entry → List SourceData
sources_in sets es = listed_sources sets (value_of_name (codes "sources") es)

-- a set and a context are a name with the sources of a list: of a set it is a member, and a context is the list itself
abbrev pub named_list : List Entry → List ℕ → Option Placed → SetData
named_list sets name list = record { name = name; sources = listed_sources sets list }

abbrev pub set_of : List Entry → Entry → SetData
set_of sets e = named_list sets e.name (value_of_name (codes "sources") (entries_at e.value))

abbrev pub context_of : List Entry → Entry → SetData
context_of sets e = named_list sets e.name (Some e.value)

-- the text of a member, where it is one
abbrev pub member_text : List ℕ → List Entry → Option (List ℕ)
member_text name es = option_and_then (λ n. string_in (tree_of n)) (value_of_name name es)

-- a modifier of this name with these members
abbrev pub modifier_of : List Entry → List ℕ → List Entry → ItemData
modifier_of sets name es = modifier_item name (map (context_of sets) (unreserved (context_entries es))) (member_text (codes "default") es)

-- an item that is a reference is what it names
abbrev pub named_modifier : List Entry → List Entry → Option ℕ → ItemData
named_modifier sets modifiers None = set_item []
named_modifier sets modifiers (Some v) = modifier_of sets (name_in modifiers v) (member_entries modifiers v)

abbrev pub named_item : List Entry → List Entry → List ℕ → Option ℕ → ItemData
named_item sets modifiers text None = named_modifier sets modifiers (modifier_number modifiers text)
named_item sets modifiers text (Some v) = set_item (sources_in sets (member_entries sets v))

-- any other is a set or a modifier of its own
abbrev pub own_name : List Entry → List ℕ
own_name es = unwrap_or (member_text (codes "name") es) []

abbrev pub own_item : List Entry → List Entry → ItemData
own_item sets es =
    if bytes_eq (unwrap_or (member_text (codes "type") es) []) (codes "set") then set_item (sources_in sets es)
    else modifier_of sets (own_name es) es

abbrev pub item_by : List Entry → List Entry → List Entry → Option Placed → ItemData
item_by sets modifiers es None = own_item sets es
item_by sets modifiers es (Some string) = named_item sets modifiers (text_at string) (set_number sets (text_at string))

abbrev pub order_item : List Entry → List Entry → Placed → ItemData
order_item sets modifiers n = item_by sets modifiers (entries_at n) (value_of_name (codes "$ref") (entries_at n))

-- what the document says
abbrev pub resolver_of : Placed → ResolverData
resolver_of root = record {
  sets = map (set_of (set_entries root)) (set_entries root);
  order = map (order_item (set_entries root) (modifier_entries root)) (order_items root);
}

-- each modifier of the order has a context to choose
abbrev pub has_choice : ItemData → Bool
has_choice (set_item sources) = true
has_choice (modifier_item name [] default) = false
has_choice (modifier_item name (context ∷ contexts) default) = true

abbrev pub have_choices : List ItemData → Bool
have_choices order = list_all has_choice order

-- no two contexts of a modifier have one name
abbrev pub HasContextsApart : ItemData → Type 0
HasContextsApart (set_item sources) = Unit {0}
HasContextsApart (modifier_item name contexts default) = AreApart (map (λ c. c.name) contexts)
