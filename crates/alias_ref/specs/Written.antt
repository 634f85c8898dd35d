-- What is written at each place of a flat tree (Format Module 2025.10; RFC 6901 for the steps).
use Rattle.std.specs.Prelude.{ℕ, ◌+◌, List, [], ◌∷◌, ◌++◌, Bool, true, false, if◌then◌else◌, Option, Some, None, option_map, option_and_then, map, codes}
use Rattle.std.specs.FinMap as flat_map
use Rattle.std.specs.Fmt.{decimal}
use Rattle.std.specs.Str.{bytes_eq}
use Rattle.tk_io.specs.Order.{names_cmp}
use Rattle.name_path.specs.declared.place.Place.{Place}
use Rattle.json_span.specs.Tree.{Tree, a_null, a_boolean, a_number, a_string, an_array, an_object, Placed, tree_of, Entry, elements_in, entries_in}
use Rattle.json_span.specs.Plain.{plain_null, plain_boolean, plain_number, plain_string}
use Rattle.json_span.specs.PlainView.{Value}
use Rattle.token_tree.specs.Tree.{Definition}
use Rattle.token_tree.specs.Shape.{has}
use Rattle.group_inherit.specs.Flattening.{Flattened}
use Rattle.alias_ref.specs.References.{is_curly, alias_named, place_named}

-- a name of a path, or a step of a trail
abbrev pub Step : Type 0
Step = List ℕ

-- how parts are put together
pub data Container : Type 0 where
  array : Container
  object : Container

-- What is written at a place.
pub data Written : Type 0 where
  -- null, a truth value, a number or a string
  leaf : Value → Written
  -- an array or an object, with the steps to its parts in written order
  parts : Container → List Step → Written
  -- a reference that is spelled well: the path of a token, and steps into its value
  refers : List Step → List Step → Written
  -- a reference that is spelled wrongly
  misspelled : Written

-- The tokens of a flat tree, as what is written at each place; none where the place is not written.
abbrev pub WrittenPlaces : Type 0
WrittenPlaces = Place → Option Written

-- the place of a token's whole value
abbrev pub whole : List Step → Place
whole token = record { token = token; trail = [] }

-- the place one step further
abbrev pub part : Place → Step → Place
part p s = record { token = p.token; trail = p.trail ++ s ∷ [] }

abbrev pub is_reference : Option Written → Bool
is_reference (Some (refers token steps)) = true
is_reference (Some misspelled) = true
is_reference (Some (leaf v)) = false
is_reference (Some (parts c steps)) = false
is_reference None = false

abbrev pub is_misspelled : Option Written → Bool
is_misspelled (Some misspelled) = true
is_misspelled (Some (leaf v)) = false
is_misspelled (Some (parts c steps)) = false
is_misspelled (Some (refers token steps)) = false
is_misspelled None = false

abbrev pub is_written : Option Written → Bool
is_written (Some w) = true
is_written None = false

-- The parts of a value.

-- the steps to parts, each with its part
abbrev pub Parts : Type 0
Parts = List (Step × Placed)

-- items under their indices in decimal digits, from this index on
abbrev pub parts_by_index : ℕ → List Placed → Parts
parts_by_index i [] = []
parts_by_index i (n ∷ ns) = (decimal i, n) ∷ parts_by_index (i + 1) ns

-- members under their names
abbrev pub parts_by_name : List Entry → Parts
parts_by_name es = map (λ e. (e.name, e.value)) es

abbrev pub parts_of : Tree → Parts
parts_of a_null = []
parts_of (a_boolean b) = []
parts_of (a_number k) = []
parts_of (a_string s) = []
parts_of (an_array ns) = parts_by_index 0 (elements_in ns)
parts_of (an_object ms) = parts_by_name (entries_in ms)

abbrev pub steps_of : Parts → List Step
steps_of ps = map (λ p. p.0) ps

-- the first part under this step
abbrev pub part_under : Step → Parts → Option Placed
part_under s [] = None
part_under s (p ∷ ps) = if bytes_eq p.0 s then Some p.1 else part_under s ps

-- the item of this index or the member of this name
abbrev pub part_behind : Placed → Step → Option Placed
part_behind n s = part_under s (parts_of (tree_of n))

-- the value to which the steps lead
unfoldable pub value_at : Placed → List Step → Option Placed
value_at n [] = Some n
value_at n (s ∷ trail) = option_and_then (λ m. value_at m trail) (part_behind n s)

-- References among values.

-- How a string is read where it stands.
pub data Role : Type 0 where
  -- in a value: it may be a curly alias
  of_value : Role
  -- as the text of a `$ref` inside a value: it is no reference by itself
  of_ref : Role
  -- as the text of a token's own `$ref`: it is a pointer
  of_token : Role

-- a text that is a reference
abbrev pub reference_written : Option Place → Written
reference_written (Some place) = refers place.token place.trail
reference_written None = misspelled

abbrev pub text_written : Role → List ℕ → Written
text_written of_value text = if is_curly text then reference_written (option_map whole (alias_named text)) else leaf (plain_string text)
text_written of_ref text = leaf (plain_string text)
text_written of_token text = reference_written (place_named text)

-- the place that the value of a `$ref` names
abbrev pub pointed : Tree → Option Place
pointed a_null = None
pointed (a_boolean b) = None
pointed (a_number k) = None
pointed (a_string text) = place_named text
pointed (an_array ns) = None
pointed (an_object ms) = None

-- an object with a member `$ref`, which has to be its only one
abbrev pub object_pointed : List Entry → Option Place
object_pointed [] = None
object_pointed (e ∷ []) = pointed (tree_of e.value)
object_pointed (e ∷ f ∷ es) = None

abbrev pub object_written : List Entry → Written
object_written es = if has (codes "$ref") es then reference_written (object_pointed es) else parts object (steps_of (parts_by_name es))

abbrev pub written_as : Role → Tree → Written
written_as role a_null = leaf plain_null
written_as role (a_boolean b) = leaf (plain_boolean b)
written_as role (a_number k) = leaf (plain_number k)
written_as role (a_string text) = text_written role text
written_as role (an_array ns) = parts array (steps_of (parts_by_index 0 (elements_in ns)))
written_as role (an_object ms) = object_written (entries_in ms)

-- the role of a string after a step
abbrev pub role_behind : Step → Role
role_behind s = if bytes_eq s (codes "$ref") then of_ref else of_value

abbrev pub role_at_end : Step → List Step → Role
role_at_end s [] = role_behind s
role_at_end s (r ∷ trail) = role_at_end r trail

-- the role of a string at the end of these steps into a token's value, where the token has a `$ref` of its own or not
abbrev pub role_at : Bool → List Step → Role
role_at true [] = of_token
role_at false [] = of_value
role_at own_ref (s ∷ trail) = role_at_end s trail

-- what is written in a token at the end of these steps
unfoldable pub written_at : Definition → List Step → Option Written
written_at d trail = option_map (λ n. written_as (role_at d.by_ref trail) (tree_of n)) (value_at d.value trail)

-- What is written at a place of a flat tree: its token has to be there, and its steps have to lead to a written value.
unfoldable pub written_in : flat_map.FinMap names_cmp Flattened → WrittenPlaces
written_in flat p = option_and_then (λ f. written_at f.def p.trail) (flat_map.get flat p.token)
