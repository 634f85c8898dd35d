-- References of sources and items, and where one names nothing or a name stands twice.
use Rattle.std.specs.Prelude.{ℕ, Bool, ◌||◌, List, [], ◌∷◌, ◌++◌, codes, nat_eq, Option, Some, None, is_some, if◌then◌else◌, unwrap_or}
use Rattle.std.specs.List.{flat_map, list_any, starts_with}
use Rattle.std.specs.Str.{bytes_eq}
use Rattle.json_span.specs.Tree.{Placed, Entry, value_of_name}
use Rattle.edit_script.specs.Script.{is_path}
use Rattle.resolver_doc.specs.declared.rule.PlanRule.TheVariants.{Reference, ModifierInSet, Duplicate}
use Rattle.resolver_doc.specs.declared.rule.Break.{Break}
use Rattle.resolver_doc.specs.Break.{at_value}
use Rattle.resolver_doc.specs.Form.{unreserved, context_entries, entries_at}
use Rattle.resolver_doc.specs.Document.{elements_at, text_at, set_entries, modifier_entries, order_items, set_number, modifier_number, name_in, without_dots, member_text}

-- a source names a set, or a file whose name is a path; none names a modifier
abbrev pub named_breaks_by : Placed → Option ℕ → List Break
named_breaks_by string set =
    if starts_with nat_eq (text_at string) (codes "#/modifiers/") then at_value ModifierInSet string
    else if is_some set || is_path (without_dots (text_at string)) then [] else at_value Reference string

abbrev pub named_breaks : List Entry → Placed → List Break
named_breaks sets string = named_breaks_by string (set_number sets (text_at string))

-- of what may be there, the breaks
abbrev pub of_each : {A : Type 0} → (A → List Break) → Option A → List Break
of_each breaks None = []
of_each breaks (Some x) = breaks x

abbrev pub source_breaks : List Entry → Placed → List Break
source_breaks sets n = of_each (named_breaks sets) (value_of_name (codes "$ref") (entries_at n))

abbrev pub sources_breaks : List Entry → Placed → List Break
sources_breaks sets n = flat_map (source_breaks sets) (elements_at n)

abbrev pub set_breaks : List Entry → List Entry → List Break
set_breaks sets es = of_each (sources_breaks sets) (value_of_name (codes "sources") es)

abbrev pub modifier_breaks : List Entry → List Entry → List Break
modifier_breaks sets es = flat_map (λ e. sources_breaks sets e.value) (unreserved (context_entries es))

-- an item names a set or a modifier
abbrev pub names_item : List Entry → List Entry → List ℕ → Bool
names_item sets modifiers text = is_some (set_number sets text) || is_some (modifier_number modifiers text)

abbrev pub own_breaks : List Entry → List Entry → List Break
own_breaks sets es =
    if bytes_eq (unwrap_or (member_text (codes "type") es) []) (codes "set") then set_breaks sets es
    else modifier_breaks sets es

abbrev pub named_item_breaks : List Entry → List Entry → Placed → List Break
named_item_breaks sets modifiers string =
    if names_item sets modifiers (text_at string) then [] else at_value Reference string

abbrev pub item_breaks_by : List Entry → List Entry → List Entry → Option Placed → List Break
item_breaks_by sets modifiers es None = own_breaks sets es
item_breaks_by sets modifiers es (Some string) = named_item_breaks sets modifiers string

abbrev pub item_breaks : List Entry → List Entry → Placed → List Break
item_breaks sets modifiers n = item_breaks_by sets modifiers (entries_at n) (value_of_name (codes "$ref") (entries_at n))

-- the name of an item, and the string that says it; a reference that names nothing has none
abbrev pub name_of_number : List Entry → List Entry → Option ℕ → Option ℕ → Option (List ℕ)
name_of_number sets modifiers (Some v) modifier = Some (name_in sets v)
name_of_number sets modifiers None (Some v) = Some (name_in modifiers v)
name_of_number sets modifiers None None = None

abbrev pub item_name_by : List Entry → List Entry → List Entry → Option Placed → Option (List ℕ)
item_name_by sets modifiers es None = member_text (codes "name") es
item_name_by sets modifiers es (Some string) =
    name_of_number sets modifiers (set_number sets (text_at string)) (modifier_number modifiers (text_at string))

abbrev pub item_name : List Entry → List Entry → Placed → Option (List ℕ)
item_name sets modifiers n = item_name_by sets modifiers (entries_at n) (value_of_name (codes "$ref") (entries_at n))

abbrev pub name_string_by : List Entry → Option Placed → Option Placed
name_string_by es None = value_of_name (codes "name") es
name_string_by es (Some string) = Some string

abbrev pub name_string : Placed → Option Placed
name_string n = name_string_by (entries_at n) (value_of_name (codes "$ref") (entries_at n))

-- a name that an earlier item has
abbrev pub is_among : List ℕ → List (List ℕ) → Bool
is_among name names = list_any (λ other. bytes_eq other name) names

abbrev pub repeat_at : List (List ℕ) → Option (List ℕ) → Placed → List Break
repeat_at before None string = []
repeat_at before (Some name) string = if is_among name before then at_value Duplicate string else []

abbrev pub with_name : List (List ℕ) → Option (List ℕ) → List (List ℕ)
with_name before None = before
with_name before (Some name) = name ∷ before

-- of items, after others that have these names
abbrev pub repeats : List Entry → List Entry → List (List ℕ) → List Placed → List Break
repeats sets modifiers before [] = []
repeats sets modifiers before (n ∷ ns) =
    of_each (repeat_at before (item_name sets modifiers n)) (name_string n)
    ++ repeats sets modifiers (with_name before (item_name sets modifiers n)) ns

-- all places where a reference names nothing, or an item has the name of an earlier one
abbrev pub naming_breaks : Placed → List Break
naming_breaks root =
    flat_map (λ e. set_breaks (set_entries root) (entries_at e.value)) (set_entries root)
    ++ (flat_map (λ e. modifier_breaks (set_entries root) (entries_at e.value)) (modifier_entries root)
    ++ (flat_map (item_breaks (set_entries root) (modifier_entries root)) (order_items root)
    ++ repeats (set_entries root) (modifier_entries root) [] (order_items root)))
