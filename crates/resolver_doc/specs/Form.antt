-- The form of a resolver document (Design Tokens Resolver Module 2025.10, in this project's profile), and where it is not met.
use Rattle.std.specs.Prelude.{ℕ, Bool, false, ◌==◌, not, if◌then◌else◌, List, [], ◌∷◌, ◌++◌, codes, filter, Option, Some, None, is_some, option_and_then, unwrap_or}
use Rattle.std.specs.List.{flat_map, list_any}
use Rattle.std.specs.Str.{bytes_eq}
use Rattle.tk_io.specs.Characters.{dollar_sign}
use Rattle.json_span.specs.Tree.{Placed, Entry, tree_of, string_in, array_in, object_in, value_of_name}
use Rattle.resolver_doc.specs.declared.rule.PlanRule.TheVariants.{Version, Shape, Contexts, Default}
use Rattle.resolver_doc.specs.declared.rule.Break.{Break}
use Rattle.resolver_doc.specs.Break.{at_value, at_name}

-- a value of another form is reported; `inside` has the breaks of what a value of the form holds
abbrev pub formed : {A : Type 0} → Option A → (A → List Break) → Placed → List Break
formed None inside n = at_value Shape n
formed (Some x) inside n = inside x

abbrev pub text_with : (List ℕ → List Break) → Placed → List Break
text_with inside n = formed (string_in (tree_of n)) inside n

abbrev pub list_with : (Placed → List Break) → Placed → List Break
list_with each n = formed (array_in (tree_of n)) (flat_map each) n

abbrev pub object_with : (List Entry → List Break) → Placed → List Break
object_with inside n = formed (object_in (tree_of n)) inside n

-- a member that must be there, and one that may be there
abbrev pub needed_member : (Placed → List Break) → Placed → Option Placed → List Break
needed_member form owner None = at_value Shape owner
needed_member form owner (Some n) = form n

abbrev pub optional_member : (Placed → List Break) → Option Placed → List Break
optional_member form None = []
optional_member form (Some n) = form n

-- members whose names do not begin with `$`
abbrev pub is_reserved : List ℕ → Bool
is_reserved [] = false
is_reserved (c ∷ cs) = c == dollar_sign

abbrev pub unreserved : List Entry → List Entry
unreserved es = filter (λ e. not (is_reserved e.name)) es

abbrev pub text_form : Placed → List Break
text_form n = text_with (λ _. []) n

-- `$ref` is a text, and stands beside no member that counts
abbrev pub reference_form : List Entry → List Break
reference_form es = optional_member text_form (value_of_name (codes "$ref") es) ++ flat_map (at_name Shape) (unreserved es)

abbrev pub has_ref : List Entry → Bool
has_ref es = is_some (value_of_name (codes "$ref") es)

-- a source is a reference, or an object of tokens
abbrev pub source_members : List Entry → List Break
source_members es = if has_ref es then reference_form es else []

abbrev pub source_form : Placed → List Break
source_form n = object_with source_members n

abbrev pub sources_form : Placed → List Break
sources_form n = list_with source_form n

-- a set has sources
abbrev pub set_members : Placed → List Entry → List Break
set_members n es = needed_member sources_form n (value_of_name (codes "sources") es)

abbrev pub set_form : Placed → List Break
set_form n = object_with (set_members n) n

-- one context or more, each a list of sources
abbrev pub counts_some : List Entry → Bool
counts_some es = list_any (λ e. not (is_reserved e.name)) es

abbrev pub context_form : Entry → List Break
context_form e = sources_form e.value

abbrev pub contexts_members : Placed → List Entry → List Break
contexts_members n es = (if counts_some es then [] else at_value Contexts n) ++ flat_map context_form (unreserved es)

abbrev pub contexts_form : Placed → List Break
contexts_form n = object_with (contexts_members n) n

-- whether a context among these members has the name
abbrev pub has_context : List ℕ → List Entry → Bool
has_context name es = list_any (λ e. bytes_eq e.name name) (unreserved es)

-- the contexts of a modifier, where they are an object
abbrev pub context_entries : List Entry → List Entry
context_entries es = unwrap_or (option_and_then (λ n. object_in (tree_of n)) (value_of_name (codes "contexts") es)) []

-- `default` is a text and a context's name
abbrev pub names_context : List Entry → Placed → Option (List ℕ) → List Break
names_context es n None = at_value Shape n ++ at_value Default n
names_context es n (Some name) = if has_context name es then [] else at_value Default n

abbrev pub default_form : List Entry → Placed → List Break
default_form es n = names_context es n (string_in (tree_of n))

-- a modifier has contexts, and may have a default
abbrev pub modifier_members : Placed → List Entry → List Break
modifier_members n es =
    needed_member contexts_form n (value_of_name (codes "contexts") es) ++ optional_member (default_form (context_entries es)) (value_of_name (codes "default") es)

abbrev pub modifier_form : Placed → List Break
modifier_form n = object_with (modifier_members n) n

-- an item of the order by its type
abbrev pub typed_form : Placed → List Entry → Placed → List ℕ → List Break
typed_form n es type word =
    if bytes_eq word (codes "set") then needed_member text_form n (value_of_name (codes "name") es) ++ set_members n es
    else if bytes_eq word (codes "modifier") then needed_member text_form n (value_of_name (codes "name") es) ++ modifier_members n es
    else at_value Shape type

-- an item is a reference, or a set or a modifier of its own
abbrev pub item_type : Placed → List Entry → Placed → List Break
item_type n es type = text_with (typed_form n es type) type

abbrev pub item_members : Placed → List Entry → List Break
item_members n es = if has_ref es then reference_form es else needed_member (item_type n es) n (value_of_name (codes "type") es)

abbrev pub item_form : Placed → List Break
item_form n = object_with (item_members n) n

-- members that are each of a form
abbrev pub each_value : (Placed → List Break) → Placed → List Break
each_value form n = object_with (λ es. flat_map (λ e. form e.value) (unreserved es)) n

abbrev pub is_version : Option (List ℕ) → Bool
is_version None = false
is_version (Some s) = bytes_eq s (codes "2025.10")

-- the version is there, and is the one that is read
abbrev pub given_version : Placed → Option Placed → List Break
given_version root None = at_value Version root
given_version root (Some n) = if is_version (string_in (tree_of n)) then [] else at_value Version n

abbrev pub entries_at : Placed → List Entry
entries_at n = unwrap_or (object_in (tree_of n)) []

abbrev pub version_form : Placed → List Break
version_form root = given_version root (value_of_name (codes "version") (entries_at root))

abbrev pub document_members : Placed → List Entry → List Break
document_members root es =
    optional_member text_form (value_of_name (codes "name") es)
    ++ (optional_member text_form (value_of_name (codes "description") es)
    ++ (optional_member (each_value set_form) (value_of_name (codes "sets") es)
    ++ (optional_member (each_value modifier_form) (value_of_name (codes "modifiers") es)
    ++ needed_member (list_with item_form) root (value_of_name (codes "resolutionOrder") es))))

-- all places where the form is not met
abbrev pub form_breaks : Placed → List Break
form_breaks root = version_form root ++ object_with (document_members root) root
