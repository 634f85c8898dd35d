-- What an object of a token file shows, and where it breaks a rule (Format Module 2025.10, groups and tokens).
use Rattle.std.specs.Prelude.{ℕ, Bool, true, false, ◌&&◌, ◌||◌, not, if◌then◌else◌, List, [], ◌∷◌, ◌++◌, codes, Option, Some, None, is_some, unwrap_or, option_map, option_and_then, slice_range}
use Rattle.std.specs.FinMap as map
use Rattle.std.specs.List.{flat_map}
use Rattle.std.specs.Str.{bytes_eq}
use Rattle.name_path.specs.declared.kind.Kind.{Kind}
use Rattle.name_path.specs.Names.{root_name}
use Rattle.json_span.specs.Tree.{Tree, a_null, a_boolean, a_number, a_string, an_array, an_object, Placed, placed, Members, no_members, a_member, Entry, entries_in, tree_of, start_of, end_of, string_in, object_in, value_of_name}
use Rattle.token_tree.specs.declared.mark.Mark.{Mark}
use Rattle.token_tree.specs.declared.mark.Mark.TheVariants.{No, Yes, Because}
use Rattle.token_tree.specs.declared.fault.Rule.{Rule}
use Rattle.token_tree.specs.declared.fault.Rule.TheVariants as rule
use Rattle.token_tree.specs.Texts.{is_reserved, is_name, kind_named, group_named}
use Rattle.token_tree.specs.Tree.{Definition, Extension, Properties, Child, a_token, a_group, Group, Named, group_with}

-- the members of an object; another value has none
abbrev pub members_in : Tree → Members
members_in a_null = no_members
members_in (a_boolean b) = no_members
members_in (a_number k) = no_members
members_in (a_string s) = no_members
members_in (an_array ns) = no_members
members_in (an_object ms) = ms

abbrev pub entries_at : Placed → List Entry
entries_at n = entries_in (members_in (tree_of n))

abbrev pub is_object : Tree → Bool
is_object v = is_some (object_in v)

abbrev pub is_text : Tree → Bool
is_text v = is_some (string_in v)

abbrev pub has : List ℕ → List Entry → Bool
has name es = is_some (value_of_name name es)

-- an object with a member `$value` or `$ref` is a token
abbrev pub are_token : List Entry → Bool
are_token es = has (codes "$value") es || has (codes "$ref") es

abbrev pub is_token : Placed → Bool
is_token n = are_token (entries_at n)

-- what the values of listed members mean

abbrev pub kind_in : Tree → Option Kind
kind_in v = option_and_then kind_named (string_in v)

abbrev pub mark_of : Bool → Mark
mark_of true = Yes
mark_of false = No

abbrev pub mark_in : Tree → Option Mark
mark_in a_null = None
mark_in (a_boolean b) = Some (mark_of b)
mark_in (a_number k) = None
mark_in (a_string s) = Some (Because s)
mark_in (an_array ns) = None
mark_in (an_object ms) = None

abbrev pub is_mark : Tree → Bool
is_mark v = is_some (mark_in v)

abbrev pub target_in : Tree → Option (List (List ℕ))
target_in v = option_and_then group_named (string_in v)

-- whether a member that groups and tokens share has its form; one that is not listed has any
abbrev pub has_form : List ℕ → Tree → Bool
has_form name v =
    if bytes_eq name (codes "$type") then is_some (kind_in v)
    else if bytes_eq name (codes "$description") then is_text v
    else if bytes_eq name (codes "$extensions") then is_object v
    else if bytes_eq name (codes "$deprecated") then is_mark v
    else true

abbrev pub has_group_form : List ℕ → Tree → Bool
has_group_form name v = if bytes_eq name (codes "$extends") then is_some (target_in v) else has_form name v

-- `$ref` stands alone: `valued` says whether its token has a `$value`
abbrev pub has_token_form : Bool → List ℕ → Tree → Bool
has_token_form valued name v = if bytes_eq name (codes "$ref") then is_text v && not valued else has_form name v

-- A rule that is broken, and the span that is reported.
pub record Break : Type 0 where
  pub rule : Rule
  pub start : ℕ
  pub end : ℕ

abbrev pub at_value : Rule → Placed → List Break
at_value r n = record { rule = r; start = start_of n; end = end_of n } ∷ []

abbrev pub at_name : Rule → Entry → List Break
at_name r e = record { rule = r; start = e.start; end = e.end } ∷ []

-- a token's member: no child, and each listed member in its form
abbrev pub token_member_breaks : Bool → Entry → List Break
token_member_breaks valued e =
    if not (is_reserved e.name) then at_name rule.TokenChild e
    else if has_token_form valued e.name (tree_of e.value) then []
    else at_value rule.Property e.value

abbrev pub token_breaks : List Entry → List Break
token_breaks es = flat_map (token_member_breaks (has (codes "$value") es)) es

-- `$root` is a token
abbrev pub root_breaks : Placed → List Break
root_breaks n = if is_token n then token_breaks (entries_at n) else at_value rule.RootToken n

-- a member of a group whose name begins with `$`
abbrev pub reserved_breaks : Entry → List Break
reserved_breaks e = if has_group_form e.name (tree_of e.value) then [] else at_value rule.Property e.value

-- a group's member; `inside` has the breaks of its value as that of a child
abbrev pub group_member_breaks : Entry → List Break → List Break
group_member_breaks e inside =
    if bytes_eq e.name root_name then root_breaks e.value
    else if is_reserved e.name then reserved_breaks e
    else if is_name e.name then inside
    else at_name rule.Name e ++ inside

abbrev mutual
  pub group_breaks : Members → List Break
  group_breaks no_members = []
  group_breaks (a_member name start end n ms) = group_member_breaks (record { name = name; start = start; end = end; value = n }) (child_breaks n) ++ group_breaks ms

  -- a child is a token or a group, so an object
  pub child_breaks : Placed → List Break
  child_breaks (placed v start end) = object_breaks v start end

  pub object_breaks : Tree → ℕ → ℕ → List Break
  object_breaks a_null start end = at_value rule.Member (placed a_null start end)
  object_breaks (a_boolean b) start end = at_value rule.Member (placed (a_boolean b) start end)
  object_breaks (a_number k) start end = at_value rule.Member (placed (a_number k) start end)
  object_breaks (a_string s) start end = at_value rule.Member (placed (a_string s) start end)
  object_breaks (an_array ns) start end = at_value rule.Member (placed (an_array ns) start end)
  object_breaks (an_object ms) start end = if are_token (entries_in ms) then token_breaks (entries_in ms) else group_breaks ms

-- all breaks below the root, in the order of the text
unfoldable pub shape_breaks : Placed → List Break
shape_breaks root =
    if not (is_object (tree_of root)) then at_value rule.Root root
    else if is_token root then at_value rule.Root root ++ token_breaks (entries_at root)
    else group_breaks (members_in (tree_of root))

-- what listed members say, where they are there

abbrev pub said : {A : Type 0} → (Tree → Option A) → List ℕ → List Entry → Option A
said read name es = option_and_then (λ n. read (tree_of n)) (value_of_name name es)

abbrev pub said_kind : List Entry → Option Kind
said_kind es = said kind_in (codes "$type") es

abbrev pub said_description : List Entry → Option (List ℕ)
said_description es = said string_in (codes "$description") es

abbrev pub said_deprecated : List Entry → Option Mark
said_deprecated es = said mark_in (codes "$deprecated") es

-- the slice of a value
abbrev pub slice_of : List ℕ → Placed → List ℕ
slice_of text n = slice_range text (start_of n) (end_of n)

abbrev pub extensions_of : List ℕ → List Entry → Option (List ℕ)
extensions_of text es = option_map (slice_of text) (value_of_name (codes "$extensions") es)

abbrev pub extension_at : List ℕ → Placed → Option Extension
extension_at file n = option_map (λ path. record { target = path; file = file; start = start_of n; end = end_of n }) (target_in (tree_of n))

abbrev pub extends_of : List ℕ → List Entry → Option Extension
extends_of file es = option_and_then (extension_at file) (value_of_name (codes "$extends") es)

abbrev pub properties_of : List ℕ → List Entry → Properties
properties_of file es = record { kind = said_kind es; deprecated = said_deprecated es; extends = extends_of file es }

-- what a token's `$ref` or else its `$value` holds
abbrev pub token_value : Placed → Placed
token_value n = unwrap_or (value_of_name (codes "$ref") (entries_at n)) (unwrap_or (value_of_name (codes "$value") (entries_at n)) n)

-- the definition that a token's object shows
abbrev pub def_of : List ℕ → List ℕ → Placed → Definition
def_of file text n = record {
  file = file;
  source = slice_of text n;
  start = start_of n;
  end = end_of n;
  value = token_value n;
  by_ref = has (codes "$ref") (entries_at n);
  kind = said_kind (entries_at n);
  description = said_description (entries_at n);
  extensions = extensions_of text (entries_at n);
  deprecated = said_deprecated (entries_at n);
}

-- the members that are tokens and groups
abbrev pub is_child : List ℕ → Bool
is_child name = bytes_eq name root_name || not (is_reserved name)

-- what a value without members shows
abbrev pub no_group : List ℕ → Group
no_group file = group_with (properties_of file []) map.empty

abbrev mutual
  -- the members' children, put to those that are there
  pub put_children : List ℕ → List ℕ → Members → Named → Named
  put_children file text no_members cs = cs
  put_children file text (a_member name start end n ms) cs = put_children file text ms (if is_child name then map.insert cs name (child_of file text n) else cs)

  pub child_of : List ℕ → List ℕ → Placed → Child
  child_of file text (placed v start end) = if is_token (placed v start end) then a_token (def_of file text (placed v start end)) else a_group (group_of file text v)

  -- the group that an object shows
  pub group_of : List ℕ → List ℕ → Tree → Group
  group_of file text a_null = no_group file
  group_of file text (a_boolean b) = no_group file
  group_of file text (a_number k) = no_group file
  group_of file text (a_string s) = no_group file
  group_of file text (an_array ns) = no_group file
  group_of file text (an_object ms) = group_with (properties_of file (entries_in ms)) (put_children file text ms map.empty)

-- one member alone
abbrev pub put_child : List ℕ → List ℕ → Entry → Named → Named
put_child file text e cs = if is_child e.name then map.insert cs e.name (child_of file text e.value) else cs

-- the tree that a file's root shows, where no rule is broken
unfoldable pub shape_of : List ℕ → List ℕ → Placed → Group
shape_of file text root = group_of file text (tree_of root)
