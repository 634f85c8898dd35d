-- The rules of token files, one by one: what stands where in a file, and which place breaks which rule. The laws that the list
-- of a file's breaks has just these stand above it here, where a source is told to break a rule.
use Rattle.std.specs.Prelude.{◌≡◌, ◌≢◌, true, false, codes}
use Rattle.json_span.specs.Tree.{Placed, Entry, tree_of, start_of, end_of}
use Rattle.name_path.specs.Names.{root_name}
use Rattle.ring.specs.Lists.{In}
use Rattle.token_tree.specs.Shape.{entries_at, is_object, has, is_token, has_group_form, has_token_form, Break, shape_breaks}
use Rattle.token_tree.specs.Texts.{is_reserved, is_name}
use Rattle.token_tree.specs.declared.fault.Rule.{Rule}
use Rattle.token_tree.specs.declared.fault.Rule.TheVariants as rule

-- an object with a member `$value` or `$ref` is a token, and any other is a group
abbrev pub IsToken : Placed → Type 0
IsToken n = is_token n ≡ true

pub record IsGroup (n : Placed) : Type 0 where
  pub object : is_object (tree_of n) ≡ true
  pub no_token : is_token n ≡ false

-- a member whose name begins with `$`, and one that does not: a token or a group
pub record IsReserved (n : Placed) (e : Entry) : Type 0 where
  pub among : In e (entries_at n)
  pub reserved : is_reserved e.name ≡ true

pub record IsChild (n : Placed) (e : Entry) : Type 0 where
  pub among : In e (entries_at n)
  pub plain : is_reserved e.name ≡ false

-- What stands where in a file: the root, and below a group its children and the token `$root`.
pub data Role : Type 0 where
  a_group : Role
  a_token : Role

pub data Stands (root : Placed) : Role → Placed → Type 0 where
  root_group : IsGroup root → Stands root a_group root
  root_as_token : IsToken root → Stands root a_token root
  child_group : {g : Placed} {e : Entry} → Stands root a_group g → IsChild g e → IsGroup e.value → Stands root a_group e.value
  child_token : {g : Placed} {e : Entry} → Stands root a_group g → IsChild g e → IsToken e.value → Stands root a_token e.value
  own_token : {g : Placed} (e : Entry) → Stands root a_group g → In e (entries_at g) → e.name ≡ root_name → IsToken e.value → Stands root a_token e.value

-- a break at a value, and at the string of a member's name
abbrev pub at : Rule → Placed → Break
at r n = record { rule = r; start = start_of n; end = end_of n }

abbrev pub at_name_of : Rule → Entry → Break
at_name_of r e = record { rule = r; start = e.start; end = e.end }

-- A rule is broken: a root that is no group; a child without a name of one, or that is no object; a member of a group or of a
-- token that has not its form; a child of a token; a `$root` that is no token.
pub data BreaksShape (root : Placed) : Break → Type 0 where
  no_object : is_object (tree_of root) ≡ false → BreaksShape root (at rule.Root root)
  token_as_root : IsToken root → BreaksShape root (at rule.Root root)
  bad_name : {g : Placed} {e : Entry} → Stands root a_group g → IsChild g e → is_name e.name ≡ false → BreaksShape root (at_name_of rule.Name e)
  no_member : {g : Placed} {e : Entry} → Stands root a_group g → IsChild g e → is_object (tree_of e.value) ≡ false → BreaksShape root (at rule.Member e.value)
  group_property : {g : Placed} {e : Entry} → Stands root a_group g → IsReserved g e → e.name ≢ root_name
      → has_group_form e.name (tree_of e.value) ≡ false → BreaksShape root (at rule.Property e.value)
  token_property : {t : Placed} {e : Entry} → Stands root a_token t → IsReserved t e
      → has_token_form (has (codes "$value") (entries_at t)) e.name (tree_of e.value) ≡ false → BreaksShape root (at rule.Property e.value)
  token_child : {t : Placed} {e : Entry} → Stands root a_token t → IsChild t e → BreaksShape root (at_name_of rule.TokenChild e)
  no_root_token : {g : Placed} (e : Entry) → Stands root a_group g → In e (entries_at g) → e.name ≡ root_name → is_token e.value ≡ false
      → BreaksShape root (at rule.RootToken e.value)

-- each entry of the list breaks its rule at its place, and each broken rule is an entry
abbrev pub ShapeBreaksBreak : Type 0
ShapeBreaksBreak = (root : Placed) (b : Break) → In b (shape_breaks root) → BreaksShape root b

abbrev pub BrokenShapesAreListed : Type 0
BrokenShapesAreListed = (root : Placed) (b : Break) → BreaksShape root b → In b (shape_breaks root)
