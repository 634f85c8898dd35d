-- What private calls want to know of what they read, and what they answer.
use Rattle.std.specs.Prelude.{◌≡◌, ◌++◌, ℕ, List, [], Option, Some, None, true, false, if◌then◌else◌, option_and_then, option_map, slice_get}
use Rattle.std.specs.Borrow.{Bor}
use Rattle.std.specs.FinMap as map
use Rattle.std.specs.Str.{bytes_eq}
use Rattle.std.specs.FinMap.Entries.{put}
use Rattle.json_span.specs.Flaw.{flaw_in_members}
use Rattle.json_span.specs.Tree.{Placed, Entry, an_object, members_of, tree_of}
use Rattle.json_span.specs.View.{ref_view}
use Rattle.json_span.specs.declared.node_ref.NodeRef.{NodeRef}
use Rattle.tk_io.specs.Order.{text_cmp}
use Rattle.token_tree.specs.Tree.{Definition, Named, a_group}
use Rattle.token_tree.specs.Shape.{Break, is_child, root_breaks, child_breaks, group_breaks, group_member_breaks, extension_at, is_object, put_children, def_of, child_of, group_of}
use Rattle.name_path.specs.Names.{root_name}
use Rattle.token_tree.specs.declared.fault.Rule.{Rule}
use Rattle.token_tree.specs.declared.fault.Rule.TheVariants.{RootToken, Member as NoMember}
use Rattle.token_tree.specs.View.{extends_view, child_view, member_view, group_view}
use Rattle.token_tree.specs.MembersView.{entries_of}
use Rattle.token_tree.specs.inner.Lists.{child_in, with_front}
use Rattle.token_tree.specs.Promise.{StandsIn}
use Rattle.token_tree.specs.declared.tree.Child.{Child}
use Rattle.token_tree.specs.declared.tree.Extends.{Extends}
use Rattle.token_tree.specs.declared.tree.Group.{Group}
use Rattle.token_tree.specs.declared.tree.Member.{Member}

-- Lists of members.

abbrev pub IsChildPut : List ℕ → Child → List Member → List Member → Type 0
IsChildPut name c old new = entries_of new ≡ put text_cmp name (child_view c) (entries_of old)

-- two lists are one map, the first of them in the order of names
abbrev pub AreOneMap : List Member → List Member → Type 0
AreOneMap sorted list = map.from_sorted {R = text_cmp} (entries_of sorted) ≡ map.from_entries (entries_of list)

-- the member is appended, where there is one
abbrev pub IsPushed : Option Member → List Member → List Member → Type 0
IsPushed m old new = entries_of new ≡ entries_of old ++ with_front (option_map member_view m) []

-- Members of an object.

-- the values of the members stand in the text
abbrev pub EachStands : List ℕ → List Entry → Type 0
EachStands text es = (i : ℕ) (e : Entry) → slice_get es i ≡ Some e → StandsIn text e.value

-- no name repeats an earlier one
abbrev pub NamesDiffer : List Entry → Type 0
NamesDiffer es = (room : ℕ) × (flaw_in_members room [] (members_of es) ≡ None)

-- Groups.

-- what is read of a group's object, and of a child's value, is what they show
abbrev pub IsGroupOf : List ℕ → List ℕ → List Entry → Group → Type 0
IsGroupOf file text es g = group_view g ≡ group_of file text (an_object (members_of es))

abbrev pub IsGroupAsChild : List ℕ → List ℕ → List Entry → Child → Type 0
IsGroupAsChild file text es c = child_view c ≡ a_group (group_of file text (an_object (members_of es)))

abbrev pub IsChildOf : List ℕ → List ℕ → Placed → Child → Type 0
IsChildOf file text n c = child_view c ≡ child_of file text n

-- the breaks of a group's members
abbrev pub entries_breaks : List Entry → List Break
entries_breaks es = group_breaks (members_of es)

-- what is read of the value under `$extends`, where there is one
abbrev pub IsExtendsOf : List ℕ → Option Placed → Option Extends → Type 0
IsExtendsOf file n e = option_map extends_view e ≡ option_and_then (extension_at file) n

abbrev pub AreChildren : List ℕ → List ℕ → List Entry → Named → Type 0
AreChildren file text es members = members ≡ put_children file text (members_of es) map.empty

-- the breaks of a group's member
abbrev pub member_breaks : Entry → List Break
member_breaks e = group_member_breaks e (child_breaks e.value)

-- the breaks of a value under a child's name: `$root` is a token
abbrev pub breaks_under : List ℕ → Placed → List Break
breaks_under name n = if bytes_eq name root_name then root_breaks n else child_breaks n

-- the rule that a value under the name breaks where it is no object
abbrev pub rule_under : List ℕ → Rule
rule_under name = if bytes_eq name root_name then RootToken else NoMember

-- the name of a member that is a child, and none of a property that has its form
abbrev pub IsChildName : Entry → Option (List ℕ) → Type 0
IsChildName e None = (is_child e.name ≡ false) × (member_breaks e ≡ [])
IsChildName e (Some name) = (name ≡ e.name) × (is_child e.name ≡ true) × (member_breaks e ≡ breaks_under e.name e.value)

-- what is read of a member, where it is a child
abbrev pub IsChildIn : List ℕ → List ℕ → Entry → Option Member → Type 0
IsChildIn file text e m = option_map member_view m ≡ child_in file text e

-- Tokens.

-- the value is an object of the text, where there is one
abbrev pub IsObjectIn : List ℕ → Option Placed → Type 0
IsObjectIn text found = (n : Placed) → found ≡ Some n → StandsIn text n × (is_object (tree_of n) ≡ true)

-- a part of a text, looked at
abbrev pub slice_view : Option (Bor (List ℕ)) → Option (List ℕ)
slice_view o = option_map (λ s. s.now) o

abbrev pub def_at : List ℕ → List ℕ → NodeRef → Definition
def_at file text node = def_of file text (ref_view node)
