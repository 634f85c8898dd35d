-- Which tokens the references of a token lead to, and when two flat trees are unchanged there.
use Rattle.std.specs.Prelude.{◌≡◌, ◌↔◌, List, ℕ, Bool, true, false, ◌&&◌, not, Option, Some, option_map}
use Rattle.std.specs.FinMap as flat_map
use Rattle.std.specs.Option.{option_eq}
use Rattle.std.specs.Str.{bytes_eq}
use Rattle.tk_io.specs.Order.{names_cmp}
use Rattle.ring.specs.Lists.{In}
use Rattle.name_path.specs.Kinds.{kind_name}
use Rattle.name_path.specs.declared.kind.Kind.{Kind}
use Rattle.token_tree.specs.declared.mark.Mark.{Mark}
use Rattle.token_tree.specs.declared.mark.Mark.TheVariants.{No, Yes, Because}
use Rattle.token_tree.specs.Promise.{IsDefinition}
use Rattle.group_inherit.specs.Flattening.{Flattened}
use Rattle.alias_ref.specs.Written.{Step}
use Rattle.alias_ref.specs.Refs.{refs_of}

-- What of a token decides its value: the text of its whole object, and what the nearest groups say. Neither its file nor its offsets do.
pub record Raw : Type 0 where
  pub source : List ℕ
  pub group_kind : Option Kind
  pub group_mark : Option Mark

abbrev pub raw_of : Flattened → Raw
raw_of f = record { source = f.def.source; group_kind = f.group_kind; group_mark = f.group_mark }

-- that of the token at a path, where there is one
abbrev pub raw_in : flat_map.FinMap names_cmp Flattened → List Step → Option Raw
raw_in flat path = option_map raw_of (flat_map.get flat path)

-- Whether two raw entries are the same, as a test.

abbrev pub same_kind : Kind → Kind → Bool
same_kind k l = bytes_eq (kind_name k) (kind_name l)

abbrev pub same_mark : Mark → Mark → Bool
same_mark No No = true
same_mark Yes Yes = true
same_mark (Because s) (Because t) = bytes_eq s t
same_mark m n = false

abbrev pub same_raw : Raw → Raw → Bool
same_raw a b = bytes_eq a.source b.source && (option_eq same_kind a.group_kind b.group_kind && option_eq same_mark a.group_mark b.group_mark)

abbrev pub differ : Option Raw → Option Raw → Bool
differ a b = not (option_eq same_raw a b)

-- the test finds no difference exactly where there is none
abbrev pub DifferDecides : Type 0
DifferDecides = (a b : Option Raw) → (differ a b ≡ false) ↔ (a ≡ b)

-- A walk of none or more references from the one path to the other. The names of absent tokens count as paths.
pub data Reaches (flat : flat_map.FinMap names_cmp Flattened) (from : List Step) : List Step → Type 0 where
  at_start : Reaches flat from from
  by_reference : {path : List Step} {f : Flattened} (next : List Step) → Reaches flat from path → flat_map.get flat path ≡ Some f → In next (refs_of f.def) → Reaches flat from next

-- each path that is reached in the new tree has the same raw entry in both
abbrev pub Unchanged : flat_map.FinMap names_cmp Flattened → flat_map.FinMap names_cmp Flattened → List Step → Type 0
Unchanged old new from = (path : List Step) → Reaches new from path → raw_in old path ≡ raw_in new path

-- each token of the first tree at a path that is reached in the second is what its source shows
abbrev pub AreDefinedAlong : flat_map.FinMap names_cmp Flattened → flat_map.FinMap names_cmp Flattened → List Step → Type 0
AreDefinedAlong flat new from = (path : List Step) (f : Flattened) → Reaches new from path → flat_map.get flat path ≡ Some f → IsDefinition f.def

-- each token of the tree is what its source shows
abbrev pub AreDefinitions : flat_map.FinMap names_cmp Flattened → Type 0
AreDefinitions flat = (path : List Step) (f : Flattened) → flat_map.get flat path ≡ Some f → IsDefinition f.def
