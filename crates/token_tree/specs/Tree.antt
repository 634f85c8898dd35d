-- Groups and tokens as data (Format Module 2025.10).
use Rattle.std.specs.Prelude.{ℕ, Bool, if◌then◌else◌, List, [], ◌∷◌, Option, Some, None}
use Rattle.std.specs.FinMap as map
use Rattle.std.specs.Str.{bytes_eq}
use Rattle.tk_io.specs.Order.{text_cmp}
use Rattle.name_path.specs.declared.kind.Kind.{Kind}
use Rattle.json_span.specs.Tree.{Placed}
use Rattle.token_tree.specs.declared.mark.Mark.{Mark}

-- A token as it is written: its file, the slice of its object and the offsets of that slice, and what the object shows.
pub record Definition : Type 0 where
  pub file : List ℕ
  pub source : List ℕ
  pub start : ℕ
  pub end : ℕ
  -- what stands under `$value`, or under `$ref`
  pub value : Placed
  pub by_ref : Bool
  pub kind : Option Kind
  pub description : Option (List ℕ)
  -- the slice of the object under `$extensions`
  pub extensions : Option (List ℕ)
  pub deprecated : Option Mark

-- The group that a group extends, and the place of the string that names it.
pub record Extension : Type 0 where
  pub target : List (List ℕ)
  pub file : List ℕ
  pub start : ℕ
  pub end : ℕ

-- what a group says of itself
pub record Properties : Type 0 where
  pub kind : Option Kind
  pub deprecated : Option Mark
  pub extends : Option Extension

mutual
  pub data Child : Type 0 where
    a_token : Definition → Child
    a_group : Group → Child

  pub data Group : Type 0 where
    group : Properties → Children → Group

  -- children by their names, in byte order of names
  pub data Children : Type 0 where
    no_children : Children
    child : List ℕ → Child → Children → Children

-- the same as a finite map
abbrev pub Named : Type 0
Named = map.FinMap text_cmp Child

abbrev pub children_of : List (List ℕ × Child) → Children
children_of [] = no_children
children_of (e ∷ es) = child e.0 e.1 (children_of es)

-- a group of these properties and children
abbrev pub group_with : Properties → Named → Group
group_with ps cs = group ps (children_of (map.entries cs))

-- what stands at a name of a group
abbrev pub child_among : List ℕ → Children → Option Child
child_among name no_children = None
child_among name (child k c cs) = if bytes_eq k name then Some c else child_among name cs

abbrev pub child_at : List ℕ → Group → Option Child
child_at name (group ps cs) = child_among name cs
