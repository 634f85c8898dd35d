-- The flat tree: each token by its path, with what the groups around it say of it.
use Rattle.std.specs.Prelude.{ℕ, List, [], ◌∷◌, ◌++◌, Option, Some, None, if◌then◌else◌, option_and_then}
use Rattle.std.specs.FinMap as map
use Rattle.std.specs.Ordering.{eq_by_cmp}
use Rattle.tk_io.specs.Order.{text_cmp, names_cmp}
use Rattle.name_path.specs.declared.kind.Kind.{Kind}
use Rattle.token_tree.specs.declared.mark.Mark.{Mark}
use Rattle.token_tree.specs.Tree.{Definition, Properties, Child, a_token, a_group, Group, group, Children, no_children, child}
use Rattle.group_inherit.specs.Merging.{either, children_by_name}
use Rattle.group_inherit.specs.Putting.{put_all}

-- A token of the flat tree: its definition, and the `$type` and the `$deprecated` of the nearest group upwards that has one.
pub record Flattened : Type 0 where
  pub def : Definition
  pub group_kind : Option Kind
  pub group_mark : Option Mark

-- the `$type` and the `$deprecated` of the nearest groups that have one
pub record Nearest : Type 0 where
  pub kind : Option Kind
  pub mark : Option Mark

-- those of a group itself, else those of the groups above
abbrev pub nearest : Properties → Nearest → Nearest
nearest own above = record { kind = either own.kind above.kind; mark = either own.deprecated above.mark }

abbrev pub flattened : Nearest → Definition → Flattened
flattened near d = record { def = d; group_kind = near.kind; group_mark = near.mark }

-- a token under its path
abbrev pub TokenAt : Type 0
TokenAt = List (List ℕ) × Flattened

abbrev mutual
  -- the tokens of a group that stands at a path, below groups that say this
  pub tokens_in : List (List ℕ) → Nearest → Group → List TokenAt
  tokens_in path above (group ps cs) = tokens_among path (nearest ps above) cs

  pub tokens_among : List (List ℕ) → Nearest → Children → List TokenAt
  tokens_among path near no_children = []
  tokens_among path near (child name c cs) = tokens_at (path ++ name ∷ []) near c ++ tokens_among path near cs

  pub tokens_at : List (List ℕ) → Nearest → Child → List TokenAt
  tokens_at path near (a_token d) = (path, flattened near d) ∷ []
  tokens_at path near (a_group g) = tokens_in path near g

-- no group has said anything
abbrev pub nothing_above : Nearest
nothing_above = record { kind = None; mark = None }

-- The flat tree of a group: all its tokens by their paths.
abbrev pub flat_of : Group → map.FinMap names_cmp Flattened
flat_of g = put_all (tokens_in [] nothing_above g) map.empty

-- The law of each path.

-- the token at a path below a member, where the groups above say this
abbrev pub token_below : List (List ℕ) → Nearest → Child → Option Flattened
token_below [] near (a_token d) = Some (flattened near d)
token_below [] near (a_group g) = None
token_below (name ∷ path) near (a_token d) = None
token_below (name ∷ path) near (a_group (group ps cs)) = option_and_then (λ c. token_below path (nearest ps near) c) (map.get (children_by_name cs) name)

-- What stands at a path of the flat tree: the token to which its names lead, with what the nearest groups on the way say.
abbrev pub flattened_at : List (List ℕ) → Group → Option Flattened
flattened_at path g = token_below path nothing_above (a_group g)

-- what is left of a path after a prefix
abbrev pub behind : List (List ℕ) → List (List ℕ) → Option (List (List ℕ))
behind [] path = Some path
behind (name ∷ front) [] = None
behind (name ∷ front) (k ∷ path) = if eq_by_cmp text_cmp k name then behind front path else None

-- the token at a path, where the member stands at a prefix of it
abbrev pub token_under : List (List ℕ) → Nearest → Child → List (List ℕ) → Option Flattened
token_under front near c path = option_and_then (λ rest. token_below rest near c) (behind front path)
