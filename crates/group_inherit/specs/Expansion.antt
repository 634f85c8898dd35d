-- The expansion of groups that extend others (Format Module 2025.10, `$extends`).
use Rattle.std.specs.Prelude.{ℕ, List, [], ◌∷◌, ◌++◌, Option, None, Some}
use Rattle.token_tree.specs.Tree.{Properties, a_token, a_group, Group, group, Children, no_children, child, group_with}
use Rattle.group_inherit.specs.Merging.{children_by_name, over}
use Rattle.group_inherit.specs.Extension.{GroupPath, children_in, at_path, target_path}
use Rattle.token_tree.specs.Tree.{Definition}

abbrev pub properties_in : Group → Properties
properties_in (group ps cs) = ps

abbrev pub without_extension : Properties → Properties
without_extension ps = record ps { extends = None }

-- what is local over what is inherited, where something is
abbrev pub over_inherited : Group → Option Group → Group
over_inherited local None = local
over_inherited local (Some inherited) = over local inherited

-- a group without `$extends` that has these members, over what it inherits
abbrev pub expanded : Group → Children → Option Group → Group
expanded g members inherited = over_inherited (group_with (without_extension (properties_in g)) (children_by_name members)) inherited

mutual
  -- The expansion of the group at a path of a tree: its members, with each child group expanded, over the expansion of its
  -- target, where it has one.
  pub data Expands (tree : Group) : GroupPath → Group → Type 0 where
    expands : {path : GroupPath} {members : Children} {inherited : Option Group} → AreExpanded tree path (children_in (at_path tree path)) members
        → IsInherited tree (target_path (at_path tree path)) inherited → Expands tree path (expanded (at_path tree path) members inherited)

  -- the members of a group at a path, with the expansion of each child group in its place
  pub data AreExpanded (tree : Group) : GroupPath → Children → Children → Type 0 where
    no_member : {path : GroupPath} → AreExpanded tree path no_children no_children
    own_token : {path : GroupPath} {name : List ℕ} {d : Definition} {cs members : Children} → AreExpanded tree path cs members
        → AreExpanded tree path (child name (a_token d) cs) (child name (a_token d) members)
    child_group : {path : GroupPath} {name : List ℕ} {g e : Group} {cs members : Children} → Expands tree (path ++ name ∷ []) e → AreExpanded tree path cs members
        → AreExpanded tree path (child name (a_group g) cs) (child name (a_group e) members)

  -- the expansion of a target, where there is one
  pub data IsInherited (tree : Group) : Option GroupPath → Option Group → Type 0 where
    no_target : IsInherited tree None None
    its_target : {path : GroupPath} {e : Group} → Expands tree path e → IsInherited tree (Some path) (Some e)
