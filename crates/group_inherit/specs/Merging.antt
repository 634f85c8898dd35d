-- One tree over another: the members of both, merged by their names.
use Rattle.std.specs.Prelude.{ℕ, List, [], ◌∷◌, Option, Some, None}
use Rattle.std.specs.FinMap as map
use Rattle.std.specs.Option.{option_or}
use Rattle.token_tree.specs.Tree.{Properties, Child, a_token, a_group, Group, group, Children, no_children, child, Named, group_with}

-- what is given, else the other
abbrev pub either : {A : Type 0} → Option A → Option A → Option A
either x y = option_or x y

-- each property of the later group, else that of the earlier one
abbrev pub over_properties : Properties → Properties → Properties
over_properties later earlier = record {
  kind = either later.kind earlier.kind;
  deprecated = either later.deprecated earlier.deprecated;
  extends = either later.extends earlier.extends;
}

-- children as a finite map from their names
abbrev pub children_by_name : Children → Named
children_by_name no_children = map.empty
children_by_name (child name c cs) = map.insert (children_by_name cs) name c

abbrev mutual
  -- the properties and the members of both groups, where the later ones stand over the earlier ones
  pub over : Group → Group → Group
  over (group ps cs) (group qs ds) = group_with (over_properties ps qs) (over_members cs (children_by_name ds))

  -- the members of both: each later one stands over what has its name
  pub over_members : Children → Named → Named
  over_members no_children es = es
  over_members (child name c cs) es = map.insert (over_members cs es) name (over_child c (map.get es name))

  -- two groups of one name are merged; else the later member stands whole
  pub over_child : Child → Option Child → Child
  over_child (a_token d) earlier = a_token d
  over_child (a_group g) None = a_group g
  over_child (a_group g) (Some (a_token d)) = a_group g
  over_child (a_group g) (Some (a_group h)) = a_group (over g h)

-- a group that says nothing and has no members
abbrev pub empty_group : Group
empty_group = group (record { kind = None; deprecated = None; extends = None }) no_children

abbrev pub merged_over : Group → List Group → Group
merged_over before [] = before
merged_over before (g ∷ gs) = merged_over (over g before) gs

-- The sources of a permutation, in their order: each over what is merged before it, which at first is the empty group.
abbrev pub merged : List Group → Group
merged sources = merged_over empty_group sources

-- What stands at a name.

-- the member of a name
abbrev pub member_at : List ℕ → Group → Option Child
member_at name (group ps cs) = map.get (children_by_name cs) name

-- what stands where the later group has this member of a name, and the earlier group that one
abbrev pub stands : Option Child → Option Child → Option Child
stands None earlier = earlier
stands (Some c) earlier = Some (over_child c earlier)
