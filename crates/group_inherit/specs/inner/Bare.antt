-- Groups in which no group extends another, and how large they are.
use Rattle.std.specs.Prelude.{◌≡◌, ℕ, suc, ◌+◌, max, min, None, T}
use Rattle.std.specs.FinMap.Entries.{is_sorted}
use Rattle.tk_io.specs.Order.{text_cmp}
use Rattle.token_tree.specs.Tree.{Child, a_token, a_group, Group, group, Children, no_children, child}
use Rattle.group_inherit.specs.Answer.{most_told}
use Rattle.group_inherit.specs.Ordered.{child_entries}

abbrev mutual
  -- no group extends another, and the children of each stand in byte order of names
  pub IsBare : Group → Type 0
  IsBare (group ps cs) = (ps.extends ≡ None) × T (is_sorted text_cmp (child_entries cs)) × AreBare cs

  pub AreBare : Children → Type 0
  AreBare no_children = Unit {0}
  AreBare (child name c cs) = IsBareChild c × AreBare cs

  pub IsBareChild : Child → Type 0
  IsBareChild (a_token d) = Unit {0}
  IsBareChild (a_group g) = IsBare g

abbrev mutual
  -- how many members there are, those of groups below included
  pub member_count_of : Group → ℕ
  member_count_of (group ps cs) = member_count_among cs

  pub member_count_among : Children → ℕ
  member_count_among no_children = 0
  member_count_among (child name c cs) = suc (member_count_in c + member_count_among cs)

  pub member_count_in : Child → ℕ
  member_count_in (a_token d) = 0
  member_count_in (a_group g) = member_count_of g

abbrev mutual
  -- how many levels there are down to the tokens
  pub levels_of : Group → ℕ
  levels_of (group ps cs) = levels_among cs

  pub levels_among : Children → ℕ
  levels_among no_children = 0
  levels_among (child name c cs) = max (levels_in c) (levels_among cs)

  pub levels_in : Child → ℕ
  levels_in (a_token d) = 1
  levels_in (a_group g) = levels_of g + 1

-- a bare group, and how large it is, each number at most a million
pub record IsBareSize (g : Group) (members levels : ℕ) : Type 0 where
  pub bare : IsBare g
  pub many : members ≡ min (member_count_of g) most_told
  pub high : levels ≡ min (levels_of g) most_told

-- the same of a child
pub record IsChildSize (c : Child) (members levels : ℕ) : Type 0 where
  pub bare : IsBareChild c
  pub many : members ≡ min (member_count_in c) most_told
  pub high : levels ≡ min (levels_in c) most_told
