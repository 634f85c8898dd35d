-- Trees in which the children of each group stand in byte order of their names. All trees that are read are such trees.
use Rattle.std.specs.Prelude.{ℕ, List, [], ◌∷◌, T}
use Rattle.std.specs.FinMap.{is_sorted}
use Rattle.tk_io.specs.Order.{text_cmp}
use Rattle.token_tree.specs.Tree.{Child, a_token, a_group, Group, group, Children, no_children, child}

abbrev pub child_entries : Children → List (List ℕ × Child)
child_entries no_children = []
child_entries (child name c cs) = (name, c) ∷ child_entries cs

abbrev mutual
  -- the children's names ascend, and so do those below
  pub IsOrdered : Group → Type 0
  IsOrdered (group ps cs) = T (is_sorted text_cmp (child_entries cs)) × AreOrdered cs

  pub AreOrdered : Children → Type 0
  AreOrdered no_children = Unit {0}
  AreOrdered (child name c cs) = IsOrderedChild c × AreOrdered cs

  pub IsOrderedChild : Child → Type 0
  IsOrderedChild (a_token d) = Unit {0}
  IsOrderedChild (a_group g) = IsOrdered g
