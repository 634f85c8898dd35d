-- How much a group holds: more than each of its members.
use Rattle.std.proofs.Common.{◌≡◌, ℕ, zero, suc, ◌+◌, ◌<◌, List, [], ◌∷◌, arith, ap, drop}
use Rattle.token_tree.specs.Tree.{Child, a_token, a_group, Group, group, Children, no_children, child, children_of}

abbrev mutual
  pub group_weight : Group → ℕ
  group_weight (group ps cs) = children_weight cs + 2

  pub children_weight : Children → ℕ
  children_weight no_children = 0
  children_weight (child name c cs) = child_weight c + 3 + children_weight cs

  pub child_weight : Child → ℕ
  child_weight (a_token d) = 0
  child_weight (a_group g) = group_weight g

pub member_lighter : (es rest : List (List ℕ × Child)) (i : ℕ) (e : List ℕ × Child) → drop i es ≡ e ∷ rest → child_weight e.1 + 2 < children_weight (children_of es)
member_lighter [] rest zero e h = cc
member_lighter [] rest (suc i) e h = cc
member_lighter (f ∷ es) rest zero e h = let k : f ≡ e = cc in omega (arith, ap (λ (x : List ℕ × Child). child_weight x.1) k)
member_lighter (f ∷ es) rest (suc i) e h = omega (arith, member_lighter es rest i e h)
