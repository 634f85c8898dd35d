-- Expansions: the only one, and name by name.
use Rattle.std.proofs.Common.{◌≡◌, ℕ, cond, List, [], ◌∷◌, ◌++◌, Option, Some, None, option_and_then, inl, inr, refl, sym, ap, ap₂, subst, ◌∙◌}
use Rattle.std.proofs.lemmas.Bool.{cases_Bool}
use Rattle.std.specs.FinMap as map_of
use Rattle.std.specs.Ordering.{eq_by_cmp}
use Rattle.tk_io.specs.Order.{text_cmp}
use Rattle.token_tree.specs.Tree.{Child, a_token, a_group, Group, group, Children, no_children, child, group_with}
use Rattle.group_inherit.specs.Expansion.{properties_in, without_extension, over_inherited, expanded, Expands, expands, AreExpanded, no_member, own_token, child_group, IsInherited, no_target, its_target}
use Rattle.group_inherit.specs.Extension.{GroupPath, children_in, at_path, target_path}
use Rattle.group_inherit.specs.Laws.{IsOwn, IsOfTarget, ExpandedByName}
use Rattle.group_inherit.specs.Merging.{children_by_name, member_at, stands}
use Rattle.group_inherit.proofs.Merges.{no_earlier_member}
use Rattle.group_inherit.proofs.Naming.{same_name, get_child, get_none}
use Rattle.group_inherit.proofs.Overs.{named_entries, by_name}

-- There is one.

mutual
  pub one_expansion : (tree : Group) (path : GroupPath) {e f : Group} → Expands tree path e → Expands tree path f → e ≡ f
  one_expansion tree path (expands {members = ms} {inherited = i} a s) (expands {members = ns} {inherited = j} b t) =
      let g = at_path tree path in
      ap₂ (expanded g) (one_members tree path (children_in g) a b) (one_inherited tree (target_path g) s t)

  one_members : (tree : Group) (path : GroupPath) (cs : Children) {ms ns : Children} → AreExpanded tree path cs ms → AreExpanded tree path cs ns → ms ≡ ns
  one_members tree path no_children no_member no_member = refl
  one_members tree path (child name (a_token d) cs) (own_token a) (own_token b) = ap (child name (a_token d)) (one_members tree path cs a b)
  one_members tree path (child name (a_group g) cs) (child_group x a) (child_group y b) =
      ap₂ (λ (h : Group) (rest : Children). child name (a_group h) rest) (one_expansion tree (path ++ name ∷ []) x y) (one_members tree path cs a b)

  one_inherited : (tree : Group) (o : Option GroupPath) {i j : Option Group} → IsInherited tree o i → IsInherited tree o j → i ≡ j
  one_inherited tree None no_target no_target = refl
  one_inherited tree (Some path) (its_target x) (its_target y) = ap (λ (g : Group). Some g) (one_expansion tree path x y)

-- Name by name.

own_same : (tree : Group) (path : GroupPath) (o p q r : Option Child) → o ≡ p → q ≡ r → IsOwn tree path p r → IsOwn tree path o q
own_same tree path o p q r e f h = subst (λ (x : Option Child). IsOwn tree path x q) (sym e) (subst (λ (y : Option Child). IsOwn tree path p y) (sym f) h)

-- a member more
own_more : (tree : Group) (path : GroupPath) (k name : List ℕ) (c d : Child) (cs ms : Children) → IsOwn tree (path ++ k ∷ []) (Some c) (Some d) → IsOwn tree (path ++ name ∷ []) (map_of.get (children_by_name cs) name) (map_of.get (children_by_name ms) name)
    → IsOwn tree (path ++ name ∷ []) (map_of.get (children_by_name (child k c cs)) name) (map_of.get (children_by_name (child k d ms)) name)
own_more tree path k name c d cs ms here there = elim (cases_Bool (eq_by_cmp text_cmp name k)) [
  | inl t ↦ own_same tree (path ++ name ∷ []) (map_of.get (children_by_name (child k c cs)) name) (Some c) (map_of.get (children_by_name (child k d ms)) name) (Some d)
      (get_child k c cs name ∙ ap (λ b. cond b (Some c) (map_of.get (children_by_name cs) name)) t) (get_child k d ms name ∙ ap (λ b. cond b (Some d) (map_of.get (children_by_name ms) name)) t)
      (subst (λ (n : List ℕ). IsOwn tree (path ++ n ∷ []) (Some c) (Some d)) (sym (same_name name k t)) here)
  | inr f ↦ own_same tree (path ++ name ∷ []) (map_of.get (children_by_name (child k c cs)) name) (map_of.get (children_by_name cs) name) (map_of.get (children_by_name (child k d ms)) name) (map_of.get (children_by_name ms) name)
      (get_child k c cs name ∙ ap (λ b. cond b (Some c) (map_of.get (children_by_name cs) name)) f) (get_child k d ms name ∙ ap (λ b. cond b (Some d) (map_of.get (children_by_name ms) name)) f) there
]

own_at : (tree : Group) (path : GroupPath) (name : List ℕ) (cs : Children) {ms : Children} → AreExpanded tree path cs ms → IsOwn tree (path ++ name ∷ []) (map_of.get (children_by_name cs) name) (map_of.get (children_by_name ms) name)
own_at tree path name no_children no_member =
    own_same tree (path ++ name ∷ []) (map_of.get (children_by_name no_children) name) None (map_of.get (children_by_name no_children) name) None (get_none name) (get_none name) refl
own_at tree path name (child k (a_token d) cs) (own_token {members = ms} a) = own_more tree path k name (a_token d) (a_token d) cs ms refl (own_at tree path name cs a)
own_at tree path name (child k (a_group g) cs) (child_group {e = e} {members = ms} x a) = own_more tree path k name (a_group g) (a_group e) cs ms (e, x, refl) (own_at tree path name cs a)

target_at : (tree : Group) (name : List ℕ) (o : Option GroupPath) {i : Option Group} → IsInherited tree o i → IsOfTarget tree name o (option_and_then (member_at name) i)
target_at tree name None no_target = refl
target_at tree name (Some path) (its_target {e = e} x) = (e, x, refl)

child_in : (g : Group) (name : List ℕ) → member_at name g ≡ map_of.get (children_by_name (children_in g)) name
child_in (group ps cs) name = refl

inherited_at : (local : Group) (i : Option Group) (name : List ℕ) → member_at name (over_inherited local i) ≡ stands (member_at name local) (option_and_then (member_at name) i)
inherited_at local None name = sym (no_earlier_member (member_at name local))
inherited_at local (Some g) name = by_name local g name

pub expanded_by_name : ExpandedByName
expanded_by_name tree path e name (expands {members = ms} {inherited = i} a s) =
    let g = at_path tree path in
    let own = without_extension (properties_in g) in (
      map_of.get (children_by_name ms) name,
      option_and_then (member_at name) i,
      subst (λ (x : Option Child). IsOwn tree (path ++ name ∷ []) x (map_of.get (children_by_name ms) name)) (sym (child_in g name)) (own_at tree path name (children_in g) a),
      target_at tree name (target_path g) s,
      inherited_at (group_with own (children_by_name ms)) i name ∙ ap (λ (x : Option Child). stands x (option_and_then (member_at name) i)) (ap (λ m. map_of.get m name) (named_entries (children_by_name ms))),
    )
