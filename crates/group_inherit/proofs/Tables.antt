-- The table of expansions.
use Rattle.std.proofs.Common.{◌≡◌, ℕ, zero, suc, ◌+◌, ◌<◌, List, [], ◌∷◌, ◌++◌, All, Option, None, Some, option_map, option_to_list, inl, inr, refl, sym, ap, ◌∙◌, subst, map, length, get_or, set, take, arith, slice_get, IfSome}
use Rattle.std.proofs.lemmas.Bool.{cases_eq}
use Rattle.std.proofs.lemmas.List.{take_more, get_or-map, length-map}
use Rattle.std.proofs.lemmas.Option.{slice_get_read}
use Rattle.std.proofs.lemmas.List.Elements.{All-nil, All-cons, All-head, All-tail, All-get_or}
use Rattle.token_tree.specs.Tree.{Group as GroupData}
use Rattle.token_tree.specs.View.{group_view}
use Rattle.token_tree.specs.declared.tree.Group.{Group}
use Rattle.ring.specs.Lists.{In}
use Rattle.ring.specs.Order.{Follows}
use Rattle.ring.proofs.Ends.{in_cases, in_left, in_right}
use Rattle.ring.proofs.Sums.{follows_at}
use Rattle.group_inherit.specs.declared.targets.Row.{Row}
use Rattle.group_inherit.specs.Expansion.{Expands}
use Rattle.group_inherit.specs.Extension.{GroupPath, group_names, child_paths, target_path}
use Rattle.group_inherit.specs.Merging.{empty_group}
use Rattle.group_inherit.specs.inner.Numbering.{GroupAt, numbered_group, nowhere, numbered_path, IsNumbering, AreRows, IsRowOf, numbers_of, needs_by}
use Rattle.group_inherit.specs.inner.Outcomes.{HoldsExpansion}
use Rattle.group_inherit.specs.declared.numbered.Node.{Node}
use Rattle.group_inherit.specs.inner.View.{group_node_view, nodes_view}
use Rattle.group_inherit.proofs.Trees.{root_path, needs_by_row}
use Rattle.group_inherit.specs.inner.Tables.{tabled_group, HaveExpansions, HasTarget}

pub value_read : (table : List Group) (w : ℕ) (g : Group) → w < length table → g ≡ get_or table w g → tabled_group table w ≡ group_view g
value_read table w g h e = get_or-map group_view table w g empty_group h ∙ ap group_view (sym e)

value_set_same : (table : List Group) (v : ℕ) (g : Group) → v < length table → tabled_group (set table v g) v ≡ group_view g
value_set_same [] v g h = absurd (omega arith)
value_set_same (x ∷ xs) zero g h = refl
value_set_same (x ∷ xs) (suc v) g h = value_set_same xs v g (omega arith)

value_set_other : (table : List Group) (v u : ℕ) (g : Group) → (u ≡ v → ⊥) → tabled_group (set table v g) u ≡ tabled_group table u
value_set_other [] v u g n = refl
value_set_other (x ∷ xs) zero zero g n = absurd (n refl)
value_set_other (x ∷ xs) zero (suc u) g n = refl
value_set_other (x ∷ xs) (suc v) zero g n = refl
value_set_other (x ∷ xs) (suc v) (suc u) g n = value_set_other xs v u g (λ e. n (ap suc e))

-- The expansions of all that a group needs, from those of the groups before it in the order.

have_each : (tree : GroupData) (table : List Group) (path : ℕ → GroupPath) (ws : List ℕ) → ((w : ℕ) → In w ws → Expands tree (path w) (tabled_group table w))
    → HaveExpansions tree table (map path ws) ws
have_each tree table path [] known = tt
have_each tree table path (w ∷ ws) known = (known w (inl refl), have_each tree table path ws (λ x i. known x (inr i)))

have_target : (tree : GroupData) (table : List Group) (path : ℕ → GroupPath) (o : Option ℕ) → ((w : ℕ) → In w (option_to_list o) → Expands tree (path w) (tabled_group table w))
    → HasTarget tree table (option_map path o) o
have_target tree table path None known = tt
have_target tree table path (Some w) known = known w (inl refl)

module _ (nodes : List GroupAt) (rows : List Row) (table : List Group) (order : List ℕ) (k v : ℕ) (row : Row)
    (is : IsRowOf nodes v row) (own : needs_by rows v ≡ numbers_of row) (follows : Follows (needs_by rows) [] order) (h : k < length order) (e : v ≡ get_or order k 0)
    (known : (w : ℕ) → In w (take k order) → HoldsExpansion nodes table w) where
  before : (w : ℕ) → In w (numbers_of row) → HoldsExpansion nodes table w
  before w i = known w (follows_at (needs_by rows) [] order k follows h w (subst (λ (x : ℕ). In w (needs_by rows x)) e (subst (In w) (sym own) i)))

  pub children_known : HaveExpansions (numbered_group nodes 0) table (child_paths (numbered_path nodes v) (numbered_group nodes v)) row.children.items
  children_known =
      subst (λ (ps : List GroupPath). HaveExpansions (numbered_group nodes 0) table ps row.children.items) is.children
      (have_each (numbered_group nodes 0) table (numbered_path nodes) row.children.items (λ w i. before w (in_left row.children.items (option_to_list row.target) w i)))

  pub target_known : HasTarget (numbered_group nodes 0) table (target_path (numbered_group nodes v)) row.target
  target_known =
      subst (λ (o : Option GroupPath). HasTarget (numbered_group nodes 0) table o row.target) is.target
      (have_target (numbered_group nodes 0) table (numbered_path nodes) row.target (λ w i. before w (in_right row.children.items (option_to_list row.target) w i)))

pub expansion_more : (nodes : List GroupAt) (table : List Group) (order : List ℕ) (k v : ℕ) (g : Group) → k < length order → v ≡ get_or order k 0 → v < length table
    → ((w : ℕ) → In w (take k order) → HoldsExpansion nodes table w) → Expands (numbered_group nodes 0) (numbered_path nodes v) (group_view g)
    → (u : ℕ) → In u (take (k + 1) order) → HoldsExpansion nodes (set table v g) u
expansion_more nodes table order k v g h e within known is u i =
    elim (cases_eq u v) [
      | inl p ↦ subst (HoldsExpansion nodes (set table v g)) (sym p)
          (subst (Expands (numbered_group nodes 0) (numbered_path nodes v)) (sym (value_set_same table v g within)) is)
      | inr q ↦ subst (Expands (numbered_group nodes 0) (numbered_path nodes u)) (sym (value_set_other table v u g q)) (known u (before q))
    ]
  where
    before : (u ≡ v → ⊥) → In u (take k order)
    before q = elim (in_cases (take k order) (get_or order k 0 ∷ []) u (subst (λ (xs : List ℕ). In u xs) (take_more order k 0 h) i)) [
      | inl j ↦ j
      | inr j ↦ elim j [ inl p ↦ absurd (q (p ∙ sym e)) | inr z ↦ absurd z ]
    ]

-- What holds of all numbers of a row holds of those of the child groups and of the target's.

all_left : (P : ℕ → Type 0) (xs ys : List ℕ) → All P (xs ++ ys) → All P xs
all_left P [] ys a = All-nil P
all_left P (x ∷ xs) ys a = All-cons P x xs (All-head P x (xs ++ ys) a) (all_left P xs ys (All-tail P x (xs ++ ys) a))

all_right : (P : ℕ → Type 0) (xs ys : List ℕ) → All P (xs ++ ys) → All P ys
all_right P [] ys a = a
all_right P (x ∷ xs) ys a = all_right P xs ys (All-tail P x (xs ++ ys) a)

some_within : (P : ℕ → Type 0) (o : Option ℕ) → All P (option_to_list o) → IfSome o P
some_within P None a = tt
some_within P (Some w) a = All-head P w [] a

target_within : (P : ℕ → Type 0) (row : Row) → All P (numbers_of row) → IfSome row.target P
target_within P row a = some_within P row.target (all_right P row.children.items (option_to_list row.target) a)

-- The row of a number, and what it says of its group.

known_row : (nodes : List GroupAt) (rows : List Row) (v : ℕ) (row : Row) → AreRows nodes rows → v < length rows → row ≡ get_or rows v row → IsRowOf nodes v row × (needs_by rows v ≡ numbers_of row)
known_row nodes rows v row each h e =
    let there : slice_get rows v ≡ Some row = slice_get_read rows (length rows) v row refl h e in
    (each v row there, needs_by_row rows v row there)

children_many : (nodes : List GroupAt) (v : ℕ) (row : Row) (g : GroupData) → IsRowOf nodes v row → numbered_group nodes v ≡ g → length row.children.items ≡ length (group_names g)
children_many nodes v row g is itself =
    sym (length-map row.children.items (numbered_path nodes))
    ∙ (ap length is.children
    ∙ (length-map (group_names (numbered_group nodes v)) (λ (name : List ℕ). numbered_path nodes v ++ name ∷ []) ∙ ap (λ (h : GroupData). length (group_names h)) itself))

group_read : (nodes : List Node) (v : ℕ) (n : Node) → v < length nodes → numbered_group (nodes_view nodes) v ≡ group_view (get_or nodes v n).group.now
group_read nodes v n h = ap (λ (m : GroupAt). m.1) (get_or-map group_node_view nodes v n nowhere h)

-- What stands in the row of a group of an order. The groups' tables have so many entries.
pub record RowAt (nodes : List Node) (rows : List Row) (v : ℕ) (row : Row) (n : Node) (many : ℕ) : Type 0 where
  pub here : v < length nodes
  pub is_row : IsRowOf (nodes_view nodes) v row
  pub own : needs_by rows v ≡ numbers_of row
  pub itself : numbered_group (nodes_view nodes) v ≡ group_view (get_or nodes v n).group.now
  pub children : All (λ w. w < many) row.children.items
  pub target : IfSome row.target (λ w. w < many)
  pub names : length row.children.items ≡ length (group_names (group_view (get_or nodes v n).group.now))

pub row_at : (nodes : List Node) (rows : List Row) (order : List ℕ) (k : ℕ) (row : Row) (n : Node) (many : ℕ) → AreRows (nodes_view nodes) rows → length rows ≡ length nodes → All (λ v. v < length nodes) order
    → k < length order → row ≡ get_or rows (get_or order k 0) row → many ≡ length nodes → RowAt nodes rows (get_or order k 0) row n many
row_at nodes rows order k row n many each long within h e len =
    let v = get_or order k 0 in
    let here : v < length nodes = All-get_or (λ x. x < length nodes) order k 0 h within in
    let known = known_row (nodes_view nodes) rows v row each (omega (arith, here, long)) e in
    let all : All (λ w. w < many) (numbers_of row) = subst (λ (m : ℕ). All (λ w. w < m) (numbers_of row)) (length-map nodes group_node_view ∙ sym len) known.0.within in
    let itself = group_read nodes v n here in
    record {
      here = here;
      is_row = known.0;
      own = known.1;
      itself = itself;
      children = all_left (λ w. w < many) row.children.items (option_to_list row.target) all;
      target = target_within (λ w. w < many) row all;
      names = children_many (nodes_view nodes) v row (group_view (get_or nodes v n).group.now) known.0 itself;
    }

-- what holds of a table holds of the slice that shows it
pub in_slice : (tree : GroupData) (table slice : List Group) (g h : GroupData) (path : GroupPath) (row : Row) → slice ≡ table → g ≡ h
    → HaveExpansions tree table (child_paths path g) row.children.items → HaveExpansions tree slice (child_paths path h) row.children.items
in_slice tree table slice g h path row same itself known =
    subst (λ (ts : List Group). HaveExpansions tree ts (child_paths path h) row.children.items) (sym same)
    (subst (λ (k : GroupData). HaveExpansions tree table (child_paths path k) row.children.items) itself known)

pub target_in_slice : (tree : GroupData) (table slice : List Group) (g h : GroupData) (row : Row) → slice ≡ table → g ≡ h
    → HasTarget tree table (target_path g) row.target → HasTarget tree slice (target_path h) row.target
target_in_slice tree table slice g h row same itself known =
    subst (λ (ts : List Group). HasTarget tree ts (target_path h) row.target) (sym same)
    (subst (λ (k : GroupData). HasTarget tree table (target_path k) row.target) itself known)

-- the expansion of the root
pub root_expands : (tree : GroupData) (nodes : List GroupAt) (table : List Group) → IsNumbering nodes → numbered_group nodes 0 ≡ tree → HoldsExpansion nodes table 0 → Expands tree [] (tabled_group table 0)
root_expands tree nodes table n itself known =
    subst (λ (t : GroupData). Expands t [] (tabled_group table 0)) itself
    (subst (λ (p : GroupPath). Expands (numbered_group nodes 0) p (tabled_group table 0)) (root_path (numbered_group nodes 0) nodes n.all n.named) known)
