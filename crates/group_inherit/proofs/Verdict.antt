-- From the numbered groups to the tree: its breaks, and that it has none.
use Rattle.std.proofs.Common.{◌≡◌, ℕ, ◌<◌, min, List, [], map, get_or, refl, sym, ap, ◌∙◌, subst, length, arith, All, Vec}
use Rattle.std.proofs.lemmas.List.{get_or_read, length-map}
use Rattle.std.specs.declared.alloc.Global.{Global}
use Rattle.ring.specs.declared.search.Found.{Found}
use Rattle.ring.specs.declared.search.Found.TheVariants.{Ring}
use Rattle.ring.specs.Answer.{IfRing}
use Rattle.ring.specs.Graph.{needs_in, IsGraph}
use Rattle.ring.specs.Order.{Follows}
use Rattle.ring.specs.Routes.{IsRing, HasNoRing}
use Rattle.ring.specs.Values.{Comes, IsTotal}
use Rattle.token_tree.specs.Tree.{Group, group}
use Rattle.group_inherit.specs.declared.fault.TreeFault.{TreeFault}
use Rattle.group_inherit.specs.declared.fault.TreeFault.TheVariants.{ExtendsTarget, ExtendsCycle, TooManyTokens, TooHigh, NoMemory}
use Rattle.group_inherit.specs.Extension.{GroupPath, groups_from, Lost, at_path, needs, lost_targets, count_of, Counts, ring_extension}
use Rattle.group_inherit.specs.Answer.{most_told, IsFirstLost, IsTreeBreak}
use Rattle.group_inherit.specs.inner.Faults.{IsLostTarget, IsReportOf}
use Rattle.group_inherit.specs.inner.Numbering.{GroupAt, numbered_group, AreNamed, IsNumbering, Places, ArePlaces, EachNumbered, EachRow, lost_nodes, needs_by, AreRows, AreListed, AreNeeds}
use Rattle.group_inherit.specs.declared.targets.Row.{Row}
use Rattle.group_inherit.specs.declared.numbered.Node.{Node}
use Rattle.group_inherit.specs.inner.View.{group_node_view, nodes_view}
use Rattle.group_inherit.specs.inner.Outcomes.{own_counts}
use Rattle.group_inherit.proofs.Counting.{counts_are}
use Rattle.group_inherit.proofs.Reports.{reported_at}
use Rattle.group_inherit.proofs.Trees.{lists_graph, lists_needs, lists_follow, some_nodes, at_tree, each_known, each_row, lost_are, tree_ring, tree_no_ring, tree_value}

module _ (nodes : List GroupAt) (n : IsNumbering nodes) where
  module _ (places : Places) (p : ArePlaces nodes (length nodes) places) where
    pub are_known : EachNumbered places nodes
    are_known = each_known (numbered_group nodes 0) nodes n.all n.named places p

    lost_same : lost_nodes places nodes ≡ lost_targets (numbered_group nodes 0)
    lost_same = lost_are (numbered_group nodes 0) nodes n.all n.named places p

    pub no_lost : lost_nodes places nodes ≡ [] → lost_targets (numbered_group nodes 0) ≡ []
    no_lost none = sym lost_same ∙ none

    pub lost_break : (f : TreeFault) → IsLostTarget (lost_nodes places nodes) f → IsTreeBreak (numbered_group nodes 0) f
    lost_break (ExtendsTarget path span) h = subst (λ (ls : List Lost). IsFirstLost ls path span) lost_same h
    lost_break (ExtendsCycle ring span) h = absurd h
    lost_break (TooManyTokens shown) h = absurd h
    lost_break (TooHigh height) h = absurd h
    lost_break NoMemory h = tt

    pub rows_are : (rows : List Row) → EachRow places nodes rows → AreRows nodes rows
    rows_are = each_row (numbered_group nodes 0) nodes n.all n.named places p

  -- where no target is lost, what is found by numbers is found in the tree
  module _ (lists : List (Vec ℕ Global)) (none : lost_targets (numbered_group nodes 0) ≡ []) (graph : IsGraph lists) (long : length lists ≡ length nodes) (are : AreNeeds nodes lists) where
    pub needs_some : 0 < length lists
    needs_some = omega (arith, some_nodes (numbered_group nodes 0) nodes n.all n.named, long)

    pub no_ring : HasNoRing (needs_in lists) 0 → HasNoRing (needs (numbered_group nodes 0)) []
    no_ring r = tree_no_ring (numbered_group nodes 0) nodes n.all n.named lists graph long are r

    value : {V : Type 0} (step : Group → List V → V) (x : V) → Comes (needs_in lists) (λ v xs. step (numbered_group nodes v) xs) 0 x → Comes (needs (numbered_group nodes 0)) (λ path xs. step (at_path (numbered_group nodes 0) path) xs) [] x
    value step x c = tree_value (numbered_group nodes 0) nodes n.all n.named lists graph long are step x c

    -- a ring that is reported is a break
    pub ring_break : (ring : List ℕ) (f : TreeFault) → IsRing (needs_in lists) 0 ring → All (λ v. v < length nodes) ring → IsReportOf nodes ring f → IsTreeBreak (numbered_group nodes 0) f
    ring_break ring (ExtendsTarget path span) r all h = absurd h
    ring_break ring (ExtendsCycle paths span) r all h =
        let tree = numbered_group nodes 0 in (
          none,
          (
            subst (λ (qs : List GroupPath). IsRing (needs tree) [] qs) (sym h.same) (tree_ring tree nodes n.all n.named lists graph long are ring r),
            (h.extension, ap (ring_extension tree) h.same ∙ (sym (reported_at tree nodes (at_tree tree nodes n.all n.named) ring all) ∙ h.among), h.at),
          ),
        )
    ring_break ring (TooManyTokens shown) r all h = absurd h
    ring_break ring (TooHigh height) r all h = absurd h
    ring_break ring NoMemory r all h = tt

    -- the total of the root's members is its count
    pub root_count : (own table : List ℕ) (shown : ℕ) → own ≡ own_counts nodes → length table ≡ length lists → shown ≡ get_or table 0 shown → IsTotal (needs_in lists) own 0 (get_or table 0 0)
        → (k : ℕ) × Counts (numbered_group nodes 0) [] k × (shown ≡ min k most_told)
    root_count own table shown e many read t =
        let u : IsTotal (needs_in lists) (own_counts nodes) 0 (get_or table 0 0) = subst (λ (xs : List ℕ). IsTotal (needs_in lists) xs 0 (get_or table 0 0)) e t in
        (u.0, value count_of u.0 (counts_are nodes (needs_in lists) 0 u.0 u.1), get_or_read table 0 shown (omega (arith, needs_some, many)) read 0 ∙ u.2)

-- the lists of nodes are those of the groups that the nodes show
pub as_many : (ns : List Node) (lists : List (Vec ℕ Global)) → length lists ≡ length ns → length lists ≡ length (nodes_view ns)
as_many ns lists e = e ∙ sym (length-map ns group_node_view)

-- what the slice of the lists is, where these have the numbers of the rows
module _ (ns : List Node) (rows : List Row) (long : length rows ≡ length ns) (each : AreRows (nodes_view ns) rows) (slice lists : List (Vec ℕ Global)) (is : slice ≡ lists) (listed : AreListed rows lists) where
  rows_long : length rows ≡ length (nodes_view ns)
  rows_long = long ∙ sym (length-map ns group_node_view)

  slice_listed : AreListed rows slice
  slice_listed = ap (map (λ (l : Vec ℕ Global). l.items)) is ∙ listed

  pub slice_graph : IsGraph slice
  slice_graph = lists_graph (nodes_view ns) rows slice rows_long each slice_listed

  pub slice_needs : AreNeeds (nodes_view ns) slice
  slice_needs = lists_needs (nodes_view ns) rows slice rows_long each slice_listed

  pub slice_follow : (order : List ℕ) → Follows (needs_in slice) [] order → Follows (needs_by rows) [] order
  slice_follow = lists_follow (nodes_view ns) rows slice rows_long each slice_listed

-- the ring that was found, of numbers of nodes
pub found_ring : (ns : List Node) (lists : List (Vec ℕ Global)) (f : Found) (ring : Vec ℕ Global) → length lists ≡ length ns → f ≡ Ring ring
    → IfRing f (IsRing (needs_in lists) 0) → IfRing f (All (λ v. v < length lists)) → IsRing (needs_in lists) 0 ring.items × All (λ v. v < length (nodes_view ns)) ring.items
found_ring ns lists f ring e is r all =
    (subst (λ (x : Found). IfRing x (IsRing (needs_in lists) 0)) is r, subst (λ (n : ℕ). All (λ v. v < n) ring.items) (as_many ns lists e) (subst (λ (x : Found). IfRing x (All (λ v. v < length lists))) is all))

-- the numbers of the paths of nodes
pub places_of : (ns : List Node) (places : Places) → ArePlaces (nodes_view ns) (length ns) places → ArePlaces (nodes_view ns) (length (nodes_view ns)) places
places_of ns places p = subst (λ (k : ℕ). ArePlaces (nodes_view ns) k places) (sym (length-map ns group_node_view)) p

first_group : (tree : Group) → numbered_group (groups_from [] tree) 0 ≡ tree
first_group (group ps cs) = refl

-- the groups of a tree are numbered, and the first is the root
pub numbering_of : (tree : Group) (nodes : List GroupAt) → nodes ≡ groups_from [] tree → AreNamed tree → IsNumbering nodes × (numbered_group nodes 0 ≡ tree)
numbering_of tree nodes all named =
    let itself : numbered_group nodes 0 ≡ tree = ap (λ (ns : List GroupAt). numbered_group ns 0) all ∙ first_group tree in
    (record { all = all ∙ ap (groups_from []) (sym itself); named = subst AreNamed (sym itself) named }, itself)
