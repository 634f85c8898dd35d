-- A numbered tree, and the tree.
use Rattle.std.proofs.Common.{◌≡◌, ℕ, zero, suc, ◌<◌, Bool, true, List, [], ◌∷◌, ◌++◌, Option, Some, None, option_and_then, option_map, is_some, unwrap_or, inl, inr, refl, sym, ap, ◌∙◌, subst, map, length, get_or, arith, All, Vec, option_to_list, slice_get}
use Rattle.std.proofs.lemmas.List.{map-append, length-map}
use Rattle.std.proofs.lemmas.List.Elements.{All-nil, All-cons, All-head, All-tail}
use Rattle.std.proofs.lemmas.Option.{none-some, same_Some}
use Rattle.std.specs.FinMap as map_of
use Rattle.std.specs.declared.alloc.Global.{Global}
use Rattle.ring.specs.Graph.{needs_in, IsGraph}
use Rattle.ring.specs.Renaming.{IsRenaming}
use Rattle.ring.specs.Order.{Follows}
use Rattle.ring.specs.Lists.{In, AreApart}
use Rattle.ring.specs.Routes.{IsReached, IsRing, HasNoRing}
use Rattle.ring.specs.Values.{Comes}
use Rattle.ring.proofs.Ends.{in_cases}
use Rattle.ring.proofs.Renamings.{ring_named, no_ring_named, value_named, root_reached}
use Rattle.ring.proofs.Within.{within}
use Rattle.token_tree.specs.Tree.{Child, a_token, a_group, Group, group, Children, no_children, child}
use Rattle.group_inherit.specs.declared.targets.Row.{Row}
use Rattle.group_inherit.specs.Merging.{children_by_name, empty_group}
use Rattle.group_inherit.specs.Extension.{GroupPath, as_group, group_at, at_path, groups_from, children_in, target_path, child_paths, needs_of, needs, lost_among, has_group, lost_targets}
use Rattle.group_inherit.specs.inner.Numbering.{GroupAt, nowhere, numbered_group, numbered_path, AreNamed, AreNamedAmong, Places, ArePlaces, AreNumbered, EachNumbered, IsRow, EachRow, IsRowOf, AreRows, AreListed, numbers_of, needs_by, has_number, lost_nodes, AreNeeds}
use Rattle.group_inherit.proofs.Naming.{get_here, get_later}
use Rattle.group_inherit.proofs.Finding.{paths, Found, found_from, listed_from, apart_from, named_from, goes_on}

-- Lists by index.

pub in_at : {N : Type 0} (xs : List N) (v : ℕ) (d : N) → v < length xs → In (get_or xs v d) xs
in_at [] v d h = absurd (omega arith)
in_at (x ∷ xs) zero d h = inl refl
in_at (x ∷ xs) (suc v) d h = inr (in_at xs v d (omega arith))

pub record Index {N : Type 0} (x : N) (xs : List N) (d : N) : Type 0 where
  pub at : ℕ
  pub within : at < length xs
  pub is : get_or xs at d ≡ x

pub index_of : {N : Type 0} (xs : List N) (x d : N) → In x xs → Index x xs d
index_of [] x d i = absurd i
index_of (y ∷ xs) x d (inl e) = record { at = 0; within = omega arith; is = sym e }
index_of (y ∷ xs) x d (inr i) =
    let k = index_of xs x d i in
    record { at = suc k.at; within = omega (arith, k.within); is = k.is }

path_there : (ns : List GroupAt) (v : ℕ) → v < length ns → In (numbered_path ns v) (paths ns)
path_there [] v h = absurd (omega arith)
path_there (n ∷ ns) zero h = inl refl
path_there (n ∷ ns) (suc v) h = inr (path_there ns v (omega arith))

apart_index : (ns : List GroupAt) (v w : ℕ) → AreApart (paths ns) → v < length ns → w < length ns → numbered_path ns v ≡ numbered_path ns w → v ≡ w
apart_index [] v w a h k e = absurd (omega arith)
apart_index (n ∷ ns) zero zero a h k e = refl
apart_index (n ∷ ns) zero (suc w) a h k e = absurd (a.0 (subst (λ (p : GroupPath). In p (paths ns)) (sym e) (path_there ns w (omega arith))))
apart_index (n ∷ ns) (suc v) zero a h k e = absurd (a.0 (subst (λ (p : GroupPath). In p (paths ns)) e (path_there ns v (omega arith))))
apart_index (n ∷ ns) (suc v) (suc w) a h k e = ap suc (apart_index ns v w a.1 (omega arith) (omega arith) e)

-- The root.

first_of : (tree : Group) → 0 < length (groups_from [] tree)
first_of (group ps cs) = omega arith

first_path : (tree : Group) → numbered_path (groups_from [] tree) 0 ≡ []
first_path (group ps cs) = refl

agree : (o : Option ℕ) (r : Option Group) → ((v : ℕ) → o ≡ Some v → is_some r ≡ true) → ((h : Group) → o ≡ None → r ≡ Some h → ⊥) → is_some o ≡ is_some r
agree None None f g = refl
agree None (Some h) f g = absurd (g h refl refl)
agree (Some v) r f g = sym (f v refl)

known_or : (o : Option ℕ) → (o ≡ None → ⊥) → (v : ℕ) × (o ≡ Some v)
known_or None f = absurd (f refl)
known_or (Some v) f = (v, refl)

-- Rows.

in_all : (P : ℕ → Type 0) (xs : List ℕ) → ((x : ℕ) → In x xs → P x) → All P xs
in_all P [] h = All-nil P
in_all P (x ∷ xs) h = All-cons P x xs (h x (inl refl)) (in_all P xs (λ y i. h y (inr i)))

pub rows_long : (places : Places) (ns : List GroupAt) (rows : List Row) → EachRow places ns rows → length rows ≡ length ns
rows_long places [] [] e = refl
rows_long places [] (r ∷ rows) e = absurd e
rows_long places (n ∷ ns) [] e = absurd e
rows_long places (n ∷ ns) (r ∷ rows) e = ap suc (rows_long places ns rows e.1)

row_at : (places : Places) (ns : List GroupAt) (rows : List Row) (v : ℕ) (row : Row) → EachRow places ns rows → slice_get rows v ≡ Some row → IsRow places (get_or ns v nowhere) row
row_at places ns [] v row e s = absurd (none-some row s)
row_at places [] (r ∷ rows) v row e s = absurd e
row_at places (n ∷ ns) (r ∷ rows) zero row e s = subst (IsRow places n) (same_Some r row s) e.0
row_at places (n ∷ ns) (r ∷ rows) (suc v) row e s = row_at places ns rows v row e.1 s

no_child : (xs : List ℕ) (ys : List (Option ℕ)) → map (λ (v : ℕ). Some v) xs ≡ ys → (P : ℕ → Type 0) → ((v : ℕ) → In (Some v) ys → P v) → (x : ℕ) → In x xs → P x
no_child [] ys e P h x i = absurd i
no_child (z ∷ xs) [] e P h x i = absurd (cc)
no_child (z ∷ xs) (y ∷ ys) e P h x i =
    let p : Some z ≡ y = cc in
    let q : map (λ (v : ℕ). Some v) xs ≡ ys = cc in
    elim i [
      | inl k ↦ h x (inl (ap (λ (v : ℕ). Some v) k ∙ p))
      | inr j ↦ no_child xs ys q P (λ v l. h v (inr l)) x j
    ]

-- what stands in a row is found
found_in_row : (places : Places) (qs : List GroupPath) (v : ℕ) → In (Some v) (map (map_of.get places) qs) → (q : GroupPath) × (map_of.get places q ≡ Some v)
found_in_row places [] v i = absurd i
found_in_row places (q ∷ qs) v (inl e) = (q, sym e)
found_in_row places (q ∷ qs) v (inr i) = found_in_row places qs v i

named_row : (nodes : List GroupAt) (n : ℕ) (places : Places) → ArePlaces nodes n places → (row : List ℕ) (qs : List GroupPath) → map (λ (v : ℕ). Some v) row ≡ map (map_of.get places) qs → map (numbered_path nodes) row ≡ qs
named_row nodes n places p [] [] e = refl
named_row nodes n places p [] (q ∷ qs) e = absurd (cc)
named_row nodes n places p (v ∷ row) [] e = absurd (cc)
named_row nodes n places p (v ∷ row) (q ∷ qs) e =
    let f : Some v ≡ map_of.get places q = cc in
    let r : map (λ (x : ℕ). Some x) row ≡ map (map_of.get places) qs = cc in
    ap (λ (x : GroupPath). x ∷ map (numbered_path nodes) row) (p.found q v (sym f)).1 ∙ ap (λ (xs : List GroupPath). q ∷ xs) (named_row nodes n places p row qs r)

named_target : (nodes : List GroupAt) (n : ℕ) (places : Places) → ArePlaces nodes n places → (t : Option ℕ) (o : Option GroupPath)
    → option_map (λ (v : ℕ). Some v) t ≡ option_map (map_of.get places) o → option_map (numbered_path nodes) t ≡ o
named_target nodes n places p None None e = refl
named_target nodes n places p None (Some q) e = absurd (none-some (map_of.get places q) e)
named_target nodes n places p (Some v) None e = absurd (none-some (Some v) (sym e))
named_target nodes n places p (Some v) (Some q) e = ap (λ (x : GroupPath). Some x) (p.found q v (sym (same_Some (Some v) (map_of.get places q) e))).1

-- a target's number is found
found_target : (places : Places) (t : Option ℕ) (o : Option GroupPath) → option_map (λ (v : ℕ). Some v) t ≡ option_map (map_of.get places) o
    → (v : ℕ) → In v (option_to_list t) → (q : GroupPath) × (map_of.get places q ≡ Some v)
found_target places None o e v i = absurd i
found_target places (Some w) None e v i = absurd (none-some (Some w) (sym e))
found_target places (Some w) (Some q) e v (inl p) = (q, sym (same_Some (Some w) (map_of.get places q) e) ∙ ap (λ (x : ℕ). Some x) (sym p))
found_target places (Some w) (Some q) e v (inr i) = absurd i

-- the row by paths
row_of : (nodes : List GroupAt) (n : ℕ) (places : Places) (v : ℕ) (row : Row) → n ≡ length nodes → ArePlaces nodes n places → IsRow places (get_or nodes v nowhere) row → IsRowOf nodes v row
row_of nodes n places v row many p r = record {
  children = named_row nodes n places p row.children.items (child_paths (numbered_path nodes v) (numbered_group nodes v)) r.children;
  target = named_target nodes n places p row.target (target_path (numbered_group nodes v)) r.target;
  within = in_all (λ w. w < length nodes) (numbers_of row) (λ w i. elim (in_cases row.children.items (option_to_list row.target) w i) [
    | inl j ↦ no_child row.children.items (map (map_of.get places) (child_paths (numbered_path nodes v) (numbered_group nodes v))) r.children (λ x. x < length nodes)
        (λ x k. below (found_in_row places (child_paths (numbered_path nodes v) (numbered_group nodes v)) x k)) w j
    | inr j ↦ below (found_target places row.target (target_path (numbered_group nodes v)) r.target w j)
  ]);
}
  where
    below : {x : ℕ} → (q : GroupPath) × (map_of.get places q ≡ Some x) → x < length nodes
    below {x} f = subst (λ (m : ℕ). x < m) many (p.found f.0 x f.1).0

-- Rows, each in one list.

all_by_index : (P : Row → Type 0) (rows : List Row) → ((v : ℕ) (row : Row) → slice_get rows v ≡ Some row → P row) → All P rows
all_by_index P [] h = All-nil P
all_by_index P (r ∷ rows) h = All-cons P r rows (h 0 r refl) (all_by_index P rows (λ v row s. h (suc v) row s))

all_listed : (P : List ℕ → Type 0) (rows : List Row) (lists : List (Vec ℕ Global)) → AreListed rows lists → All (λ r. P (numbers_of r)) rows → All (λ l. P l.items) lists
all_listed P rows [] e a = All-nil (λ l. P l.items)
all_listed P [] (l ∷ lists) e a = absurd (cc)
all_listed P (r ∷ rows) (l ∷ lists) e a =
    let p : l.items ≡ numbers_of r = cc in
    let q : AreListed rows lists = cc in
    All-cons (λ m. P m.items) l lists (subst P (sym p) (All-head (λ s. P (numbers_of s)) r rows a)) (all_listed P rows lists q (All-tail (λ s. P (numbers_of s)) r rows a))

needs_same : (rows : List Row) (lists : List (Vec ℕ Global)) → AreListed rows lists → (v : ℕ) → needs_in lists v ≡ needs_by rows v
needs_same [] [] e v = refl
needs_same [] (l ∷ lists) e v = absurd (cc)
needs_same (r ∷ rows) [] e v = absurd (cc)
needs_same (r ∷ rows) (l ∷ lists) e zero = let p : l.items ≡ numbers_of r = cc in p
needs_same (r ∷ rows) (l ∷ lists) e (suc v) = let q : AreListed rows lists = cc in needs_same rows lists q v

pub needs_by_row : (rows : List Row) (v : ℕ) (row : Row) → slice_get rows v ≡ Some row → needs_by rows v ≡ numbers_of row
needs_by_row [] v row s = absurd (none-some row s)
needs_by_row (r ∷ rows) zero row s = ap numbers_of (same_Some r row s)
needs_by_row (r ∷ rows) (suc v) row s = needs_by_row rows v row s

row_there : (rows : List Row) (v : ℕ) → v < length rows → (row : Row) × (slice_get rows v ≡ Some row)
row_there [] v h = absurd (omega arith)
row_there (r ∷ rows) zero h = (r, refl)
row_there (r ∷ rows) (suc v) h = row_there rows v (omega arith)

named_option : (path : ℕ → GroupPath) (o : Option ℕ) → map path (option_to_list o) ≡ option_to_list (option_map path o)
named_option path None = refl
named_option path (Some w) = refl

-- what a row names is what its group needs
pub row_needs : (nodes : List GroupAt) (v : ℕ) (row : Row) → IsRowOf nodes v row → map (numbered_path nodes) (numbers_of row) ≡ needs_of (numbered_path nodes v) (numbered_group nodes v)
row_needs nodes v row r =
    map-append (numbered_path nodes) row.children.items (option_to_list row.target)
    ∙ (ap (λ (ps : List GroupPath). ps ++ map (numbered_path nodes) (option_to_list row.target)) r.children
    ∙ ap (λ (ps : List GroupPath). child_paths (numbered_path nodes v) (numbered_group nodes v) ++ ps) (named_option (numbered_path nodes) row.target ∙ ap option_to_list r.target))

module _ (nodes : List GroupAt) (rows : List Row) (lists : List (Vec ℕ Global)) (long : length rows ≡ length nodes) (each : AreRows nodes rows) (same : AreListed rows lists) where
  pub lists_long : length lists ≡ length nodes
  lists_long = sym (length-map lists (λ l. l.items)) ∙ (ap length same ∙ (length-map rows numbers_of ∙ long))

  pub lists_graph : IsGraph lists
  lists_graph = all_listed (λ ws. All (λ w. w < length lists) ws) rows lists same (all_by_index (λ r. All (λ w. w < length lists) (numbers_of r)) rows
      (λ v row s. subst (λ (n : ℕ). All (λ w. w < n) (numbers_of row)) (sym lists_long) (each v row s).within))

  pub lists_needs : AreNeeds nodes lists
  lists_needs v h =
      let t = row_there rows v (omega (arith, h, long)) in
      ap (map (numbered_path nodes)) (needs_same rows lists same v ∙ needs_by_row rows v t.0 t.1) ∙ row_needs nodes v t.0 (each v t.0 t.1)

  pub lists_follow : (order : List ℕ) → Follows (needs_in lists) [] order → Follows (needs_by rows) [] order
  lists_follow order f =
      let steps : needs_in lists ≡ needs_by rows = λ i. λ v. needs_same rows lists same v i in
      subst (λ (needs : ℕ → List ℕ). Follows needs [] order) steps f

module _ (tree : Group) (nodes : List GroupAt) (all : nodes ≡ groups_from [] tree) (names : AreNamed tree) where
  pub some_nodes : 0 < length nodes
  some_nodes = omega (arith, first_of tree, ap length all)

  pub root_path : numbered_path nodes 0 ≡ []
  root_path = ap (λ (ns : List GroupAt). numbered_path ns 0) all ∙ first_path tree

  listed_at : (v : ℕ) → v < length nodes → In {N = GroupAt} (get_or nodes v nowhere) (groups_from [] tree)
  listed_at v h = subst (λ (es : List GroupAt). In {N = GroupAt} (get_or nodes v nowhere) es) all (in_at nodes v nowhere h)

  -- each number's group is the one at its path
  pub found_at : (v : ℕ) → v < length nodes → group_at tree (numbered_path nodes v) ≡ Some (numbered_group nodes v)
  found_at v h =
      let f : Found [] tree (numbered_path nodes v) (numbered_group nodes v) = found_from [] tree (numbered_path nodes v) (numbered_group nodes v) names (listed_at v h) in
      ap (group_at tree) f.is ∙ f.there

  pub at_tree : (v : ℕ) → v < length nodes → at_path tree (numbered_path nodes v) ≡ numbered_group nodes v
  at_tree v h = ap (λ (o : Option Group). unwrap_or o empty_group) (found_at v h)

  -- and each group has a number
  pub numbered_at : (q : GroupPath) (h : Group) → group_at tree q ≡ Some h → (v : ℕ) × (v < length nodes) × (numbered_path nodes v ≡ q)
  numbered_at q h e =
      let k : Index {N = GroupAt} (q, h) nodes nowhere = index_of nodes (q, h) nowhere (subst (λ (es : List GroupAt). In {N = GroupAt} (q, h) es) (sym all) (listed_from [] tree q h e)) in
      (k.at, k.within, ap (λ (x : GroupAt). x.0) k.is)

  pub apart_paths : (v w : ℕ) → v < length nodes → w < length nodes → numbered_path nodes v ≡ numbered_path nodes w → v ≡ w
  apart_paths v w h k e = apart_index nodes v w (subst (λ (es : List GroupAt). AreApart (paths es)) (sym all) (apart_from [] tree names)) h k e

  module _ (places : Places) (p : ArePlaces nodes (length nodes) places) where
    known : (q : GroupPath) → is_some (map_of.get places q) ≡ is_some (group_at tree q)
    known q = agree (map_of.get places q) (group_at tree q)
        (λ v e. (
        let f = p.found q v e in
        ap is_some (ap (group_at tree) (sym f.1) ∙ found_at v f.0)))
        (λ h e g. (
        let n = numbered_at q h g in
        p.missing q n.0 e n.1 n.2))

    known_at : (q : GroupPath) (h : Group) → group_at tree q ≡ Some h → (v : ℕ) × (map_of.get places q ≡ Some v)
    known_at q h e = known_or (map_of.get places q) (λ none. (let n = numbered_at q h e in p.missing q n.0 none n.1 n.2))

    known_among : (path : GroupPath) (cs : Children) → AreNamedAmong cs → ((name : List ℕ) (h : Group) → map_of.get (children_by_name cs) name ≡ Some (a_group h) → (v : ℕ) × (map_of.get places (path ++ name ∷ []) ≡ Some v)) → AreNumbered places path cs
    known_among path no_children a h = tt
    known_among path (child name (a_token d) cs) a h = (tt, known_among path cs a.2 (λ n g e. h n g (get_later name (a_token d) cs n (a_group g) a.0 e)))
    known_among path (child name (a_group g) cs) a h = (h name g (get_here name (a_group g) cs), known_among path cs a.2 (λ n f e. h n f (get_later name (a_group g) cs n (a_group f) a.0 e)))

    known_children : (path : GroupPath) (g : Group) → AreNamed g → group_at tree path ≡ Some g → AreNumbered places path (children_in g)
    known_children path (group ps cs) a f = known_among path cs a (λ name h e. known_at (path ++ name ∷ []) h (goes_on tree path (group ps cs) (name ∷ []) f ∙ below (map_of.get (children_by_name cs) name) h e))
      where
        below : (o : Option Child) (h : Group) → o ≡ Some (a_group h) → option_and_then (λ x. group_at x []) (option_and_then as_group o) ≡ Some h
        below o h e = ap (λ (r : Option Child). option_and_then (λ (x : Group). group_at x []) (option_and_then as_group r)) e

    known_each : (ns : List GroupAt) → ((n : GroupAt) → In n ns → AreNumbered places n.0 (children_in n.1)) → EachNumbered places ns
    known_each [] h = tt
    known_each (n ∷ ns) h = (h n (inl refl), known_each ns (λ m i. h m (inr i)))

    -- the child groups of each have numbers
    pub each_known : EachNumbered places nodes
    each_known = known_each nodes (λ n i. (
        let k = index_of nodes n nowhere i in
        let v = k.at in
        subst (λ (m : GroupAt). AreNumbered places m.0 (children_in m.1)) k.is
        (known_children (numbered_path nodes v) (numbered_group nodes v) (named_from [] tree (numbered_path nodes v) (numbered_group nodes v) names (listed_at v k.within)) (found_at v k.within))))

    -- the targets that have no number are the lost ones
    pub lost_are : lost_nodes places nodes ≡ lost_targets tree
    unfolding lost_targets
    lost_are =
        let same : has_number places ≡ has_group tree = λ i. λ q. known q i in
        ap (λ (is_group : GroupPath → Bool). lost_among is_group nodes) same ∙ ap (lost_among (has_group tree)) all

    -- the rows have what the groups need
    pub each_row : (rows : List Row) → EachRow places nodes rows → AreRows nodes rows
    each_row rows made v row s = row_of nodes (length nodes) places v row refl p (row_at places nodes rows v row made s)

  module _ (rows : List (Vec ℕ Global)) (graph : IsGraph rows) (long : length rows ≡ length nodes) (are : AreNeeds nodes rows) where
    reached_below : (v : ℕ) → IsReached (needs_in rows) 0 v → v < length nodes
    reached_below v r = omega (arith, within rows 0 v graph (omega (arith, some_nodes, long)) r, long)

    renaming : IsRenaming (numbered_path nodes) (needs_in rows) 0 (needs tree)
    renaming = record {
      keeps = λ v r. ap (needs_of (numbered_path nodes v)) (at_tree v (reached_below v r)) ∙ sym (are v (reached_below v r));
      apart = λ v w r s e. apart_paths v w (reached_below v r) (reached_below w s) e;
    }

    pub tree_ring : (ring : List ℕ) → IsRing (needs_in rows) 0 ring → IsRing (needs tree) [] (map (numbered_path nodes) ring)
    tree_ring ring r = subst (λ (p : GroupPath). IsRing (needs tree) p (map (numbered_path nodes) ring)) root_path (ring_named (numbered_path nodes) (needs_in rows) 0 (needs tree) renaming ring r)

    pub tree_no_ring : HasNoRing (needs_in rows) 0 → HasNoRing (needs tree) []
    tree_no_ring r = subst (λ (p : GroupPath). HasNoRing (needs tree) p) root_path (no_ring_named (numbered_path nodes) (needs_in rows) 0 (needs tree) renaming r)

    -- the value of the root, from the values of what each group needs
    pub tree_value : {V : Type 0} (step : Group → List V → V) (x : V) → Comes (needs_in rows) (λ v xs. step (numbered_group nodes v) xs) 0 x → Comes (needs tree) (λ path xs. step (at_path tree path) xs) [] x
    tree_value {V} step x c =
        subst (λ (p : GroupPath). Comes (needs tree) (λ path xs. step (at_path tree path) xs) p x) root_path
        (value_named (numbered_path nodes) (needs_in rows) 0 (needs tree) renaming (λ v xs. step (numbered_group nodes v) xs) (λ path xs. step (at_path tree path) xs)
        (λ v xs r. ap (λ (g : Group). step g xs) (at_tree v (reached_below v r))) 0 (root_reached (needs_in rows) 0) c)
