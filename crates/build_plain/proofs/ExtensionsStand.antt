-- What holds of the strings that name targets holds of those of merged trees: of a lost target, and of a ring.
use Rattle.std.proofs.Common.{arith, ◌≡◌, ◌⊎◌, ℕ, zero, suc, Bool, true, false, cond, List, [], ◌∷◌, ◌++◌, Option, Some, None, if◌then◌else◌, option_map, option_and_then, unwrap_or, slice_get, length, codes, inl, inr, refl, sym, subst, ◌∙◌}
use Rattle.std.specs.Cmp.Lexicographic.{nat_list_cmp_total}
use Rattle.std.specs.FinMap as finite
use Rattle.std.specs.FinMap.{put}
use Rattle.std.specs.FinMap.Entries.{by_order}
use Rattle.std.specs.List.{AllByRecursion}
use Rattle.std.specs.Ordering.{eq_by_cmp}
use Rattle.std.specs.declared.cmp.Ordering.{Ordering}
use Rattle.std.specs.declared.cmp.Ordering.TheVariants.{Less, Equal, Greater}
use Rattle.ring.specs.Lists.{In}
use Rattle.ring.proofs.Ends.{in_cases}
use Rattle.tk_io.specs.Order.{text_cmp}
use Rattle.json_span.specs.Tree.{Tree, a_null, a_boolean, a_number, a_string, an_array, an_object, Placed, placed, Members, no_members, a_member, Entry, tree_of, entries_in, value_of_name}
use Rattle.token_tree.specs.Shape.{is_child, is_token, target_in, extension_at, extends_of, properties_of, def_of, put_children, child_of, group_of, shape_of}
use Rattle.token_tree.specs.Tree.{Extension, Properties, Child, a_token, a_group, Group, group, Children, no_children, child, Named, children_of, group_with}
use Rattle.group_inherit.specs.Extension.{GroupPath, as_group, group_at, at_path, groups_from, groups_among, groups_in, extension_of, Lost, lost_unless, lost_at, lost_among, has_group, lost_targets, same_path, where_target, extension_to, head_or, extension_along, extension_around, ring_extension}
use Rattle.group_inherit.specs.Merging.{either, over_properties, children_by_name, over, over_members, over_child, empty_group, merged_over}
use Rattle.build_plain.proofs.SpansInText.{SpansIn, PartsIn, MembersIn, AllIn, entries_all, under_name}

module _ (holds : Extension → Type 0) where
  abbrev IfExtends : Option Extension → Type 0
  IfExtends None = Unit {0}
  IfExtends (Some e) = holds e

  -- it holds of what each group of a tree says of its target
  abbrev mutual
    pub Extend : Group → Type 0
    Extend (group ps cs) = IfExtends ps.extends × AllExtend cs

    pub AllExtend : Children → Type 0
    AllExtend no_children = Unit {0}
    AllExtend (child name c cs) = ChildExtends c × AllExtend cs

    pub ChildExtends : Child → Type 0
    ChildExtends (a_token d) = Unit {0}
    ChildExtends (a_group g) = Extend g

  -- Maps of children as lists of entries.

  abbrev AllOf : List (List ℕ × Child) → Type 0
  AllOf es = AllByRecursion (λ e. ChildExtends e.1) es

  abbrev AllIn_ : Named → Type 0
  AllIn_ m = AllOf (finite.entries m)

  of_entries : (es : List (List ℕ × Child)) → AllOf es → AllExtend (children_of es)
  of_entries [] h = tt
  of_entries (e ∷ es) h = (h.0, of_entries es h.1)

  placed_in : (o : Ordering) (k : List ℕ) (c : Child) (e : List ℕ × Child) (es more : List (List ℕ × Child)) → ChildExtends c → AllOf (e ∷ es) → AllOf more
      → AllOf (by_order o ((k, c) ∷ e ∷ es) ((e.0, c) ∷ es) (e ∷ more))
  placed_in Less k c e es more h all rest = (h, all)
  placed_in Equal k c e es more h all rest = (h, all.1)
  placed_in Greater k c e es more h all rest = (all.0, rest)

  put_in : (k : List ℕ) (c : Child) (es : List (List ℕ × Child)) → ChildExtends c → AllOf es → AllOf (put text_cmp k c es)
  put_in k c [] h all = (h, tt)
  put_in k c (e ∷ es) h all = placed_in (text_cmp k e.0) k c e es (put text_cmp k c es) h all (put_in k c es h all.1)

  no_entries : (es : List (List ℕ × Child)) → length es ≡ 0 → AllOf es
  no_entries [] none = tt
  no_entries (e ∷ es) none = absurd (omega (arith, none))

  none_in : AllIn_ finite.empty
  none_in = no_entries (finite.entries finite.empty) (sym (finite.len-entries finite.empty) ∙ finite.len-empty text_cmp Child)

  more_in : (m : Named) (k : List ℕ) (c : Child) → AllIn_ m → ChildExtends c → AllIn_ (finite.insert m k c)
  more_in m k c all h = subst AllOf (sym (finite.entries-insert nat_list_cmp_total m k c)) (put_in k c (finite.entries m) h all)

  found_in : (b : Bool) (e : List ℕ × Child) (rest : Option Child) (c : Child) → cond b (Some e.1) rest ≡ Some c → ChildExtends e.1 → (rest ≡ Some c → ChildExtends c) → ChildExtends c
  found_in true e rest c is here later = (let one : e.1 ≡ c = cc in subst ChildExtends one here)
  found_in false e rest c is here later = later is

  find_in : (es : List (List ℕ × Child)) (k : List ℕ) (c : Child) → AllOf es → finite.find text_cmp k es ≡ Some c → ChildExtends c
  find_in [] k c all is = cc
  find_in (e ∷ es) k c all is = found_in (eq_by_cmp text_cmp k e.0) e (finite.find text_cmp k es) c is all.0 (find_in es k c all.1)

  get_in : (m : Named) (k : List ℕ) (c : Child) → AllIn_ m → finite.get m k ≡ Some c → ChildExtends c
  get_in m k c all is = find_in (finite.entries m) k c all (sym (finite.get-entries m k) ∙ is)

  by_name : (cs : Children) → AllExtend cs → AllIn_ (children_by_name cs)
  by_name no_children h = none_in
  by_name (child name c cs) h = more_in (children_by_name cs) name c (by_name cs h.1) h.0

  of_group : (ps : Properties) (m : Named) → IfExtends ps.extends → AllIn_ m → Extend (group_with ps m)
  of_group ps m own h = (own, of_entries (finite.entries m) h)

  -- Merged groups.

  nearer : (own earlier : Option Extension) → IfExtends own → IfExtends earlier → IfExtends (either own earlier)
  nearer None earlier h k = k
  nearer (Some e) earlier h k = h

  mutual
    over_in : (g h : Group) → Extend g → Extend h → Extend (over g h)
    over_in (group ps cs) (group qs ds) o p =
        of_group (over_properties ps qs) (over_members cs (children_by_name ds)) (nearer ps.extends qs.extends o.0 p.0) (members_over cs (children_by_name ds) o.1 (by_name ds p.1))

    members_over : (cs : Children) (es : Named) → AllExtend cs → AllIn_ es → AllIn_ (over_members cs es)
    members_over no_children es o h = h
    members_over (child name c cs) es o h =
        more_in (over_members cs es) name (over_child c (finite.get es name)) (members_over cs es o.1 h) (child_over c (finite.get es name) o.0 (λ d e. get_in es name d h e))

    child_over : (c : Child) (old : Option Child) → ChildExtends c → ((d : Child) → old ≡ Some d → ChildExtends d) → ChildExtends (over_child c old)
    child_over (a_token d) old o h = o
    child_over (a_group g) None o h = o
    child_over (a_group g) (Some (a_token d)) o h = o
    child_over (a_group g) (Some (a_group k)) o h = over_in g k o (h (a_group k) refl)

  pub merged_in : (before : Group) (trees : List Group) → Extend before → AllByRecursion Extend trees → Extend (merged_over before trees)
  merged_in before [] h all = h
  merged_in before (g ∷ gs) h all = merged_in (over g before) gs (over_in g before all.0 h) all.1

  -- Lost targets.

  own_in : (g : Group) → Extend g → IfExtends (extension_of g)
  own_in (group ps cs) h = h.0

  abbrev GroupIn : GroupPath × Group → Type 0
  GroupIn g = IfExtends (extension_of g.1)

  both_in : (xs ys : List (GroupPath × Group)) → AllByRecursion GroupIn xs → AllByRecursion GroupIn ys → AllByRecursion GroupIn (xs ++ ys)
  both_in [] ys h k = k
  both_in (x ∷ xs) ys h k = (h.0, both_in xs ys h.1 k)

  mutual
    groups_in_tree : (path : GroupPath) (g : Group) → Extend g → AllByRecursion GroupIn (groups_from path g)
    groups_in_tree path (group ps cs) h = (h.0, groups_in_children path cs h.1)

    groups_in_children : (path : GroupPath) (cs : Children) → AllExtend cs → AllByRecursion GroupIn (groups_among path cs)
    groups_in_children path no_children h = tt
    groups_in_children path (child name c cs) h =
        both_in (groups_in (path ++ name ∷ []) c) (groups_among path cs) (groups_in_child (path ++ name ∷ []) c h.0) (groups_in_children path cs h.1)

    groups_in_child : (path : GroupPath) (c : Child) → ChildExtends c → AllByRecursion GroupIn (groups_in path c)
    groups_in_child path (a_token d) h = tt
    groups_in_child path (a_group g) h = groups_in_tree path g h

  unless_in : (b : Bool) (path : GroupPath) (e : Extension) (l : Lost) → holds e → In l (lost_unless b path e) → holds l.extension
  unless_in true path e l h i = absurd i
  unless_in false path e l h (inl same) = subst (λ (x : Lost). holds x.extension) (sym same) h
  unless_in false path e l h (inr i) = absurd i

  lost_in : (is_group : GroupPath → Bool) (path : GroupPath) (o : Option Extension) (l : Lost) → IfExtends o → In l (lost_at is_group path o) → holds l.extension
  lost_in is_group path None l h i = absurd i
  lost_in is_group path (Some e) l h i = unless_in (is_group e.target) path e l h i

  among_in : (is_group : GroupPath → Bool) (gs : List (GroupPath × Group)) (l : Lost) → AllByRecursion GroupIn gs → In l (lost_among is_group gs) → holds l.extension
  among_in is_group [] l all i = absurd i
  among_in is_group (g ∷ gs) l all i = go (λ j. among_in is_group gs l all.1 j) (in_cases (lost_at is_group g.0 (extension_of g.1)) (lost_among is_group gs) l i)
    where
      go : (In l (lost_among is_group gs) → holds l.extension) → In l (lost_at is_group g.0 (extension_of g.1)) ⊎ In l (lost_among is_group gs) → holds l.extension
      go later (inl j) = lost_in is_group g.0 (extension_of g.1) l all.0 j
      go later (inr j) = later j

  in_slice : {A : Type 0} (xs : List A) (i : ℕ) (x : A) → slice_get xs i ≡ Some x → In x xs
  in_slice [] i x e = cc
  in_slice (y ∷ ys) zero x e = inl (let same : y ≡ x = cc in sym same)
  in_slice (y ∷ ys) (suc i) x e = inr (in_slice ys i x e)

  pub lost_holds : (tree : Group) → Extend tree → (l : Lost) (i : ℕ) → slice_get (lost_targets tree) i ≡ Some l → holds l.extension
  unfolding lost_targets
  lost_holds tree h l i e = among_in (has_group tree) (groups_from [] tree) l (groups_in_tree [] tree h) (in_slice (lost_targets tree) i l e)

  -- Rings.

  below_in : (o : Option Child) (path : GroupPath) (g : Group) → ((c : Child) → o ≡ Some c → ChildExtends c) → ((k : Group) → Extend k → group_at k path ≡ Some g → Extend g)
      → option_and_then (λ h. group_at h path) (option_and_then as_group o) ≡ Some g → Extend g
  below_in None path g all later is = cc
  below_in (Some (a_token d)) path g all later is = cc
  below_in (Some (a_group k)) path g all later is = later k (all (a_group k) refl) is

  at_in : (path : GroupPath) (tree g : Group) → Extend tree → group_at tree path ≡ Some g → Extend g
  at_in [] tree g h is = (let same : tree ≡ g = cc in subst Extend same h)
  at_in (name ∷ path) (group ps cs) g h is =
      below_in (finite.get (children_by_name cs) name) path g (λ c e. get_in (children_by_name cs) name c (by_name cs h.1) e) (λ k w e. at_in path k g w e) is

  or_empty : (o : Option Group) → ((g : Group) → o ≡ Some g → Extend g) → Extend (unwrap_or o empty_group)
  or_empty None h = (tt, tt)
  or_empty (Some g) h = h g refl

  path_in : (tree : Group) → Extend tree → (path : GroupPath) → Extend (at_path tree path)
  path_in tree h path = or_empty (group_at tree path) (λ g e. at_in path tree g h e)

  to_in : (next : GroupPath) (o : Option Extension) (e : Extension) → IfExtends o → option_and_then (where_target next) o ≡ Some e → holds e
  to_in next None e h is = cc
  to_in next (Some x) e h is = go (same_path x.target next) is
    where
      go : (b : Bool) → (if b then Some x else None) ≡ Some e → holds e
      go true k = (let same : x ≡ e = cc in subst holds same h)
      go false k = cc

  along_in : (tree : Group) → Extend tree → (first : GroupPath) (ring : List GroupPath) (e : Extension) → extension_along (λ path. path) (at_path tree) first ring ≡ Some e → holds e
  along_in tree h first [] e is = cc
  along_in tree h first (v ∷ vs) e is = go (extension_to (head_or first vs) (at_path tree v)) refl is (along_in tree h first vs e)
    where
      go : (o : Option Extension) → extension_to (head_or first vs) (at_path tree v) ≡ o → either o (extension_along (λ path. path) (at_path tree) first vs) ≡ Some e
          → (extension_along (λ path. path) (at_path tree) first vs ≡ Some e → holds e) → holds e
      go None k is later = later is
      go (Some x) k is later = to_in (head_or first vs) (extension_of (at_path tree v)) e (own_in (at_path tree v) (path_in tree h v)) (k ∙ is)

  pub ring_holds : (tree : Group) → Extend tree → (ring : List GroupPath) (e : Extension) → ring_extension tree ring ≡ Some e → holds e
  ring_holds tree h [] e is = cc
  ring_holds tree h (first ∷ vs) e is = along_in tree h first (first ∷ vs) e is

  -- The tree that a file shows.

  module _ (file text : List ℕ) (low high : ℕ) (string : (n : Placed) → SpansIn low high n → (e : Extension) → extension_at file n ≡ Some e → holds e) where
    some_in : (o : Option Extension) → ((e : Extension) → o ≡ Some e → holds e) → IfExtends o
    some_in None h = tt
    some_in (Some e) h = h e refl

    extends_in : (es : List Entry) → AllIn low high es → IfExtends (extends_of file es)
    extends_in es all = go (value_of_name (codes "$extends") es) (λ n k. under_name low high (codes "$extends") es n all k)
      where
        go : (o : Option Placed) → ((n : Placed) → o ≡ Some n → SpansIn low high n) → IfExtends (option_and_then (extension_at file) o)
        go None h = tt
        go (Some n) h = some_in (extension_at file n) (string n (h n refl))

    nothing : (v : Properties) → IfExtends v.extends → Extend (group_with v finite.empty)
    nothing v own = of_group v finite.empty own none_in

    if_child : (b : Bool) (cs : Named) (name : List ℕ) (c : Child) → AllIn_ cs → ChildExtends c → AllIn_ (if b then finite.insert cs name c else cs)
    if_child true cs name c h k = more_in cs name c h k
    if_child false cs name c h k = h

    if_token : (b : Bool) (n : Placed) (g : Group) → Extend g → ChildExtends (if b then a_token (def_of file text n) else a_group g)
    if_token true n g h = tt
    if_token false n g h = h

    mutual
      members_in : (ms : Members) → MembersIn low high ms → (cs : Named) → AllIn_ cs → AllIn_ (put_children file text ms cs)
      members_in no_members s cs h = h
      members_in (a_member name start end n ms) s cs h =
          members_in ms s.2 (if is_child name then finite.insert cs name (child_of file text n) else cs) (if_child (is_child name) cs name (child_of file text n) h (child_in n s.1))

      child_in : (n : Placed) → SpansIn low high n → ChildExtends (child_of file text n)
      child_in (placed v start end) s = if_token (is_token (placed v start end)) (placed v start end) (group_of file text v) (tree_in v s.3)

      tree_in : (v : Tree) → PartsIn low high v → Extend (group_of file text v)
      tree_in a_null s = nothing (properties_of file []) tt
      tree_in (a_boolean b) s = nothing (properties_of file []) tt
      tree_in (a_number k) s = nothing (properties_of file []) tt
      tree_in (a_string t) s = nothing (properties_of file []) tt
      tree_in (an_array ns) s = nothing (properties_of file []) tt
      tree_in (an_object ms) s =
          of_group (properties_of file (entries_in ms)) (put_children file text ms finite.empty) (extends_in (entries_in ms) (entries_all low high ms s)) (members_in ms s finite.empty none_in)

    pub shape_extends : (root : Placed) → SpansIn low high root → Extend (shape_of file text root)
    unfolding shape_of
    shape_extends (placed v start end) s = tree_in v s.3
