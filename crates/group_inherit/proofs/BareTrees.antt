-- A tree in which no group extends another is its own expansion, and breaks no rule but those of its size.
use Rattle.std.proofs.Common.{◌≡◌, ℕ, ◌+◌, ◌≤◌, min, max, T, List, [], ◌∷◌, ◌++◌, Option, None, Some, option_map, option_and_then, option_to_list, unwrap_or, inl, inr, refl, sym, ap, subst, ◌∙◌, map, sum, arith, append-nil, append_assoc}
use Rattle.std.proofs.lemmas.List.Sums.{sum_by-cons}
use Rattle.std.specs.Cmp.Lexicographic.{nat_list_cmp_total}
use Rattle.std.specs.FinMap as map_of
use Rattle.std.specs.FinMap.Entries.{find, is_sorted}
use Rattle.ring.specs.Lists.{In}
use Rattle.ring.specs.Routes.{HasNoRing}
use Rattle.ring.specs.Values.{Comes, comes, AllCome, none, more}
use Rattle.ring.proofs.Ends.{Ends, ends, no_ring}
use Rattle.tk_io.specs.Order.{text_cmp}
use Rattle.tk_io.proofs.TextMaps.{text_cmp-IsAntisymmetric}
use Rattle.token_tree.specs.Tree.{Properties, Child, a_token, a_group, Group, group, Children, no_children, child, children_of, group_with}
use Rattle.group_inherit.specs.Ordered.{child_entries}
use Rattle.group_inherit.specs.inner.Bare.{IsBare, AreBare, IsBareChild, member_count_of, member_count_among, member_count_in, levels_of, levels_among, levels_in}
use Rattle.group_inherit.specs.Merging.{children_by_name, empty_group}
use Rattle.group_inherit.specs.Expansion.{without_extension, expanded, Expands, expands, AreExpanded, no_member, own_token, child_group, IsInherited, no_target}
use Rattle.group_inherit.specs.Extension.{GroupPath, as_group, group_at, at_path, groups_from, groups_among, groups_in, children_in, extension_of, target_path, names_of_groups, needs_of, needs, Lost, lost_at, lost_among, has_group, lost_targets, how_many, count_of, tokens_height, greatest_raised, height_of}
use Rattle.group_inherit.specs.inner.Numbering.{GroupAt, LacksName, AreNamed, AreNamedAmong, AreNamedIn}
use Rattle.group_inherit.specs.Answer.{most_members, most_levels, most_told, IsCounted, IsSound}
use Rattle.group_inherit.proofs.Finding.{goes_on}
use Rattle.group_inherit.proofs.Naming.{sorted_lacks, sorted_rest, get_here, get_later}
use Rattle.group_inherit.proofs.OrderedTrees.{again}
use Rattle.group_inherit.proofs.Overs.{get_named}

get_of : (cs : Children) (q : List ℕ) → map_of.get (children_by_name cs) q ≡ find text_cmp q (child_entries cs)
get_of cs q = ap (λ (ds : Children). map_of.get (children_by_name ds) q) (sym (again cs)) ∙ get_named (child_entries cs) q

-- children in the order of their names are those of their map
kept : (cs : Children) → T (is_sorted text_cmp (child_entries cs)) → map_of.entries (children_by_name cs) ≡ child_entries cs
kept cs h =
    ap map_of.entries (map_of.same_map nat_list_cmp_total text_cmp-IsAntisymmetric (children_by_name cs) (map_of.from_sorted (child_entries cs)) (λ q. get_of cs q ∙ sym (map_of.get-from_sorted text_cmp (child_entries cs) q h)))
    ∙ map_of.entries-from_sorted text_cmp (child_entries cs) h

mutual
  pub bare_named : (g : Group) → IsBare g → AreNamed g
  bare_named (group ps cs) b = bare_named_among cs b.1 b.2

  bare_named_among : (cs : Children) → T (is_sorted text_cmp (child_entries cs)) → AreBare cs → AreNamedAmong cs
  bare_named_among no_children s b = tt
  bare_named_among (child name c cs) s b = (
    subst (λ (ds : Children). LacksName name ds) (again cs) (sorted_lacks (name, c) (child_entries cs) s),
    bare_named_in c b.0,
    bare_named_among cs (sorted_rest (name, c) (child_entries cs) s) b.1,
  )

  bare_named_in : (c : Child) → IsBareChild c → AreNamedIn c
  bare_named_in (a_token d) b = tt
  bare_named_in (a_group g) b = bare_named g b

-- No target is lost.

lost_join : (tree : Group) (xs ys : List GroupAt) → lost_among (has_group tree) (xs ++ ys) ≡ lost_among (has_group tree) xs ++ lost_among (has_group tree) ys
lost_join tree [] ys = refl
lost_join tree (x ∷ xs) ys =
    ap (λ (ls : List Lost). lost_at (has_group tree) x.0 (extension_of x.1) ++ ls) (lost_join tree xs ys)
    ∙ sym (append_assoc (lost_at (has_group tree) x.0 (extension_of x.1)) (lost_among (has_group tree) xs) (lost_among (has_group tree) ys))

mutual
  none_lost : (tree : Group) (path : GroupPath) (g : Group) → IsBare g → lost_among (has_group tree) (groups_from path g) ≡ []
  none_lost tree path (group ps cs) b = ap (λ o. lost_at (has_group tree) path o ++ lost_among (has_group tree) (groups_among path cs)) b.0 ∙ none_lost_among tree path cs b.2

  none_lost_among : (tree : Group) (path : GroupPath) (cs : Children) → AreBare cs → lost_among (has_group tree) (groups_among path cs) ≡ []
  none_lost_among tree path no_children b = refl
  none_lost_among tree path (child name c cs) b =
      lost_join tree (groups_in (path ++ name ∷ []) c) (groups_among path cs)
      ∙ (ap (λ (ls : List Lost). ls ++ lost_among (has_group tree) (groups_among path cs)) (none_lost_in tree (path ++ name ∷ []) c b.0) ∙ none_lost_among tree path cs b.1)

  none_lost_in : (tree : Group) (path : GroupPath) (c : Child) → IsBareChild c → lost_among (has_group tree) (groups_in path c) ≡ []
  none_lost_in tree path (a_token d) b = refl
  none_lost_in tree path (a_group g) b = none_lost tree path g b

pub bare_targets : (tree : Group) → IsBare tree → lost_targets tree ≡ []
unfolding lost_targets
bare_targets tree b = none_lost tree [] tree b

-- Values from the values of child groups.

abbrev group_alone : Child → List Group
group_alone (a_token d) = []
group_alone (a_group g) = g ∷ []

abbrev pub groups_of : Children → List Group
groups_of no_children = []
groups_of (child name c cs) = group_alone c ++ groups_of cs

below : (o : Option Child) (h : Group) → o ≡ Some (a_group h) → option_and_then (λ x. group_at x []) (option_and_then as_group o) ≡ Some h
below o h e = ap (λ (r : Option Child). option_and_then (λ (x : Group). group_at x []) (option_and_then as_group r)) e

module _ (tree : Group) {V : Type 0} (step : Group → List V → V) (value : Group → V)
    (same : (ps : Properties) (cs : Children) → IsBare (group ps cs) → step (group ps cs) (map value (groups_of cs)) ≡ value (group ps cs)) where
  mutual
    come_at : (path : GroupPath) (g : Group) → group_at tree path ≡ Some g → IsBare g → Comes (needs tree) (λ p xs. step (at_path tree p) xs) path (value g)
    come_at path (group ps cs) f b =
        let at : at_path tree path ≡ group ps cs = ap (λ (o : Option Group). unwrap_or o empty_group) f in
        let own : List GroupPath = map (λ name. path ++ name ∷ []) (names_of_groups cs) in
        let needed : needs tree path ≡ own = ap (needs_of path) at ∙ (ap (λ o. own ++ option_to_list (option_map (λ e. e.target) o)) b.0 ∙ append-nil own) in
        let all : AllCome (needs tree) (λ p xs. step (at_path tree p) xs) (needs tree path) (map value (groups_of cs)) =
        subst (λ (ws : List GroupPath). AllCome (needs tree) (λ p xs. step (at_path tree p) xs) ws (map value (groups_of cs))) (sym needed)
        (all_come path cs (bare_named (group ps cs) b) (λ name h e. goes_on tree path (group ps cs) (name ∷ []) f ∙ below (map_of.get (children_by_name cs) name) h e) b.2) in
        subst (Comes (needs tree) (λ p xs. step (at_path tree p) xs) path) (ap (λ (h : Group). step h (map value (groups_of cs))) at ∙ same ps cs b) (comes all)

    all_come : (path : GroupPath) (cs : Children) → AreNamedAmong cs → ((name : List ℕ) (h : Group) → map_of.get (children_by_name cs) name ≡ Some (a_group h) → group_at tree (path ++ name ∷ []) ≡ Some h) → AreBare cs
        → AllCome (needs tree) (λ p xs. step (at_path tree p) xs) (map (λ name. path ++ name ∷ []) (names_of_groups cs)) (map value (groups_of cs))
    all_come path no_children a h b = none
    all_come path (child name (a_token d) cs) a h b = all_come path cs a.2 (λ n g e. h n g (get_later name (a_token d) cs n (a_group g) a.0 e)) b.1
    all_come path (child name (a_group g) cs) a h b =
        more (come_at (path ++ name ∷ []) g (h name g (get_here name (a_group g) cs)) b.0)
        (all_come path cs a.2 (λ n f e. h n f (get_later name (a_group g) cs n (a_group f) a.0 e)) b.1)

  come : IsBare tree → Comes (needs tree) (λ p xs. step (at_path tree p) xs) [] (value tree)
  come b = come_at [] tree refl b

-- The count.

count_same : (cs : Children) → how_many cs + sum (map member_count_of (groups_of cs)) ≡ member_count_among cs
count_same no_children = omega arith
count_same (child name (a_token d) cs) = omega (arith, count_same cs)
count_same (child name (a_group g) cs) = omega (arith, sum_by-cons (λ (y : ℕ). y) (member_count_of g) (map member_count_of (groups_of cs)), count_same cs)

pub bare_count : (tree : Group) → IsBare tree → Comes (needs tree) (λ path counts. count_of (at_path tree path) counts) [] (member_count_of tree)
bare_count tree b = come tree count_of member_count_of (λ ps cs _. count_same cs) b

-- The height.

height_same : (cs : Children) → max (tokens_height cs) (greatest_raised (names_of_groups cs) (map levels_of (groups_of cs))) ≡ levels_among cs
height_same no_children = refl
height_same (child name (a_token d) cs) = omega (arith, height_same cs)
height_same (child name (a_group g) cs) = omega (arith, height_same cs)

pub bare_height : (tree : Group) → IsBare tree → Comes (needs tree) (λ path heights. height_of (at_path tree path) heights) [] (levels_of tree)
bare_height tree b = come tree height_of levels_of (λ ps cs _. height_same cs) b

mutual
  -- a group has as many members as levels, or more
  pub low_levels : (g : Group) → levels_of g ≤ member_count_of g
  low_levels (group ps cs) = low_among cs

  low_among : (cs : Children) → levels_among cs ≤ member_count_among cs
  low_among no_children = omega arith
  low_among (child name c cs) = omega (arith, low_in c, low_among cs)

  low_in : (c : Child) → levels_in c ≤ member_count_in c + 1
  low_in (a_token d) = omega arith
  low_in (a_group g) = omega (arith, low_levels g)

-- The expansion.

expanded_same : (ps : Properties) (cs : Children) → IsBare (group ps cs) → expanded (group ps cs) cs None ≡ group ps cs
expanded_same ps cs b =
    let without : without_extension ps ≡ ps = λ i. record { kind = ps.kind; deprecated = ps.deprecated; extends = sym b.0 i } in
    ap (λ (qs : Properties). group_with qs (children_by_name cs)) without
    ∙ (ap (λ es. group ps (children_of es)) (kept cs b.1) ∙ ap (group ps) (again cs))

module _ (tree : Group) where
  mutual
    bare_at : (path : GroupPath) (g : Group) → group_at tree path ≡ Some g → IsBare g → Expands tree path g
    bare_at path (group ps cs) f b =
        let at : at_path tree path ≡ group ps cs = ap (λ (o : Option Group). unwrap_or o empty_group) f in
        let members : AreExpanded tree path (children_in (at_path tree path)) cs =
        subst (λ (g : Group). AreExpanded tree path (children_in g) cs) (sym at)
        (bare_members path cs (bare_named (group ps cs) b) (λ name h e. goes_on tree path (group ps cs) (name ∷ []) f ∙ below (map_of.get (children_by_name cs) name) h e) b.2) in
        let target : target_path (at_path tree path) ≡ None =
        ap target_path at ∙ ap (option_map (λ e. e.target)) b.0 in
        let inherited : IsInherited tree (target_path (at_path tree path)) None =
        subst (λ (o : Option GroupPath). IsInherited tree o None) (sym target) no_target in
        subst (Expands tree path) (ap (λ (g : Group). expanded g cs None) at ∙ expanded_same ps cs b) (expands members inherited)

    bare_members : (path : GroupPath) (cs : Children) → AreNamedAmong cs → ((name : List ℕ) (h : Group) → map_of.get (children_by_name cs) name ≡ Some (a_group h) → group_at tree (path ++ name ∷ []) ≡ Some h) → AreBare cs
        → AreExpanded tree path cs cs
    bare_members path no_children a h b = no_member
    bare_members path (child name (a_token d) cs) a h b = own_token (bare_members path cs a.2 (λ n g e. h n g (get_later name (a_token d) cs n (a_group g) a.0 e)) b.1)
    bare_members path (child name (a_group g) cs) a h b =
        child_group (bare_at (path ++ name ∷ []) g (h name g (get_here name (a_group g) cs)) b.0)
        (bare_members path cs a.2 (λ n f e. h n f (get_later name (a_group g) cs n (a_group f) a.0 e)) b.1)

pub bare_expands : (tree : Group) → IsBare tree → Expands tree [] tree
bare_expands tree b = bare_at tree [] tree refl b

-- No ring.

mutual
  comes_end : {N V : Type 0} (needs : N → List N) (step : N → List V → V) {v : N} {x : V} → Comes needs step v x → Ends needs v
  comes_end needs step (comes {v = v} a) = ends (all_end needs step (needs v) a)

  all_end : {N V : Type 0} (needs : N → List N) (step : N → List V → V) (ws : List N) {xs : List V} → AllCome needs step ws xs → (w : N) → In w ws → Ends needs w
  all_end needs step [] none w i = absurd i
  all_end needs step (v ∷ ws) (more c a) w (inl e) = subst (Ends needs) (sym e) (comes_end needs step c)
  all_end needs step (v ∷ ws) (more c a) w (inr i) = all_end needs step ws a w i

pub bare_no_ring : (tree : Group) → IsBare tree → HasNoRing (needs tree) []
bare_no_ring tree b = no_ring (needs tree) [] (comes_end (needs tree) (λ path counts. count_of (at_path tree path) counts) (bare_count tree b))

-- The verdict.

pub bare_counted : (tree : Group) (shown : ℕ) → IsBare tree → shown ≡ min (member_count_of tree) most_told → shown ≤ most_members → IsCounted tree
bare_counted tree shown b is h = (member_count_of tree, bare_count tree b, omega (arith, is, h))

pub bare_sound : (tree : Group) (shown levels : ℕ) → IsBare tree → shown ≡ min (member_count_of tree) most_told → levels ≡ min (levels_of tree) most_told → shown ≤ most_members → levels ≤ most_levels → IsSound tree
bare_sound tree shown levels b is high h k = record {
  targets = bare_targets tree b;
  rings = bare_no_ring tree b;
  counted = bare_counted tree shown b is h;
  low = (levels_of tree, bare_height tree b, omega (arith, high, k));
}
