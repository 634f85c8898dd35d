-- Each tree answers: it breaks a rule first, or breaks none and has a flat tree.
use Rattle.std.proofs.Common.{◌≡◌, ◌⊎◌, ℕ, min, List, [], ◌∷◌, ◌++◌, map, Option, Some, None, option_and_then, option_map, option_to_list, unwrap_or, inl, inr, refl, sym, ap, ◌∙◌, subst}
use Rattle.std.proofs.lemmas.Bool.{cases_Bool, cases_lt, false≢true}
use Rattle.std.specs.BTreeMap.{is_at}
use Rattle.std.specs.FinMap as map_of
use Rattle.std.specs.Prelude.{slice_get}
use Rattle.ring.specs.Existence.{IsDecided, ReachesOnly, IsGrounded, grounded}
use Rattle.ring.specs.Lists.{In}
use Rattle.ring.specs.Routes.{IsChain, IsRoute, IsReached, IsRing, HasNoRing}
use Rattle.ring.proofs.Ends.{in_left, in_right, in_cases}
use Rattle.ring.proofs.FirstRoutes.{ring_or_none, is_grounded}
use Rattle.ring.proofs.ValuesExist.{has_value}
use Rattle.ring.proofs.Renamings.{in_map, in_names}
use Rattle.tk_io.specs.Order.{names_cmp}
use Rattle.token_tree.specs.Tree.{Extension, Child, a_token, a_group, Group, group, Children, no_children, child}
use Rattle.group_inherit.specs.declared.fault.TreeFault.TheVariants.{ExtendsTarget, ExtendsCycle, TooManyTokens, TooHigh}
use Rattle.group_inherit.specs.Answer.{most_members, most_levels, most_told}
use Rattle.group_inherit.specs.Expansion.{expanded, Expands, expands, AreExpanded, no_member, own_token, child_group, IsInherited, no_target, its_target}
use Rattle.group_inherit.specs.Extension.{GroupPath, as_group, group_at, at_path, groups_from, group_paths, children_in, extension_of, names_of_groups, group_names, target_path, needs_of, needs, Lost, lost_targets, Counts, Heights, count_of, height_of}
use Rattle.group_inherit.specs.Flattening.{flat_of}
use Rattle.group_inherit.specs.Laws.{LosesTarget, HasBreak, HasFlat, EachTreeAnswers}
use Rattle.group_inherit.specs.Merging.{children_by_name, empty_group}
use Rattle.group_inherit.specs.Ordered.{IsOrdered}
use Rattle.group_inherit.specs.Span.{span_of}
use Rattle.group_inherit.specs.inner.Numbering.{GroupAt, AreNamed, AreNamedAmong}
use Rattle.group_inherit.proofs.Finding.{listed_from, named_from, goes_on}
use Rattle.group_inherit.proofs.LostTargets.{lost_are_all}
use Rattle.group_inherit.proofs.Naming.{get_here, get_later}
use Rattle.group_inherit.proofs.OrderedTrees.{ordered_named}
use Rattle.group_inherit.proofs.Placing.{same_path_at, path_itself}
use Rattle.group_inherit.proofs.Reports.{extension_by_paths}

-- two paths are the same or not
paths_decided : IsDecided GroupPath
paths_decided p q = elim (cases_Bool (is_at (names_cmp p) q)) [
  | inl t ↦ inl (same_path_at p q t)
  | inr f ↦ inr (λ e. false≢true (sym f ∙ (ap (λ (r : GroupPath). is_at (names_cmp p) r) (sym e) ∙ path_itself p)))
]

-- Child groups by their names.

named_group : (name : List ℕ) (cs : Children) → AreNamedAmong cs → In name (names_of_groups cs)
    → (h : Group) × (map_of.get (children_by_name cs) name ≡ Some (a_group h))
named_group name no_children a i = absurd i
named_group name (child k (a_token d) cs) a i =
    let f = named_group name cs a.2 i in
    (f.0, get_later k (a_token d) cs name (a_group f.0) a.0 f.1)
named_group name (child k (a_group g) cs) a (inl e) =
    (g, ap (λ (n : List ℕ). map_of.get (children_by_name (child k (a_group g) cs)) n) e ∙ get_here k (a_group g) cs)
named_group name (child k (a_group g) cs) a (inr i) =
    let f = named_group name cs a.2 i in
    (f.0, get_later k (a_group g) cs name (a_group f.0) a.0 f.1)

child_there : (name : List ℕ) (g : Group) → AreNamed g → In name (group_names g)
    → (h : Group) × (group_at g (name ∷ []) ≡ Some h)
child_there name (group ps cs) a i =
    let f = named_group name cs a i in
    (f.0, ap (λ (o : Option Child). option_and_then (λ (x : Group). group_at x []) (option_and_then as_group o)) f.1)

-- A group has an expansion where all that it needs has one.

module _ (tree : Group) where
  abbrev HasExpansion : GroupPath → Type 0
  HasExpansion path = (e : Group) × Expands tree path e

  members_expanded : (path : GroupPath) (cs : Children)
      → ((name : List ℕ) → In name (names_of_groups cs) → HasExpansion (path ++ name ∷ []))
      → (members : Children) × AreExpanded tree path cs members
  members_expanded path no_children each = (no_children, no_member)
  members_expanded path (child name (a_token d) cs) each =
      let rest = members_expanded path cs each in
      (child name (a_token d) rest.0, own_token rest.1)
  members_expanded path (child name (a_group g) cs) each =
      let first = each name (inl refl) in
      let rest = members_expanded path cs (λ n i. each n (inr i)) in
      (child name (a_group first.0) rest.0, child_group first.1 rest.1)

  target_inherited : (target : Option GroupPath)
      → ((path : GroupPath) → In path (option_to_list target) → HasExpansion path)
      → (inherited : Option Group) × IsInherited tree target inherited
  target_inherited None each = (None, no_target)
  target_inherited (Some path) each =
      let e = each path (inl refl) in
      (Some e.0, its_target e.1)

  has_expansion : (path : GroupPath) → IsGrounded (needs tree) path → HasExpansion path
  has_expansion path (grounded f) =
      let g = at_path tree path in
      let below : List ℕ → GroupPath = λ name. path ++ name ∷ [] in
      let children = map below (group_names g) in
      let target = option_to_list (target_path g) in
      let members = members_expanded path (children_in g) (λ name i.
      has_expansion (below name) (f (below name) (in_left children target (below name) (in_map below (group_names g) name i)))) in
      let inherited = target_inherited (target_path g) (λ p i. has_expansion p (f p (in_right children target p i))) in
      (expanded g members.0 inherited.0, expands members.1 inherited.1)

-- a group stands at the path
abbrev IsThere : Group → GroupPath → Type 0
IsThere tree path = (h : Group) × (group_at tree path ≡ Some h)

some_group : (o : Option Group) → (o ≡ None → ⊥) → (h : Group) × (o ≡ Some h)
some_group None f = absurd (f refl)
some_group (Some h) f = (h, refl)

-- Where no target is lost, all that the root needs is there.

module _ (tree : Group) (ordered : IsOrdered tree) (lost : lost_targets tree ≡ []) where
  listed : (path : GroupPath) (h : Group) → group_at tree path ≡ Some h
      → In {N = GroupAt} (path, h) (groups_from [] tree)
  listed path h at = listed_from [] tree path h at

  target_there : (path : GroupPath) (h : Group) (e : Extension) → group_at tree path ≡ Some h → extension_of h ≡ Some e
      → IsThere tree e.target
  target_there path h e at is = some_group (group_at tree e.target) (λ none. (
      let l : Lost = record { path = path; extension = e } in
      let loses : LosesTarget tree l = record { group = h; stands_there = at; extends_it = is; nowhere = none } in
      subst (λ (ls : List Lost). In l ls) lost ((lost_are_all tree l ordered).1 loses)))

  extended_there : (path w : GroupPath) (h : Group) → group_at tree path ≡ Some h
      → (o : Option Extension) → extension_of h ≡ o
      → In w (option_to_list (option_map (λ e. e.target) o)) → IsThere tree w
  extended_there path w h at None is i = absurd i
  extended_there path w h at (Some e) is (inl p) =
      let t = target_there path h e at is in
      (t.0, ap (group_at tree) p ∙ t.1)
  extended_there path w h at (Some e) is (inr i) = absurd i

  child_needed : (path w : GroupPath) (h : Group) → group_at tree path ≡ Some h
      → In w (map (λ name. path ++ name ∷ []) (group_names h)) → IsThere tree w
  child_needed path w h at i =
      let n = in_names (λ (name : List ℕ). path ++ name ∷ []) (group_names h) w i in
      let names : AreNamed h = named_from [] tree path h (ordered_named tree ordered) (listed path h at) in
      let c = child_there n.node h names n.there in
      (c.0, ap (group_at tree) n.is ∙ (goes_on tree path h (n.node ∷ []) at ∙ c.1))

  need_there : (path w : GroupPath) → IsThere tree path → In w (needs tree path) → IsThere tree w
  need_there path w (h, at) i =
      let is : at_path tree path ≡ h = ap (λ (o : Option Group). unwrap_or o empty_group) at in
      let own : In w (needs_of path h) = subst (λ (g : Group). In w (needs_of path g)) is i in
      elim (in_cases (map (λ name. path ++ name ∷ []) (group_names h)) (option_to_list (target_path h)) w own) [
        | inl j ↦ child_needed path w h at j
        | inr j ↦ extended_there path w h at (extension_of h) refl j
      ]

  reached_there : (w : GroupPath) → IsReached (needs tree) [] w → IsThere tree w
  reached_there w r = begins r.before r.steps
    where
      along : (at : GroupPath) (xs : List GroupPath) → IsThere tree at → IsChain (needs tree) at (xs ++ w ∷ []) → IsThere tree w
      along at [] t l = need_there at w t l.0
      along at (x ∷ xs) t l = along x xs (need_there at x t l.0) l.1

      begins : (xs : List GroupPath) → IsRoute (needs tree) [] (xs ++ w ∷ []) → IsThere tree w
      begins [] s = (tree, ap (group_at tree) s.0)
      begins (x ∷ xs) s = along x xs (tree, ap (group_at tree) s.0) s.1

  all_listed : ReachesOnly (needs tree) [] (group_paths tree)
  all_listed w r =
      let t = reached_there w r in
      in_map (λ (e : GroupAt). e.0) (groups_from [] tree) (w, t.0) (listed w t.0 t.1)

  -- a ring of groups is reported
  ring_breaks : (ring : List GroupPath) → IsRing (needs tree) [] ring → HasBreak tree
  ring_breaks ring r =
      let e = extension_by_paths tree ring r in
      (ExtendsCycle ring (span_of e.0), (λ x. cc), (lost, (r, (e.0, e.1, refl))))

  -- the count, the height and the expansion of the root tell the rest
  sized : HasNoRing (needs tree) [] → (n : ℕ) → Counts tree [] n → (height : ℕ) → Heights tree [] height
      → (e : Group) → Expands tree [] e → HasBreak tree ⊎ HasFlat tree
  sized none n counted height high e makes = elim (cases_lt most_members n) [
    | inl more ↦ inl (TooManyTokens (min n most_told), (λ x. cc), (lost, none, (n, counted, more, refl)))
    | inr few ↦ elim (cases_lt most_levels height) [
      | inl above ↦ inl (TooHigh height, (λ x. cc), (lost, none, (n, counted, few), (high, above)))
      | inr below ↦ inr (
        flat_of e,
        record { targets = lost; rings = none; counted = (n, counted, few); low = (height, high, below) },
        (e, makes, refl),
      )
    ]
  ]

  ring_or_sizes : HasBreak tree ⊎ HasFlat tree
  ring_or_sizes = elim (ring_or_none (needs tree) [] paths_decided (group_paths tree) all_listed) [
    | inl r ↦ inl (ring_breaks r.0 r.1)
    | inr none ↦
        let g : IsGrounded (needs tree) [] =
        is_grounded (needs tree) [] paths_decided (group_paths tree) all_listed none in
        let n = has_value (needs tree) (λ path counts. count_of (at_path tree path) counts) [] g in
        let h = has_value (needs tree) (λ path heights. height_of (at_path tree path) heights) [] g in
        let e = has_expansion tree [] g in
        sized none n.0 n.1 h.0 h.1 e.0 e.1
  ]

pub each_tree_answers : EachTreeAnswers
each_tree_answers tree ordered = by_lost (lost_targets tree) refl
  where
    by_lost : (losts : List Lost) → lost_targets tree ≡ losts → HasBreak tree ⊎ HasFlat tree
    by_lost [] is = ring_or_sizes tree ordered is
    by_lost (l ∷ ls) is =
        let first : slice_get (lost_targets tree) 0 ≡ Some l = ap (λ (losts : List Lost). slice_get losts 0) is in
        inl (ExtendsTarget l.path (span_of l.extension), (λ x. cc), (l.extension, first, refl))
