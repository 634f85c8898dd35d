-- Trees whose members ascend: what is read, what is merged and what is expanded.
use Rattle.std.proofs.Common.{◌≡◌, ℕ, true, false, cond, T, List, [], ◌∷◌, ◌++◌, Option, Some, None, inl, inr, refl, sym, ap, subst, ◌∙◌, All}
use Rattle.std.proofs.lemmas.Bool.{cases_Bool}
use Rattle.std.proofs.lemmas.List.Elements.{All-head, All-tail}
use Rattle.std.proofs.lemmas.Option.{none-some, same_Some}
use Rattle.std.specs.Cmp.Lexicographic.{nat_list_cmp_total}
use Rattle.std.specs.FinMap as map
use Rattle.std.specs.FinMap.Entries.{is_sorted}
use Rattle.std.specs.Ordering.{eq_by_cmp}
use Rattle.tk_io.specs.Order.{text_cmp}
use Rattle.json_span.specs.Tree.{Tree, a_null, a_boolean, a_number, a_string, an_array, an_object, Placed, placed, tree_of, Members, no_members, a_member, entries_in as fields_in}
use Rattle.token_tree.specs.Shape.{properties_of, def_of, is_token, is_child, put_children, child_of, group_of, shape_of}
use Rattle.token_tree.specs.Tree.{Properties, Child, a_token, a_group, Group, group, Children, no_children, child, Named, children_of, group_with}
use Rattle.group_inherit.specs.Expansion.{properties_in, without_extension, over_inherited, Expands, expands, AreExpanded, no_member, own_token, child_group, IsInherited, no_target, its_target}
use Rattle.group_inherit.specs.Extension.{GroupPath, children_in, at_path, target_path}
use Rattle.group_inherit.specs.Merging.{over_properties, children_by_name, over, over_members, over_child, empty_group, merged_over, merged}
use Rattle.group_inherit.specs.Ordered.{child_entries, IsOrdered, AreOrdered, IsOrderedChild}
use Rattle.group_inherit.specs.inner.Numbering.{LacksName, AreNamed, AreNamedAmong, AreNamedIn}
use Rattle.group_inherit.proofs.Naming.{sorted_lacks, sorted_rest, get_here, get_later}
use Rattle.group_inherit.proofs.Overs.{named_entries}

-- Children and their entries.

pub again : (cs : Children) → children_of (child_entries cs) ≡ cs
again no_children = refl
again (child name c cs) = ap (child name c) (again cs)

pub entries_again : (es : List (List ℕ × Child)) → child_entries (children_of es) ≡ es
entries_again [] = refl
entries_again (e ∷ es) = ap (λ l. e ∷ l) (entries_again es)

-- No two children have one name.

pub ordered_lacks : (name : List ℕ) (c : Child) (cs : Children) → T (is_sorted text_cmp ((name, c) ∷ child_entries cs)) → LacksName name cs
ordered_lacks name c cs s = subst (λ (ds : Children). LacksName name ds) (again cs) (sorted_lacks (name, c) (child_entries cs) s)

mutual
  pub ordered_named : (g : Group) → IsOrdered g → AreNamed g
  ordered_named (group ps cs) o = ordered_named_among cs o.0 o.1

  ordered_named_among : (cs : Children) → T (is_sorted text_cmp (child_entries cs)) → AreOrdered cs → AreNamedAmong cs
  ordered_named_among no_children s o = tt
  ordered_named_among (child name c cs) s o = (ordered_lacks name c cs s, ordered_named_in c o.0, ordered_named_among cs (sorted_rest (name, c) (child_entries cs) s) o.1)

  ordered_named_in : (c : Child) → IsOrderedChild c → AreNamedIn c
  ordered_named_in (a_token d) o = tt
  ordered_named_in (a_group g) o = ordered_named g o

-- Maps of children, each of which is ordered.

abbrev pub AllOrdered : Named → Type 0
AllOrdered m = (name : List ℕ) (c : Child) → map.get m name ≡ Some c → IsOrderedChild c

none_ordered : AllOrdered map.empty
none_ordered n c e = absurd (none-some c (sym (map.get-empty text_cmp n) ∙ e))

more_ordered : (m : Named) (k : List ℕ) (c : Child) → AllOrdered m → IsOrderedChild c → AllOrdered (map.insert m k c)
more_ordered m k c h o n d e = elim (cases_Bool (eq_by_cmp text_cmp n k)) [
  | inl t ↦ subst IsOrderedChild (same_Some c d (sym (map.get-insert nat_list_cmp_total m k c n ∙ ap (λ b. cond b (Some c) (map.get m n)) t) ∙ e)) o
  | inr f ↦ h n d (sym (map.get-insert nat_list_cmp_total m k c n ∙ ap (λ b. cond b (Some c) (map.get m n)) f) ∙ e)
]

are_ordered : (cs : Children) → T (is_sorted text_cmp (child_entries cs)) → AllOrdered (children_by_name cs) → AreOrdered cs
are_ordered no_children s h = tt
are_ordered (child name c cs) s h =
    (h name c (get_here name c cs), are_ordered cs (sorted_rest (name, c) (child_entries cs) s) (λ n d e. h n d (get_later name c cs n d (ordered_lacks name c cs s) e)))

named_ordered : (cs : Children) → AreOrdered cs → AllOrdered (children_by_name cs)
named_ordered no_children o = none_ordered
named_ordered (child name c cs) o = more_ordered (children_by_name cs) name c (named_ordered cs o.1) o.0

pub group_ordered : (ps : Properties) (m : Named) → AllOrdered m → IsOrdered (group_with ps m)
group_ordered ps m h =
    let es = map.entries m in
    let s : T (is_sorted text_cmp (child_entries (children_of es))) = subst (λ (l : List (List ℕ × Child)). T (is_sorted text_cmp l)) (sym (entries_again es)) (map.entries_sorted m) in
    (s, are_ordered (children_of es) s (λ n c e. h n c (ap (λ (k : Named). map.get k n) (sym (named_entries m)) ∙ e)))

-- Merged trees.

mutual
  pub over_ordered : (g h : Group) → IsOrdered g → IsOrdered h → IsOrdered (over g h)
  over_ordered (group ps cs) (group qs ds) o p = group_ordered (over_properties ps qs) (over_members cs (children_by_name ds)) (members_ordered cs (children_by_name ds) o.1 (named_ordered ds p.1))

  members_ordered : (cs : Children) (es : Named) → AreOrdered cs → AllOrdered es → AllOrdered (over_members cs es)
  members_ordered no_children es o h = h
  members_ordered (child name c cs) es o h =
      more_ordered (over_members cs es) name (over_child c (map.get es name)) (members_ordered cs es o.1 h) (child_ordered c (map.get es name) o.0 (λ d e. h name d e))

  child_ordered : (c : Child) (old : Option Child) → IsOrderedChild c → ((d : Child) → old ≡ Some d → IsOrderedChild d) → IsOrderedChild (over_child c old)
  child_ordered (a_token d) old o h = tt
  child_ordered (a_group g) None o h = o
  child_ordered (a_group g) (Some (a_token d)) o h = o
  child_ordered (a_group g) (Some (a_group k)) o h = over_ordered g k o (h (a_group k) refl)

merged_from : (before : Group) (gs : List Group) → IsOrdered before → All IsOrdered gs → IsOrdered (merged_over before gs)
merged_from before [] o all = o
merged_from before (g ∷ gs) o all = merged_from (over g before) gs (over_ordered g before (All-head IsOrdered g gs all) o) (All-tail IsOrdered g gs all)

pub merged_ordered : (sources : List Group) → All IsOrdered sources → IsOrdered (merged sources)
merged_ordered sources all = merged_from empty_group sources (tt, tt) all

-- Expanded trees.

mutual
  pub expanded_ordered : (tree : Group) (path : GroupPath) {e : Group} → Expands tree path e → IsOrdered e
  expanded_ordered tree path (expands {members = ms} a t) =
      let g = at_path tree path in
      inherited_ordered tree (target_path g) (group_with (without_extension (properties_in g)) (children_by_name ms)) t
      (group_ordered (without_extension (properties_in g)) (children_by_name ms) (all_expanded tree path (children_in g) a))

  all_expanded : (tree : Group) (path : GroupPath) (cs : Children) {ms : Children} → AreExpanded tree path cs ms → AllOrdered (children_by_name ms)
  all_expanded tree path no_children no_member = none_ordered
  all_expanded tree path (child name (a_token d) cs) (own_token {members = ms} a) = more_ordered (children_by_name ms) name (a_token d) (all_expanded tree path cs a) tt
  all_expanded tree path (child name (a_group g) cs) (child_group {e = e} {members = ms} x a) =
      more_ordered (children_by_name ms) name (a_group e) (all_expanded tree path cs a) (expanded_ordered tree (path ++ name ∷ []) x)

  inherited_ordered : (tree : Group) (o : Option GroupPath) (local : Group) {i : Option Group} → IsInherited tree o i → IsOrdered local → IsOrdered (over_inherited local i)
  inherited_ordered tree None local no_target o = o
  inherited_ordered tree (Some path) local (its_target {e = e} x) o = over_ordered local e o (expanded_ordered tree path x)

-- Trees that files show.

mutual
  shown_ordered : (file text : List ℕ) (v : Tree) → IsOrdered (group_of file text v)
  shown_ordered file text a_null = group_ordered (properties_of file []) map.empty none_ordered
  shown_ordered file text (a_boolean b) = group_ordered (properties_of file []) map.empty none_ordered
  shown_ordered file text (a_number k) = group_ordered (properties_of file []) map.empty none_ordered
  shown_ordered file text (a_string s) = group_ordered (properties_of file []) map.empty none_ordered
  shown_ordered file text (an_array ns) = group_ordered (properties_of file []) map.empty none_ordered
  shown_ordered file text (an_object ms) = group_ordered (properties_of file (fields_in ms)) (put_children file text ms map.empty) (put_ordered file text ms map.empty none_ordered)

  put_ordered : (file text : List ℕ) (ms : Members) (cs : Named) → AllOrdered cs → AllOrdered (put_children file text ms cs)
  put_ordered file text no_members cs h = h
  put_ordered file text (a_member name start end n ms) cs h =
      put_ordered file text ms (cond (is_child name) (map.insert cs name (child_of file text n)) cs)
      (elim (is_child name) as (λ b. AllOrdered (cond b (map.insert cs name (child_of file text n)) cs)) [
        | true ↦ more_ordered cs name (child_of file text n) h (child_shown file text n)
        | false ↦ h
      ])

  child_shown : (file text : List ℕ) (n : Placed) → IsOrderedChild (child_of file text n)
  child_shown file text (placed v start end) =
      elim (is_token (placed v start end)) as (λ b. IsOrderedChild (cond b (a_token (def_of file text (placed v start end))) (a_group (group_of file text v)))) [
        | true ↦ tt
        | false ↦ shown_ordered file text v
      ]

pub shape_ordered : (file text : List ℕ) (root : Placed) → IsOrdered (shape_of file text root)
unfolding shape_of
shape_ordered file text root = shown_ordered file text (tree_of root)
