-- The flat tree of an ordered group, by path and as a list.
use Rattle.std.proofs.Common.{◌≡◌, T, [], ◌∷◌, ◌++◌, refl, sym, ap, ◌∙◌}
use Rattle.std.specs.Cmp.Lexicographic.{lists_total, nat_list_cmp_total}
use Rattle.std.specs.FinMap as map
use Rattle.std.specs.FinMap.{slice_cmp-IsAntisymmetric}
use Rattle.std.specs.FinMap.Entries.{find, is_sorted, below_all}
use Rattle.std.specs.Option.{option_or}
use Rattle.std.specs.Ordering.{eq_by_cmp}
use Rattle.tk_io.specs.Order.{text_cmp, names_cmp}
use Rattle.tk_io.proofs.TextMaps.{text_cmp-IsAntisymmetric}
use Rattle.token_tree.specs.Tree.{Child, a_token, a_group, Group, group, Children, no_children, child}
use Rattle.group_inherit.specs.Extension.{GroupPath}
use Rattle.group_inherit.specs.Flattening.{Nearest, nearest, flattened, tokens_in, tokens_among, tokens_at, nothing_above, flat_of, token_below, flattened_at, token_under}
use Rattle.group_inherit.specs.Laws.{FlatByPath, FlatAsList}
use Rattle.group_inherit.specs.Ordered.{child_entries, IsOrdered, AreOrdered, IsOrderedChild}
use Rattle.group_inherit.specs.Putting.{put_all}
use Rattle.group_inherit.specs.View.{FlatTokens}
use Rattle.group_inherit.proofs.Expansions.{one_expansion}
use Rattle.group_inherit.proofs.Finds.{under_among, none_among, group_under, member_found, own_path, chosen_or}
use Rattle.group_inherit.proofs.Flats.{put_append}
use Rattle.group_inherit.proofs.OrderedTrees.{again, expanded_ordered}
use Rattle.group_inherit.proofs.PathOrder.{tokens_sorted}
use Rattle.group_inherit.proofs.Puts.{second, either_none, get_put_all}

-- where all tokens of a group are put, the token below it stands at each path, or else what stood there
mutual
  put_found : (at : GroupPath) (above : Nearest) (g : Group) → IsOrdered g → (old : FlatTokens) (q : GroupPath) → map.get (put_all (tokens_in at above g) old) q ≡ option_or (token_under at above (a_group g) q) (map.get old q)
  put_found at above (group ps cs) o old q =
      put_found_among at (nearest ps above) cs o.0 o.1 old q
      ∙ ap (λ x. option_or x (map.get old q)) (sym (group_under ps (child_entries cs) above at q) ∙ ap (λ (ds : Children). token_under at above (a_group (group ps ds)) q) (again cs))

  put_found_among : (at : GroupPath) (near : Nearest) (cs : Children) → T (is_sorted text_cmp (child_entries cs)) → AreOrdered cs → (old : FlatTokens) (q : GroupPath)
      → map.get (put_all (tokens_among at near cs) old) q ≡ option_or (under_among at near (child_entries cs) q) (map.get old q)
  put_found_among at near no_children s o old q = ap (λ x. option_or x (map.get old q)) (sym (none_among at near q))
  put_found_among at near (child name c cs) s o old q =
      let new : FlatTokens = put_all (tokens_at (at ++ name ∷ []) near c) old in
      ap (λ (m : FlatTokens). map.get m q) (put_append (tokens_at (at ++ name ∷ []) near c) (tokens_among at near cs) old)
      ∙ (put_found_among at near cs (second (below_all text_cmp name (child_entries cs)) (is_sorted text_cmp (child_entries cs)) s) o.1 new q
      ∙ member_found at (at ++ name ∷ []) near ((name, c) ∷ child_entries cs) (child_entries cs) (name, c) old new q s refl refl (put_found_at (at ++ name ∷ []) near c o.0 old q))

  put_found_at : (at : GroupPath) (near : Nearest) (c : Child) → IsOrderedChild c → (old : FlatTokens) (q : GroupPath) → map.get (put_all (tokens_at at near c) old) q ≡ option_or (token_under at near c q) (map.get old q)
  put_found_at at near (a_token d) o old q =
      map.get-insert (lists_total nat_list_cmp_total) old at (flattened near d) q
      ∙ (chosen_or (eq_by_cmp names_cmp q at) (flattened near d) (map.get old q) ∙ ap (λ x. option_or x (map.get old q)) (sym (own_path at near d q)))
  put_found_at at near (a_group g) o old q = put_found at near g o old q

flat_at : (g : Group) → IsOrdered g → (q : GroupPath) → map.get (flat_of g) q ≡ flattened_at q g
flat_at g o q =
    put_found [] nothing_above g o map.empty q
    ∙ (ap (option_or (token_below q nothing_above (a_group g))) (map.get-empty names_cmp q) ∙ either_none (token_below q nothing_above (a_group g)))

flat_list : (g : Group) → IsOrdered g → map.entries (flat_of g) ≡ tokens_in [] nothing_above g
flat_list g o =
    let ts = tokens_in [] nothing_above g in
    let s = tokens_sorted [] nothing_above g o in
    ap map.entries (map.same_map (lists_total nat_list_cmp_total) (slice_cmp-IsAntisymmetric text_cmp-IsAntisymmetric) (put_all ts map.empty) (map.from_sorted ts) (λ q.
    get_put_all (lists_total nat_list_cmp_total) (slice_cmp-IsAntisymmetric text_cmp-IsAntisymmetric) ts s map.empty q
    ∙ (ap (option_or (find names_cmp q ts)) (map.get-empty names_cmp q) ∙ (either_none (find names_cmp q ts) ∙ sym (map.get-from_sorted names_cmp ts q s)))))
    ∙ map.entries-from_sorted names_cmp ts s

pub flat_by_path : FlatByPath
flat_by_path tree e flat (d, x, is) y q = ap (λ (m : FlatTokens). map.get m q) (is ∙ ap flat_of (one_expansion tree [] x y)) ∙ flat_at e (expanded_ordered tree [] y) q

pub flat_as_list : FlatAsList
flat_as_list tree e flat (d, x, is) y =
    (ap map.entries (is ∙ ap flat_of (one_expansion tree [] x y)) ∙ flat_list e (expanded_ordered tree [] y), tokens_sorted [] nothing_above e (expanded_ordered tree [] y))
