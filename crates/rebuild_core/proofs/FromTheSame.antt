-- To the files that are kept nothing is done.
use Rattle.std.proofs.Common.{◌≡◌, inl, inr, ℕ, Bool, true, false, cond, List, [], ◌∷◌, map, Option, Some, None, Result, Ok, Err, refl, ap, ap₂, sym, subst, ◌∙◌}
use Rattle.std.proofs.lemmas.Slice.Eq.{bytes_eq-Decides}
use Rattle.std.specs.Cmp.Lexicographic.{nat_list_cmp_total}
use Rattle.std.specs.FinMap as finite
use Rattle.std.specs.FinMap.{nat_cmp-IsAntisymmetric, slice_cmp-IsAntisymmetric}
use Rattle.std.specs.Str.{bytes_eq}
use Rattle.ring.specs.Lists.{In, AreApart}
use Rattle.group_inherit.specs.Flattening.{TokenAt}
use Rattle.alias_ref.specs.Unchanged.{DifferDecides}
use Rattle.permutations.specs.Permutation.{Permutation}
use Rattle.file_plan.specs.InUse.{resolver_path, resolver_in, files_in_use}
use Rattle.file_plan.specs.Laws.{NamesAreApart}
use Rattle.file_plan.specs.Plan.{Planned, planned, refused, Plans}
use Rattle.source_trees.specs.declared.merge.Merge.{Merge}
use Rattle.source_trees.specs.declared.merge.Merge.TheVariants as merge
use Rattle.transforms.specs.Config.{Settings}
use Rattle.transforms.specs.declared.config.ConfigFault.{ConfigFault}
use Rattle.tk_io.specs.FilesData.{FilesData}
use Rattle.build_plain.specs.Out.{settings_of}
use Rattle.build_plain.specs.Work.{Work, work, added}
use Rattle.rebuild_core.specs.Laws.{FromTheSame}
use Rattle.rebuild_core.specs.Sums.{IsOneIf, IsOneUnless}
use Rattle.rebuild_core.specs.Work.{UsedOfPlan, UsedUnder, IsMerge, KeptPerm, kept_perm, contents_of, named, KeptOf, KeptUnder, IsKept, IsReachedSince, SourcesWork, PermWorkFrom, PermsWorkFrom, AreRead, PlanWorkFrom, WorkUnderFrom, IsWorkFrom}
use Rattle.rebuild_core.specs.inner.Below.{OneLaws, EachLaws}
use Rattle.rebuild_core.proofs.EachWork.{each_work}
use Rattle.tree_changes.proofs.MapEntries.{entry_found}
use Rattle.rebuild_core.proofs.OneWork.{one_kept, one_used}
use Rattle.rebuild_core.proofs.Summing.{unless_held, not_held, sum_none}
use Rattle.tree_changes.proofs.Walks.{none_reached}

-- A permutation is found by its name.

abbrev name_of : Permutation → List ℕ
name_of p = p.name

in_names : (p : Permutation) (ps : List Permutation) → In p ps → In p.name (map name_of ps)
in_names p [] i = absurd i
in_names p (q ∷ qs) (inl e) = inl (ap (λ (x : Permutation). x.name) e)
in_names p (q ∷ qs) (inr i) = inr (in_names p qs i)

named_itself : (p : Permutation) (ps : List Permutation) → In p ps → AreApart (map name_of ps) → named p.name ps ≡ Some p
named_itself p [] i apart = absurd i
named_itself p (q ∷ qs) (inl e) apart =
    ap (λ (x : Permutation). named p.name (x ∷ qs)) (sym e)
    ∙ ap (λ b. cond b (Some p) (named p.name qs)) ((bytes_eq-Decides p.name p.name).1 refl)
named_itself p (q ∷ qs) (inr i) apart = go (bytes_eq q.name p.name) refl (named_itself p qs i apart.1)
  where
    go : (b : Bool) → bytes_eq q.name p.name ≡ b → named p.name qs ≡ Some p → cond b (Some q) (named p.name qs) ≡ Some p
    go true e rest =
        absurd (apart.0 (subst (λ n. In n (map name_of qs)) (sym ((bytes_eq-Decides q.name p.name).0 e)) (in_names p qs i)))
    go false e rest = rest

module _ (one : OneLaws) (decides : DifferDecides) where
  module _ (settings : Settings) (files : FilesData) (is_so : settings_of files ≡ Ok settings) where
    -- none is read
    none_read : (p : Planned) (used : FilesData) (n : ℕ) → Plans (finite.get files resolver_path) p → UsedOfPlan files p used
        → AreRead (Some files) used n → n ≡ 0
    none_read p used n plans is (old, was, sum) =
        sum_none (λ (file : List ℕ × List ℕ). IsOneUnless (finite.get old file.0 ≡ Some file.1)) (finite.entries used) n
        (λ file k i. unless_held (finite.get old file.0 ≡ Some file.1) k
        (ap (λ m. finite.get m file.0) same
        ∙ entry_found nat_list_cmp_total (slice_cmp-IsAntisymmetric nat_cmp-IsAntisymmetric) used file.0 file.1 i)) sum
      where
        same : old ≡ used
        same = one_used one (Some files) old used was
            (subst (λ r. UsedUnder files r used) (sym is_so) (p, plans, is))

    module _ (perms : List Permutation) (plans : Plans (finite.get files resolver_path) (planned perms)) (apart : AreApart (map name_of perms)) where
      itself : (p : Permutation) (m : Option Merge) → In p perms → IsMerge files p m
          → IsKept (Some files) p.name (Some (kept_perm settings (contents_of files p) m))
      itself p m i is =
          subst (λ r. KeptUnder files p.name r (Some (kept_perm settings (contents_of files p) m))) (sym is_so) (
            planned perms,
            plans,
            subst (λ o. KeptOf settings files o (Some (kept_perm settings (contents_of files p) m)))
                (sym (named_itself p perms i apart)) (m, is, refl),
          )

      none_merged : (p : Permutation) (m : Option Merge) (w : Work)
          → SourcesWork (Some (kept_perm settings (contents_of files p) m)) settings (contents_of files p) m w → w ≡ work 0 0 0
      none_merged p None w of = of
      none_merged p (Some (merge.Broken fault)) w (n, once, e) =
          e ∙ ap (λ k. work 0 k 0) (unless_held (contents_of files p ≡ contents_of files p) n refl once)
      none_merged p (Some (merge.Flat flat)) w (m, n, once, sum, e) =
          let kept : Option KeptPerm = Some (kept_perm settings (contents_of files p) (Some (merge.Flat flat))) in
          e ∙ ap₂ (λ a b. work 0 a b) (unless_held (contents_of files p ≡ contents_of files p) m refl once)
          (sum_none (λ (token : TokenAt). IsOneIf (IsReachedSince kept settings flat token.0)) (finite.entries flat) n
          (λ token k i. not_held (IsReachedSince kept settings flat token.0) k (λ r. unreached token r)) sum)
        where
          unreached : (token : TokenAt) → IsReachedSince (Some (kept_perm settings (contents_of files p) (Some (merge.Flat flat)))) settings flat token.0 → ⊥
          unreached token (inl other) = other refl
          unreached token (inr r) = none_reached decides flat token.0 r

      none_perm : (p : Permutation) (w : Work) → In p perms → PermWorkFrom (Some files) settings files p w → w ≡ work 0 0 0
      none_perm p w i (k, m, kept, is, of) =
          none_merged p m w
          (subst (λ x. SourcesWork x settings (contents_of files p) m w)
          (one_kept one (Some files) p.name k (Some (kept_perm settings (contents_of files p) m)) kept (itself p m i is)) of)

      none_perms : (ps : List Permutation) (w : Work) → ((p : Permutation) → In p ps → In p perms)
          → PermsWorkFrom (Some files) settings files ps w → w ≡ work 0 0 0
      none_perms [] w among e = e
      none_perms (p ∷ ps) w among (v, vs, here, later, e) =
          e ∙ ap₂ added (none_perm p v (among p (inl refl)) here) (none_perms ps vs (λ q i. among q (inr i)) later)

    none_plan : NamesAreApart → (p : Planned) (w : Work) → Plans (finite.get files resolver_path) p
        → PlanWorkFrom (Some files) settings files p w → w ≡ work 0 0 0
    none_plan apart (planned perms) w plans (n, v, read, is, e) =
        e ∙ ap₂ (λ k x. added (work k 0 0) x) (none_read (planned perms) (files_in_use files perms) n plans refl read)
        (none_perms perms plans (apart (finite.get files resolver_path) perms plans) perms v (λ p i. i) is)
    none_plan apart (refused broken) w plans (n, read, e) =
        e ∙ ap (λ k. work k 0 0) (none_read (refused broken) (resolver_in files) n plans refl read)

  none_under : NamesAreApart → (files : FilesData) (r : Result Settings ConfigFault) (w : Work) → settings_of files ≡ r
      → WorkUnderFrom (Some files) files r w → w ≡ work 0 0 0
  none_under apart files (Ok settings) w is_so (p, plans, is) = none_plan settings files is_so apart p w plans is
  none_under apart files (Err broken) w is_so e = e

  none_done : NamesAreApart → (files : FilesData) (w : Work) → IsWorkFrom (Some files) files w → w ≡ work 0 0 0
  none_done apart files w i = none_under apart files (settings_of files) w refl i

  pub from_the_same : EachLaws → NamesAreApart → FromTheSame
  from_the_same each apart files w = (
    none_done apart files w,
    λ e.
        let (v, of) = each_work each (Some files) files in
        subst (λ x. IsWorkFrom (Some files) files x) (none_done apart files v of ∙ sym e) of,
  )
