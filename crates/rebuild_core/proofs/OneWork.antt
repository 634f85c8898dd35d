-- What is kept and files have one amount of work.
use Rattle.std.proofs.Common.{◌≡◌, ℕ, List, [], ◌∷◌, Option, Some, None, Result, Ok, Err, ap, ap₂, sym, subst, ◌∙◌}
use Rattle.std.specs.FinMap as finite
use Rattle.token_tree.specs.Tree.{Group}
use Rattle.group_inherit.specs.Flattening.{TokenAt}
use Rattle.group_inherit.specs.Merging.{merged_over, empty_group}
use Rattle.permutations.specs.Permutation.{Permutation}
use Rattle.file_plan.specs.InUse.{resolver_path, resolver_in, files_in_use}
use Rattle.file_plan.specs.Plan.{Planned, planned, refused}
use Rattle.source_trees.specs.Contents.{SourceContent}
use Rattle.source_trees.specs.Merges.{IsMergeOf}
use Rattle.source_trees.specs.Sources.{BreakAt}
use Rattle.source_trees.specs.declared.merge.Merge.{Merge}
use Rattle.source_trees.specs.declared.merge.Merge.TheVariants as merge
use Rattle.transforms.specs.Config.{Settings}
use Rattle.transforms.specs.declared.config.ConfigFault.{ConfigFault}
use Rattle.tk_io.specs.FilesData.{FilesData}
use Rattle.build_plain.specs.Breaks.{home_of}
use Rattle.build_plain.specs.Out.{settings_of}
use Rattle.build_plain.specs.Work.{Work, work, added}
use Rattle.rebuild_core.specs.Sums.{IsOneIf, IsOneUnless}
use Rattle.rebuild_core.specs.Work.{UsedOfPlan, UsedUnder, IsUsed, MergesTo, IsMerge, KeptPerm, kept_perm, contents_of, named, KeptOf, KeptOfPlan, KeptUnder, IsKept, HasSources, IsReachedSince, MergeWork, SourcesWork, PermWorkFrom, PermsWorkFrom, ReadBeside, AreRead, PlanWorkFrom, WorkUnderFrom, IsWorkFrom}
use Rattle.rebuild_core.specs.inner.Below.{OneLaws}
use Rattle.rebuild_core.proofs.Summing.{one_if, one_unless, one_sum}

module _ (laws : OneLaws) where
  pub one_merge_of : (tree : Group) (m n : Merge) → IsMergeOf tree m → IsMergeOf tree n → m ≡ n
  one_merge_of tree (merge.Flat f) (merge.Flat g) i j = ap merge.Flat (laws.flat tree f g i.1 j.1)
  one_merge_of tree (merge.Flat f) (merge.Broken b) i j = absurd (laws.sound tree b i.0 j.0 j.1)
  one_merge_of tree (merge.Broken a) (merge.Flat g) i j = absurd (laws.sound tree a j.0 i.0 i.1)
  one_merge_of tree (merge.Broken a) (merge.Broken b) i j = ap merge.Broken (laws.broken tree a b i.0 j.0 i.1 j.1)

  one_merge_by : (bs : List BreakAt) (trees : List Group) (m n : Option Merge) → MergesTo bs trees m → MergesTo bs trees n → m ≡ n
  one_merge_by [] trees None n i j = absurd i
  one_merge_by [] trees (Some m) None i j = absurd j
  one_merge_by [] trees (Some m) (Some n) i j = ap Some (one_merge_of (merged_over empty_group trees) m n i j)
  one_merge_by (b ∷ bs) trees m n i j = i ∙ sym j

  pub one_merge : (files : FilesData) (p : Permutation) (m n : Option Merge) → IsMerge files p m → IsMerge files p n → m ≡ n
  one_merge files p m n (bs, trees, found, i) (cs, others, found_too, j) =
      let same = laws.found files (home_of files) p.sources bs cs trees others found found_too in
      one_merge_by cs others m n
      (subst (λ ts. MergesTo cs ts m) same.1 (subst (λ (xs : List BreakAt). MergesTo xs trees m) same.0 i)) j

  -- of what is kept

  one_kept_of : (settings : Settings) (files : FilesData) (p : Option Permutation) (k l : Option KeptPerm)
      → KeptOf settings files p k → KeptOf settings files p l → k ≡ l
  one_kept_of settings files None k l i j = i ∙ sym j
  one_kept_of settings files (Some p) k l (m, i, is) (n, j, js) =
      is ∙ (ap (λ x. Some (kept_perm settings (contents_of files p) x)) (one_merge files p m n i j) ∙ sym js)

  one_kept_plan : (settings : Settings) (files : FilesData) (name : List ℕ) (p : Planned) (k l : Option KeptPerm)
      → KeptOfPlan settings files name p k → KeptOfPlan settings files name p l → k ≡ l
  one_kept_plan settings files name (planned perms) k l i j = one_kept_of settings files (named name perms) k l i j
  one_kept_plan settings files name (refused broken) k l i j = i ∙ sym j

  one_kept_under : (files : FilesData) (name : List ℕ) (r : Result Settings ConfigFault) (k l : Option KeptPerm)
      → KeptUnder files name r k → KeptUnder files name r l → k ≡ l
  one_kept_under files name (Ok settings) k l (p, is, i) (q, js, j) =
      one_kept_plan settings files name q k l
      (subst (λ x. KeptOfPlan settings files name x k) (laws.plan (finite.get files resolver_path) p q is js) i) j
  one_kept_under files name (Err broken) k l i j = i ∙ sym j

  pub one_kept : (before : Option FilesData) (name : List ℕ) (k l : Option KeptPerm) → IsKept before name k → IsKept before name l → k ≡ l
  one_kept None name k l i j = i ∙ sym j
  one_kept (Some files) name k l i j = one_kept_under files name (settings_of files) k l i j

  one_used_plan : (files : FilesData) (p : Planned) (u v : FilesData) → UsedOfPlan files p u → UsedOfPlan files p v → u ≡ v
  one_used_plan files (planned perms) u v i j = i ∙ sym j
  one_used_plan files (refused broken) u v i j = i ∙ sym j

  one_used_under : (files : FilesData) (r : Result Settings ConfigFault) (u v : FilesData) → UsedUnder files r u → UsedUnder files r v → u ≡ v
  one_used_under files (Ok settings) u v (p, is, i) (q, js, j) =
      one_used_plan files q u v
      (subst (λ x. UsedOfPlan files x u) (laws.plan (finite.get files resolver_path) p q is js) i) j
  one_used_under files (Err broken) u v i j = i ∙ sym j

  pub one_used : (before : Option FilesData) (u v : FilesData) → IsUsed before u → IsUsed before v → u ≡ v
  one_used None u v i j = i ∙ sym j
  one_used (Some files) u v i j = one_used_under files (settings_of files) u v i j

  -- of what is done

  one_merge_work : (k : Option KeptPerm) (settings : Settings) (sources : List SourceContent) (m : Merge) (v w : Work)
      → MergeWork k settings sources m v → MergeWork k settings sources m w → v ≡ w
  one_merge_work k settings sources (merge.Broken fault) v w (a, i, e) (b, j, f) =
      e ∙ (ap (λ n. work 0 n 0) (one_unless (HasSources k sources) a b i j) ∙ sym f)
  one_merge_work k settings sources (merge.Flat flat) v w (a, c, i, is, e) (b, d, j, js, f) =
      e ∙ (ap₂ (λ m n. work 0 m n) (one_unless (HasSources k sources) a b i j)
      (one_sum (λ (token : TokenAt). IsOneIf (IsReachedSince k settings flat token.0))
      (λ token m n. one_if (IsReachedSince k settings flat token.0) m n) (finite.entries flat) c d is js) ∙ sym f)

  one_sources_work : (k : Option KeptPerm) (settings : Settings) (sources : List SourceContent) (m : Option Merge) (v w : Work)
      → SourcesWork k settings sources m v → SourcesWork k settings sources m w → v ≡ w
  one_sources_work k settings sources None v w i j = i ∙ sym j
  one_sources_work k settings sources (Some m) v w i j = one_merge_work k settings sources m v w i j

  pub one_perm_work : (before : Option FilesData) (settings : Settings) (files : FilesData) (p : Permutation) (v w : Work)
      → PermWorkFrom before settings files p v → PermWorkFrom before settings files p w → v ≡ w
  one_perm_work before settings files p v w (k, m, kept, is, i) (l, n, kept_too, js, j) =
      one_sources_work l settings (contents_of files p) n v w
      (subst (λ x. SourcesWork l settings (contents_of files p) x v) (one_merge files p m n is js)
      (subst (λ x. SourcesWork x settings (contents_of files p) m v) (one_kept before p.name k l kept kept_too) i)) j

  one_perms_work : (before : Option FilesData) (settings : Settings) (files : FilesData) (ps : List Permutation) (v w : Work)
      → PermsWorkFrom before settings files ps v → PermsWorkFrom before settings files ps w → v ≡ w
  one_perms_work before settings files [] v w i j = i ∙ sym j
  one_perms_work before settings files (p ∷ ps) v w (a, others, i, is, e) (b, others_too, j, js, f) =
      e ∙ (ap₂ added (one_perm_work before settings files p a b i j)
      (one_perms_work before settings files ps others others_too is js) ∙ sym f)

  one_read : (before : Option FilesData) (used : FilesData) (m n : ℕ) → AreRead before used m → AreRead before used n → m ≡ n
  one_read before used m n (old, is, i) (other, js, j) =
      one_sum (λ (file : List ℕ × List ℕ). IsOneUnless (finite.get other file.0 ≡ Some file.1))
      (λ file a b. one_unless (finite.get other file.0 ≡ Some file.1) a b) (finite.entries used) m n
      (subst (λ x. ReadBeside x used m) (one_used before old other is js) i) j

  one_plan_work : (before : Option FilesData) (settings : Settings) (files : FilesData) (p : Planned) (v w : Work)
      → PlanWorkFrom before settings files p v → PlanWorkFrom before settings files p w → v ≡ w
  one_plan_work before settings files (planned perms) v w (m, a, i, is, e) (n, b, j, js, f) =
      e ∙ (ap₂ (λ x y. added (work x 0 0) y) (one_read before (files_in_use files perms) m n i j)
      (one_perms_work before settings files perms a b is js) ∙ sym f)
  one_plan_work before settings files (refused broken) v w (m, i, e) (n, j, f) =
      e ∙ (ap (λ x. work x 0 0) (one_read before (resolver_in files) m n i j) ∙ sym f)

  pub one_work_under : (before : Option FilesData) (files : FilesData) (r : Result Settings ConfigFault) (v w : Work)
      → WorkUnderFrom before files r v → WorkUnderFrom before files r w → v ≡ w
  one_work_under before files (Ok settings) v w (p, is, i) (q, js, j) =
      one_plan_work before settings files q v w
      (subst (λ x. PlanWorkFrom before settings files x v) (laws.plan (finite.get files resolver_path) p q is js) i) j
  one_work_under before files (Err broken) v w i j = i ∙ sym j

  pub one_work : (before : Option FilesData) (files : FilesData) (v w : Work) → IsWorkFrom before files v → IsWorkFrom before files w → v ≡ w
  one_work before files v w i j = one_work_under before files (settings_of files) v w i j
