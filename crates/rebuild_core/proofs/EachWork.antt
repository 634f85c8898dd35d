-- What is kept and files have an amount of work.
use Rattle.std.proofs.Common.{◌≡◌, ◌⊎◌, inl, inr, ℕ, List, [], ◌∷◌, Option, Some, None, Result, Ok, Err, refl}
use Rattle.std.specs.FinMap as finite
use Rattle.token_tree.specs.Tree.{Group}
use Rattle.group_inherit.specs.Flattening.{TokenAt}
use Rattle.group_inherit.specs.Laws.{HasBreak, HasFlat}
use Rattle.group_inherit.specs.Merging.{merged}
use Rattle.alias_ref.specs.Laws.{Flat}
use Rattle.permutations.specs.Permutation.{Permutation}
use Rattle.file_plan.specs.InUse.{resolver_path, resolver_in, files_in_use}
use Rattle.file_plan.specs.Plan.{Planned, planned, refused}
use Rattle.source_trees.specs.Contents.{SourceContent}
use Rattle.source_trees.specs.Merges.{IsMergeOf}
use Rattle.source_trees.specs.Sources.{BreakAt, SourcesFound}
use Rattle.source_trees.specs.declared.merge.Merge.{Merge}
use Rattle.source_trees.specs.declared.merge.Merge.TheVariants as merge
use Rattle.transforms.specs.Config.{Settings}
use Rattle.transforms.specs.declared.config.ConfigFault.{ConfigFault}
use Rattle.tk_io.specs.FilesData.{FilesData}
use Rattle.token_cells.specs.Cell.{TokenPath}
use Rattle.build_plain.specs.Breaks.{home_of}
use Rattle.build_plain.specs.Out.{settings_of}
use Rattle.build_plain.specs.Work.{Work, work, added}
use Rattle.rebuild_core.specs.Sums.{IsOneIf, IsOneUnless}
use Rattle.rebuild_core.specs.Work.{UsedOfPlan, UsedUnder, IsUsed, MergesTo, IsMerge, KeptPerm, kept_perm, contents_of, named, KeptOf, KeptOfPlan, KeptUnder, IsKept, HasSources, IsReachedIn, IsReachedSince, MergeWork, SourcesWork, PermWorkFrom, PermsWorkFrom, AreRead, PlanWorkFrom, WorkUnderFrom, IsWorkFrom}
use Rattle.rebuild_core.specs.inner.Below.{EachLaws}
use Rattle.rebuild_core.proofs.Decided.{Decided, same_texts, same_options, same_lists, same_settings, same_contents, either_of, not_so}
use Rattle.rebuild_core.proofs.ReachesDecided.{reached_decided}
use Rattle.rebuild_core.proofs.Summing.{each_if, each_unless, each_sum}

-- What is compared is the same, or it is not.

has_sources : (k : Option KeptPerm) (sources : List SourceContent) → Decided (HasSources k sources)
has_sources None sources = inr (λ n. n)
has_sources (Some k) sources = same_lists same_contents k.sources sources

reached_in : (old : Option Flat) (flat : Flat) (path : TokenPath) → Decided (IsReachedIn old flat path)
reached_in None flat path = inl tt
reached_in (Some old) flat path = reached_decided old flat path

reached_since : (k : Option KeptPerm) (settings : Settings) (flat : Flat) (path : TokenPath) → Decided (IsReachedSince k settings flat path)
reached_since None settings flat path = inl tt
reached_since (Some k) settings flat path =
    either_of (not_so (same_settings k.settings settings)) (reached_in k.tree flat path)

merge_work : (k : Option KeptPerm) (settings : Settings) (sources : List SourceContent) (m : Merge) → (w : Work) × MergeWork k settings sources m w
merge_work k settings sources (merge.Broken fault) =
    let (n, i) = each_unless (HasSources k sources) (has_sources k sources) in
    (work 0 n 0, (n, i, refl))
merge_work k settings sources (merge.Flat flat) =
    let (m, i) = each_unless (HasSources k sources) (has_sources k sources) in
    let (n, j) = each_sum (λ (token : TokenAt). IsOneIf (IsReachedSince k settings flat token.0))
    (λ token. each_if (IsReachedSince k settings flat token.0) (reached_since k settings flat token.0)) (finite.entries flat) in
    (work 0 m n, (m, n, i, j, refl))

sources_work : (k : Option KeptPerm) (settings : Settings) (sources : List SourceContent) (m : Option Merge) → (w : Work) × SourcesWork k settings sources m w
sources_work k settings sources None = (work 0 0 0, refl)
sources_work k settings sources (Some m) = merge_work k settings sources m

module _ (laws : EachLaws) where
  merges_by : (tree : Group) → HasBreak tree ⊎ HasFlat tree → (m : Merge) × IsMergeOf tree m
  merges_by tree (inl (broken, some, is)) = (merge.Broken broken, (some, is))
  merges_by tree (inr (flat, sound, is)) = (merge.Flat flat, (sound, is))

  merges_to : (files : FilesData) (p : Permutation) (bs : List BreakAt) (trees : List Group)
      → SourcesFound files (home_of files) p.sources bs trees → (m : Option Merge) × MergesTo bs trees m
  merges_to files p [] trees found =
      let (m, is) = merges_by (merged trees) (laws.tree (merged trees) (laws.ordered files (home_of files) p.sources [] trees found)) in
      (Some m, is)
  merges_to files p (b ∷ bs) trees found = (None, refl)

  pub each_merge : (files : FilesData) (p : Permutation) → (m : Option Merge) × IsMerge files p m
  each_merge files p =
      let (bs, trees, found) = laws.found files (home_of files) p.sources in
      let (m, is) = merges_to files p bs trees found in
      (m, (bs, trees, found, is))

  kept_of : (settings : Settings) (files : FilesData) (p : Option Permutation) → (k : Option KeptPerm) × KeptOf settings files p k
  kept_of settings files None = (None, refl)
  kept_of settings files (Some p) =
      let (m, is) = each_merge files p in
      (Some (kept_perm settings (contents_of files p) m), (m, is, refl))

  kept_plan : (settings : Settings) (files : FilesData) (name : List ℕ) (p : Planned) → (k : Option KeptPerm) × KeptOfPlan settings files name p k
  kept_plan settings files name (planned perms) = kept_of settings files (named name perms)
  kept_plan settings files name (refused broken) = (None, refl)

  kept_under : (files : FilesData) (name : List ℕ) (r : Result Settings ConfigFault) → (k : Option KeptPerm) × KeptUnder files name r k
  kept_under files name (Ok settings) =
      let (p, plans) = laws.plan (finite.get files resolver_path) in
      let (k, is) = kept_plan settings files name p in
      (k, (p, plans, is))
  kept_under files name (Err broken) = (None, refl)

  each_kept : (before : Option FilesData) (name : List ℕ) → (k : Option KeptPerm) × IsKept before name k
  each_kept None name = (None, refl)
  each_kept (Some files) name = kept_under files name (settings_of files)

  used_plan : (files : FilesData) (p : Planned) → (used : FilesData) × UsedOfPlan files p used
  used_plan files (planned perms) = (files_in_use files perms, refl)
  used_plan files (refused broken) = (resolver_in files, refl)

  used_under : (files : FilesData) (r : Result Settings ConfigFault) → (used : FilesData) × UsedUnder files r used
  used_under files (Ok settings) =
      let (p, plans) = laws.plan (finite.get files resolver_path) in
      let (used, is) = used_plan files p in
      (used, (p, plans, is))
  used_under files (Err broken) = (finite.empty, refl)

  each_used : (before : Option FilesData) → (used : FilesData) × IsUsed before used
  each_used None = (finite.empty, refl)
  each_used (Some files) = used_under files (settings_of files)

  perm_work : (before : Option FilesData) (settings : Settings) (files : FilesData) (p : Permutation) → (w : Work) × PermWorkFrom before settings files p w
  perm_work before settings files p =
      let (k, kept) = each_kept before p.name in
      let (m, is) = each_merge files p in
      let (w, of) = sources_work k settings (contents_of files p) m in
      (w, (k, m, kept, is, of))

  perms_work : (before : Option FilesData) (settings : Settings) (files : FilesData) (ps : List Permutation) → (w : Work) × PermsWorkFrom before settings files ps w
  perms_work before settings files [] = (work 0 0 0, refl)
  perms_work before settings files (p ∷ ps) =
      let (v, here) = perm_work before settings files p in
      let (vs, later) = perms_work before settings files ps in
      (added v vs, (v, vs, here, later, refl))

  are_read : (before : Option FilesData) (used : FilesData) → (n : ℕ) × AreRead before used n
  are_read before used =
      let (old, is) = each_used before in
      let (n, sum) = each_sum (λ (file : List ℕ × List ℕ). IsOneUnless (finite.get old file.0 ≡ Some file.1))
      (λ file. each_unless (finite.get old file.0 ≡ Some file.1) (same_options same_texts (finite.get old file.0) (Some file.1))) (finite.entries used) in
      (n, (old, is, sum))

  plan_work : (before : Option FilesData) (settings : Settings) (files : FilesData) (p : Planned) → (w : Work) × PlanWorkFrom before settings files p w
  plan_work before settings files (planned perms) =
      let (n, read) = are_read before (files_in_use files perms) in
      let (v, is) = perms_work before settings files perms in
      (added (work n 0 0) v, (n, v, read, is, refl))
  plan_work before settings files (refused broken) =
      let (n, read) = are_read before (resolver_in files) in
      (work n 0 0, (n, read, refl))

  work_under : (before : Option FilesData) (files : FilesData) (r : Result Settings ConfigFault) → (w : Work) × WorkUnderFrom before files r w
  work_under before files (Ok settings) =
      let (p, plans) = laws.plan (finite.get files resolver_path) in
      let (w, is) = plan_work before settings files p in
      (w, (p, plans, is))
  work_under before files (Err broken) = (work 0 0 0, refl)

  pub each_work : (before : Option FilesData) (files : FilesData) → (w : Work) × IsWorkFrom before files w
  each_work before files = work_under before files (settings_of files)
