-- Files have one answer, and one amount of work.
use Rattle.std.proofs.Common.{◌≡◌, ◌∙◌, inl, inr, ℕ, List, [], ◌∷◌, Result, Ok, Err, ap, ap₂, sym, subst}
use Rattle.std.specs.FinMap as finite
use Rattle.std.specs.List.{zip}
use Rattle.std.specs.Prelude.{length}
use Rattle.token_tree.specs.Tree.{Group}
use Rattle.group_inherit.specs.Laws.{OneFlat, OneBreak, SoundIsUnbroken}
use Rattle.group_inherit.specs.Merging.{merged_over, empty_group}
use Rattle.alias_ref.specs.Laws.{Flat}
use Rattle.permutations.specs.Permutation.{TokenSource, Permutation}
use Rattle.file_plan.specs.InUse.{resolver_path}
use Rattle.file_plan.specs.Laws.{OnePlan}
use Rattle.file_plan.specs.Plan.{Planned, planned, refused}
use Rattle.source_trees.specs.Laws.{OneFound}
use Rattle.source_trees.specs.Sources.{BreakAt}
use Rattle.transforms.specs.Config.{Settings}
use Rattle.transforms.specs.declared.config.ConfigFault.{ConfigFault}
use Rattle.transforms.specs.declared.config.ConfigFault.TheVariants as config
use Rattle.tk_io.specs.FilesData.{FilesData}
use Rattle.refusals.specs.Refusal.{Report}
use Rattle.token_cells.specs.Breaks.{token_reports, verdict}
use Rattle.token_cells.specs.Laws.{OneCells}
use Rattle.token_cells.specs.TokenCell.{TokenCell}
use Rattle.build_plain.specs.Breaks.{home_of, first_file, tree_reports, InTokens, InTree, InTrees, InSources}
use Rattle.build_plain.specs.Out.{put_beside, perm_outputs, refused_config, GivesOf, GivesFrom, OfPlan, BuildsUnder, Builds, settings_of}
use Rattle.build_plain.specs.Work.{Work, work, added, TreeWork, TreesWork, PermWork, PermsWork, PlanWork, WorkUnder, IsWork}

-- the laws of sources and trees that are needed
pub record TreeLaws : Type 0 where
  pub found : OneFound
  pub flat : OneFlat
  pub broken : OneBreak
  pub sound : SoundIsUnbroken

-- what is found is one thing
abbrev Same : List TokenCell → List Report → List TokenCell → List Report → Type 0
Same cs rs ds ss = (cs ≡ ds) × (rs ≡ ss)

module _ (trees : TreeLaws) (cells : OneCells) (settings : Settings) where
  one_tokens : (flat : Flat) (cs ds : List TokenCell) (rs ss : List Report) → InTokens settings flat cs rs → InTokens settings flat ds ss → Same cs rs ds ss
  one_tokens flat cs ds rs ss i j =
      let same = cells flat settings (finite.entries flat) cs ds i.0 j.0 in
      (same, i.1 ∙ (ap (λ xs. token_reports flat (zip (finite.entries flat) xs)) same ∙ sym j.1))

  one_tree : (first : List ℕ) (tree : Group) (cs ds : List TokenCell) (rs ss : List Report) → InTree settings first tree cs rs → InTree settings first tree ds ss → Same cs rs ds ss
  one_tree first tree cs ds rs ss (inl (f, some, is, none, found)) (inl (g, some_too, is_too, none_too, found_too)) =
      (none ∙ sym none_too, found ∙ (ap (tree_reports first) (trees.broken tree f g some some_too is is_too) ∙ sym found_too))
  one_tree first tree cs ds rs ss (inl (f, some, is, none, found)) (inr (flat, sound, is_too, found_too)) = absurd (trees.sound tree f sound some is)
  one_tree first tree cs ds rs ss (inr (flat, sound, is, found)) (inl (g, some_too, is_too, none_too, found_too)) = absurd (trees.sound tree g sound some_too is_too)
  one_tree first tree cs ds rs ss (inr (flat, sound, is, found)) (inr (other, sound_too, is_too, found_too)) =
      one_tokens other cs ds rs ss (subst (λ f. InTokens settings f cs rs) (trees.flat tree flat other is is_too) found) found_too

  one_trees : (first : List ℕ) (bs : List BreakAt) (ts : List Group) (cs ds : List TokenCell) (rs ss : List Report)
      → InTrees settings first bs ts cs rs → InTrees settings first bs ts ds ss → Same cs rs ds ss
  one_trees first [] ts cs ds rs ss i j = one_tree first (merged_over empty_group ts) cs ds rs ss i j
  one_trees first (b ∷ bs) ts cs ds rs ss i j = (i.0 ∙ sym j.0, i.1 ∙ sym j.1)

  pub one_finding : (files : FilesData) (sources : List TokenSource) (cs ds : List TokenCell) (rs ss : List Report)
      → InSources settings files sources cs rs → InSources settings files sources ds ss → Same cs rs ds ss
  one_finding files sources cs ds rs ss (bs, ts, found, i) (bs', ts', found', j) =
      let first = first_file (home_of files) sources in
      let same = trees.found files (home_of files) sources bs bs' ts ts' found found' in
      one_trees first bs' ts' cs ds rs ss
      (subst (λ us. InTrees settings first bs' us cs rs) same.1 (subst (λ (xs : List BreakAt). InTrees settings first xs ts cs rs) same.0 i)) j

  one_perm : (files : FilesData) (p : Permutation) (before a b : FilesData) → GivesOf settings files p before a → GivesOf settings files p before b → a ≡ b
  one_perm files p before a b (cs, rs, i, made) (ds, ss, j, made_too) =
      let same = one_finding files p.sources cs ds rs ss i j in
      made ∙ (ap₂ (λ (xs : List TokenCell) (ys : List Report). put_beside before (perm_outputs files p.name xs (verdict ys))) same.0 same.1 ∙ sym made_too)

  one_from : (files : FilesData) (ps : List Permutation) (before a b : FilesData) → GivesFrom settings files ps before a → GivesFrom settings files ps before b → a ≡ b
  one_from files [] before a b i j = i ∙ sym j
  one_from files (p ∷ ps) before a b (next, i, rest) (next', j, rest') =
      one_from files ps next' a b (subst (λ x. GivesFrom settings files ps x a) (one_perm files p before next next' i j) rest) rest'

  one_of_plan : (files : FilesData) (p : Planned) (a b : FilesData) → OfPlan settings files p a → OfPlan settings files p b → a ≡ b
  one_of_plan files (planned perms) a b i j = one_from files perms finite.empty a b i j
  one_of_plan files (refused broken) a b i j = i ∙ sym j

module _ (plan : OnePlan) (trees : TreeLaws) (cells : OneCells) where
  one_config : (files : FilesData) (rs : List Report) (a b : FilesData) → refused_config files rs a → refused_config files rs b → a ≡ b
  one_config files [] a b i j = absurd i
  one_config files (r ∷ rs) a b i j = i ∙ sym j

  one_under : (files : FilesData) (settings : Result Settings ConfigFault) (a b : FilesData) → BuildsUnder files settings a → BuildsUnder files settings b → a ≡ b
  one_under files (Ok settings) a b (p, is, i) (q, is_too, j) =
      one_of_plan trees cells settings files q a b
      (subst (λ x. OfPlan settings files x a) (plan (finite.get files resolver_path) p q is is_too) i) j
  one_under files (Err config.Toml) a b i j = i ∙ sym j
  one_under files (Err (config.Key key)) a b i j = i ∙ sym j
  one_under files (Err config.NoMemory) a b i j = absurd i

  pub one_build : (files a b : FilesData) → Builds files a → Builds files b → a ≡ b
  one_build files a b i j = one_under files (settings_of files) a b i j

module _ (trees : TreeLaws) where
  pub one_tree_work : (tree : Group) (v w : Work) → TreeWork tree v → TreeWork tree w → v ≡ w
  one_tree_work tree v w (inl (f, some, is, done)) (inl (g, some_too, is_too, done_too)) = done ∙ sym done_too
  one_tree_work tree v w (inl (f, some, is, done)) (inr (flat, sound, is_too, done_too)) = absurd (trees.sound tree f sound some is)
  one_tree_work tree v w (inr (flat, sound, is, done)) (inl (g, some_too, is_too, done_too)) = absurd (trees.sound tree g sound some_too is_too)
  one_tree_work tree v w (inr (flat, sound, is, done)) (inr (other, sound_too, is_too, done_too)) =
      done ∙ (ap (λ (f : Flat). work 0 1 (length (finite.entries f))) (trees.flat tree flat other is is_too) ∙ sym done_too)

  one_trees_work : (bs : List BreakAt) (ts : List Group) (v w : Work) → TreesWork bs ts v → TreesWork bs ts w → v ≡ w
  one_trees_work [] ts v w i j = one_tree_work (merged_over empty_group ts) v w i j
  one_trees_work (b ∷ bs) ts v w i j = i ∙ sym j

  one_perm_work : (files : FilesData) (p : Permutation) (v w : Work) → PermWork files p v → PermWork files p w → v ≡ w
  one_perm_work files p v w (bs, ts, found, i) (bs', ts', found', j) =
      let same = trees.found files (home_of files) p.sources bs bs' ts ts' found found' in
      one_trees_work bs' ts' v w
      (subst (λ us. TreesWork bs' us v) same.1 (subst (λ (xs : List BreakAt). TreesWork xs ts v) same.0 i)) j

  one_perms_work : (files : FilesData) (ps : List Permutation) (v w : Work) → PermsWork files ps v → PermsWork files ps w → v ≡ w
  one_perms_work files [] v w i j = i ∙ sym j
  one_perms_work files (p ∷ ps) v w (a, others, i, is, done) (b, others_too, j, js, done_too) =
      done ∙ (ap₂ added (one_perm_work files p a b i j) (one_perms_work files ps others others_too is js) ∙ sym done_too)

  one_plan_work : (files : FilesData) (p : Planned) (v w : Work) → PlanWork files p v → PlanWork files p w → v ≡ w
  one_plan_work files (planned perms) v w (a, i, done) (b, j, done_too) =
      done ∙ (ap (added _) (one_perms_work files perms a b i j) ∙ sym done_too)
  one_plan_work files (refused broken) v w i j = i ∙ sym j

  module _ (plan : OnePlan) where
    one_work_under : (files : FilesData) (settings : Result Settings ConfigFault) (v w : Work) → WorkUnder files settings v → WorkUnder files settings w → v ≡ w
    one_work_under files (Ok settings) v w (p, is, i) (q, is_too, j) =
        one_plan_work files q v w (subst (λ x. PlanWork files x v) (plan (finite.get files resolver_path) p q is is_too) i) j
    one_work_under files (Err broken) v w i j = i ∙ sym j

    pub one_work : (files : FilesData) (v w : Work) → IsWork files v → IsWork files w → v ≡ w
    one_work files v w i j = one_work_under files (settings_of files) v w i j
