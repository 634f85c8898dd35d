-- A permutation of the code, by what its sources come to.
use Rattle.std.proofs.Common.{◌≡◌, List, Option, Some, None, refl, sym, subst}
use Rattle.std.specs.FinMap as finite
use Rattle.tk_io.specs.FilesData.{FilesData}
use Rattle.tk_io.specs.Order.{text_cmp}
use Rattle.token_tree.specs.View.{group_view}
use Rattle.token_tree.specs.declared.tree.Group.{Group as GroupCode}
use Rattle.permutations.specs.Permutation.{Permutation}
use Rattle.file_plan.specs.View.{plan_perm_view, plan_sources_view}
use Rattle.file_plan.specs.declared.source.PlanPerm.{PlanPerm}
use Rattle.file_plan.specs.declared.source.PlanSource.{PlanSource}
use Rattle.source_trees.specs.Laws.{OneFound}
use Rattle.source_trees.specs.Merges.{IsMergeOf}
use Rattle.source_trees.specs.Merging.{AreKnown, IsMergedOf}
use Rattle.source_trees.specs.Sources.{HomeAt, BreakAt}
use Rattle.source_trees.specs.declared.laying.Merged.{Merged}
use Rattle.source_trees.specs.declared.laying.Merged.TheVariants.{Tree, Broken}
use Rattle.source_trees.specs.declared.merge.Merge.{Merge}
use Rattle.source_trees.specs.declared.merge.Merge.TheVariants as merge
use Rattle.source_trees.specs.declared.shape.FileShape.{FileShape}
use Rattle.source_trees.specs.declared.source.SourceBreak.{SourceBreak as Break}
use Rattle.transforms.specs.Config.{Settings}
use Rattle.token_cells.specs.TokenCell.{TokenCell}
use Rattle.build_plain.specs.Breaks.{home_of}
use Rattle.build_plain.specs.Parts.{AreCellsFor, AreKept, AreKeptOf}
use Rattle.build_plain.specs.Work.{Work, TreeWork, PermWork, RiseBy, RiseWithin}
use Rattle.build_plain.specs.declared.outcome.Outcome.{Outcome}
use Rattle.build_plain.specs.declared.outcome.Outcome.TheVariants.{Tokens, TreeBreak, SourceBreak}
use Rattle.build_plain.specs.Outcomes.{IsOutcome, IsTreeOutcome}
use Rattle.build_plain.proofs.Works.{merged_work, merged_within, unmerged_work}

-- what is found of the sources that the code hands on
abbrev pub Comes : finite.FinMap text_cmp FileShape → HomeAt → List PlanSource → Merged → Type 0
Comes shapes home slice m = (texts : FilesData) → AreKnown texts shapes (plan_sources_view slice) → IsMergedOf texts home (plan_sources_view slice) m

-- what the merged tree comes to is what the permutation comes to
module _ (settings : Settings) (files : FilesData) (p : Permutation) (g : GroupCode) where
  kept : IsMergedOf files (home_of files) p.sources (Tree g) → (m : Merge) (cells : Option (List TokenCell)) → IsMergeOf (group_view g) m → AreCellsFor settings m cells
      → AreKeptOf settings files p (Some m) cells
  kept (bs, ts, found, (none, is)) m cells comes_to are = (
    bs,
    ts,
    found,
    subst (λ (xs : List BreakAt). AreKept settings xs ts (Some m) cells) (sym none) (subst (λ t. IsMergeOf t m) is comes_to, are),
  )

  pub tree_of_perm : IsMergedOf files (home_of files) p.sources (Tree g) → (o : Outcome) → IsTreeOutcome settings (group_view g) o → IsOutcome settings files p o
  tree_of_perm merged (Tokens tree) comes_to = kept merged (merge.Flat tree.tokens) (Some tree.cells) comes_to.0 comes_to.1
  tree_of_perm merged (TreeBreak fault) comes_to = kept merged (merge.Broken fault) None comes_to refl
  tree_of_perm merged (SourceBreak b) comes_to = absurd comes_to

module _ (files : FilesData) (home : HomeAt) (p : PlanPerm) (is_home : home ≡ home_of files) (shapes : finite.FinMap text_cmp FileShape) (known : AreKnown files shapes (plan_sources_view p.sources))
    (slice : List PlanSource) (same : slice ≡ p.sources) (m : Merged) (comes : Comes shapes home slice m) where
  pub merged : (k : Merged) → m ≡ k → IsMergedOf files home (plan_sources_view p.sources) k
  merged k is =
      subst (λ (x : Merged). IsMergedOf files home (plan_sources_view p.sources) x) is
      (subst (λ (s : List PlanSource). AreKnown files shapes (plan_sources_view s) → IsMergedOf files home (plan_sources_view s) m) same (comes files) known)

  -- what is found in the sources under the home of the files
  pub at_home : (k : Merged) → m ≡ k → IsMergedOf files (home_of files) (plan_sources_view p.sources) k
  at_home k is = subst (λ (h : HomeAt). IsMergedOf files h (plan_sources_view p.sources) k) is_home (merged k is)

  pub perm_tree : (settings : Settings) (g : GroupCode) → m ≡ Tree g → (o : Outcome) → IsTreeOutcome settings (group_view g) o → IsOutcome settings files (plan_perm_view p) o
  perm_tree settings g is o comes_to = tree_of_perm settings files (plan_perm_view p) g (at_home (Tree g) is) o comes_to

  pub perm_break : (b : Break) → m ≡ Broken b → IsMergedOf files (home_of files) (plan_sources_view p.sources) (Broken b)
  perm_break b is = at_home (Broken b) is

  pub perm_tree_work : (g : GroupCode) (a b : Work) → m ≡ Tree g → RiseBy (TreeWork (group_view g)) a b → RiseBy (PermWork files (plan_perm_view p)) a b
  perm_tree_work g a b is r = merged_work files home (plan_perm_view p) is_home g a b (merged (Tree g) is) r

  pub perm_tree_within : (found : OneFound) (g : GroupCode) (a b : Work) → m ≡ Tree g → RiseWithin (TreeWork (group_view g)) a b → RiseWithin (PermWork files (plan_perm_view p)) a b
  perm_tree_within found g a b is r = merged_within files home (plan_perm_view p) is_home found g a b (merged (Tree g) is) r

  pub perm_break_work : (b : Break) (v : Work) → m ≡ Broken b → RiseBy (PermWork files (plan_perm_view p)) v v
  perm_break_work b v is = unmerged_work files home (plan_perm_view p) is_home b v (merged (Broken b) is)
