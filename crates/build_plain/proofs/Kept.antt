-- Outputs by what is kept of a permutation.
use Rattle.std.proofs.Common.{◌≡◌, ℕ, List, [], ◌∷◌, Option, Some, None, refl, sym, ap, subst, ◌∙◌}
use Rattle.std.specs.FinMap as finite
use Rattle.std.specs.List.{zip}
use Rattle.token_tree.specs.Tree.{Group}
use Rattle.group_inherit.specs.Merging.{merged_over, empty_group}
use Rattle.group_inherit.specs.declared.fault.TreeFault.{TreeFault}
use Rattle.alias_ref.specs.Laws.{Flat}
use Rattle.permutations.specs.Permutation.{Permutation, TokenSource}
use Rattle.source_trees.specs.Laws.{OneFound}
use Rattle.source_trees.specs.Merging.{IsMergedOf}
use Rattle.source_trees.specs.Sources.{HomeAt, BreakAt, SourcesFound}
use Rattle.source_trees.specs.View.{break_view}
use Rattle.source_trees.specs.declared.merge.Merge.{Merge}
use Rattle.source_trees.specs.declared.merge.Merge.TheVariants as merge
use Rattle.source_trees.specs.declared.laying.Merged.TheVariants.{Tree, Broken}
use Rattle.source_trees.specs.declared.source.SourceBreak.{SourceBreak}
use Rattle.token_tree.specs.declared.tree.Group.{Group as GroupCode}
use Rattle.transforms.specs.Config.{Settings}
use Rattle.tk_io.specs.FilesData.{FilesData}
use Rattle.token_cells.specs.Breaks.{token_reports, verdict}
use Rattle.token_cells.specs.Cell.{AreCells}
use Rattle.token_cells.specs.TokenCell.{TokenCell}
use Rattle.build_plain.specs.Breaks.{home_of, first_file, source_report, tree_reports, InTree, InTrees, InSources}
use Rattle.build_plain.specs.Out.{perm_outputs, put_beside, Gives}
use Rattle.build_plain.specs.Parts.{AreKept, AreKeptOf}
use Rattle.build_plain.specs.declared.outcome.Outcome.{Outcome}
use Rattle.build_plain.specs.declared.outcome.Outcome.TheVariants as outcome
use Rattle.build_plain.specs.inner.Making.{SourceHasBreak}
use Rattle.build_plain.specs.Outcomes.{HoldsCells, IsOutcome}
use Rattle.build_plain.proofs.Gives.{gives_tokens, gives_flat, gives_broken, gives_source_break}

-- what is kept of tokens are their cells
cells_among : (settings : Settings) (bs : List BreakAt) (ts : List Group) (flat : Flat) (cells : List TokenCell) → AreKept settings bs ts (Some (merge.Flat flat)) (Some cells)
    → AreCells flat settings (finite.entries flat) cells
cells_among settings [] ts flat cells (is, are) = are
cells_among settings (b ∷ bs) ts flat cells (none, no_cells) = absurd (cc)

kept_cells : (settings : Settings) (files : FilesData) (p : Permutation) (flat : Flat) (cells : List TokenCell) → AreKeptOf settings files p (Some (merge.Flat flat)) (Some cells)
    → AreCells flat settings (finite.entries flat) cells
kept_cells settings files p flat cells (bs, ts, found, kept) = cells_among settings bs ts flat cells kept

pub holds_cells : (settings : Settings) (files : FilesData) (p : Permutation) (o : Outcome) → IsOutcome settings files p o → HoldsCells settings o
holds_cells settings files p (outcome.Tokens tree) is = kept_cells settings files p tree.tokens tree.cells is
holds_cells settings files p (outcome.TreeBreak fault) is = tt
holds_cells settings files p (outcome.SourceBreak b) is = tt

module _ (files : FilesData) (settings : Settings) (p : Permutation) (before out : FilesData) where
  abbrev Found : Type 0
  Found = Gives files p.name (InSources settings files p.sources) before out

  in_merged : (bs : List BreakAt) (ts : List Group) → SourcesFound files (home_of files) p.sources bs ts → bs ≡ []
      → Gives files p.name (InTree settings (first_file (home_of files) p.sources) (merged_over empty_group ts)) before out → Found
  in_merged bs ts found none (cells, breaks, in_tree, made) =
      let first = first_file (home_of files) p.sources in
      (cells, breaks, (bs, ts, found, subst (λ (xs : List BreakAt). InTrees settings first xs ts cells breaks) (sym none) in_tree), made)

  -- a break of a source
  pub gives_source : (name : List ℕ) → name ≡ p.name → (b : SourceBreak) → IsMergedOf files (home_of files) p.sources (Broken b)
      → out ≡ put_beside before (perm_outputs files name [] (Some (source_report (break_view b)))) → Found
  gives_source name named b is made =
      gives_source_break files settings p.name before out (home_of files) p.sources b refl is
      (made ∙ ap (λ n. put_beside before (perm_outputs files n [] (Some (source_report (break_view b))))) named)

  -- the cells of a flat tree
  flat_kept : (bs : List BreakAt) (ts : List Group) (flat : Flat) (kept : Option (List TokenCell)) (cells : List TokenCell) → SourcesFound files (home_of files) p.sources bs ts
      → kept ≡ Some cells → AreKept settings bs ts (Some (merge.Flat flat)) kept
      → out ≡ put_beside before (perm_outputs files p.name cells (verdict (token_reports flat (zip (finite.entries flat) cells)))) → Found
  flat_kept [] ts flat None cells found there ((sound, is), are) made = absurd are
  flat_kept [] ts flat (Some kept) cells found there ((sound, is), are) made =
      in_merged [] ts found refl (gives_flat files settings p.name before out (first_file (home_of files) p.sources) (merged_over empty_group ts) flat sound is
      (gives_tokens files settings p.name before out flat kept cells are (sym (some_same there)) made))
    where
      some_same : {x y : List TokenCell} → Some x ≡ Some y → x ≡ y
      some_same e = cc
  flat_kept (b ∷ bs) ts flat kept cells found there (none, no_cells) made = cc

  pub gives_kept_flat : (flat : Flat) (m : Option Merge) (kept : Option (List TokenCell)) (cells : List TokenCell) → AreKeptOf settings files p m kept → m ≡ Some (merge.Flat flat)
      → kept ≡ Some cells → out ≡ put_beside before (perm_outputs files p.name cells (verdict (token_reports flat (zip (finite.entries flat) cells)))) → Found
  gives_kept_flat flat m kept cells (bs, ts, found, are) is there made =
      flat_kept bs ts flat kept cells found there (subst (λ (x : Option Merge). AreKept settings bs ts x kept) is are) made

  -- a break of the merged tree
  broken_kept : (bs : List BreakAt) (ts : List Group) (broken : TreeFault) (kept : Option (List TokenCell)) → SourcesFound files (home_of files) p.sources bs ts
      → AreKept settings bs ts (Some (merge.Broken broken)) kept
      → out ≡ put_beside before (perm_outputs files p.name [] (verdict (tree_reports (first_file (home_of files) p.sources) broken))) → Found
  broken_kept [] ts broken kept found ((some, is), none) made =
      in_merged [] ts found refl (gives_broken files settings p.name before out (first_file (home_of files) p.sources) (merged_over empty_group ts) broken some is made)
  broken_kept (b ∷ bs) ts broken kept found (none, no_cells) made = cc

  pub gives_kept_break : (broken : TreeFault) (m : Option Merge) (kept : Option (List TokenCell)) → AreKeptOf settings files p m kept → m ≡ Some (merge.Broken broken)
      → out ≡ put_beside before (perm_outputs files p.name [] (verdict (tree_reports (first_file (home_of files) p.sources) broken))) → Found
  gives_kept_break broken m kept (bs, ts, found, are) is made =
      broken_kept bs ts broken kept found (subst (λ (x : Option Merge). AreKept settings bs ts x kept) is are) made

module _ (files : FilesData) (settings : Settings) (p : Permutation) where
  -- a flat tree is kept with cells
  has_cells : (bs : List BreakAt) (ts : List Group) (flat : Flat) (kept : Option (List TokenCell)) → kept ≡ None → AreKept settings bs ts (Some (merge.Flat flat)) kept → ⊥
  has_cells [] ts flat None none (is, are) = are
  has_cells [] ts flat (Some cells) none (is, are) = cc
  has_cells (b ∷ bs) ts flat kept none (gone, no_cells) = cc

  pub cells_kept : (flat : Flat) (m : Option Merge) (kept : Option (List TokenCell)) → AreKeptOf settings files p m kept → m ≡ Some (merge.Flat flat) → kept ≡ None → ⊥
  cells_kept flat m kept (bs, ts, found, are) is none = has_cells bs ts flat kept none (subst (λ (x : Option Merge). AreKept settings bs ts x kept) is are)

  -- nothing is kept where a source breaks a rule
  broken_from : (bs : List BreakAt) (ts : List Group) (kept : Option (List TokenCell)) → SourcesFound files (home_of files) p.sources bs ts → AreKept settings bs ts None kept
      → SourceHasBreak files p.sources
  broken_from [] ts kept found are = absurd are
  broken_from (b ∷ bs) ts kept found are = (b, bs, ts, found)

  pub none_kept : (m : Option Merge) (kept : Option (List TokenCell)) → AreKeptOf settings files p m kept → m ≡ None → SourceHasBreak files p.sources
  none_kept m kept (bs, ts, found, are) none = broken_from bs ts kept found (subst (λ (x : Option Merge). AreKept settings bs ts x kept) none are)

-- sources of which one breaks a rule come to no tree
pub no_tree : OneFound → (files : FilesData) (home : HomeAt) (sources : List TokenSource) (g : GroupCode) → home ≡ home_of files → SourceHasBreak files sources → IsMergedOf files home sources (Tree g) → ⊥
no_tree one files home sources g is (b, bs, ts, found) (cs, us, found_too, (none, laid)) =
    let at : SourcesFound files home sources (b ∷ bs) ts = subst (λ (h : HomeAt). SourcesFound files h sources (b ∷ bs) ts) (sym is) found in
    not_none ((one files home sources (b ∷ bs) cs ts us at found_too).0 ∙ none)
  where
    not_none : {x : BreakAt} {xs : List BreakAt} → x ∷ xs ≡ [] → ⊥
    not_none e = cc
