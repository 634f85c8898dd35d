-- What is told of a permutation, by what it comes to.
use Rattle.std.proofs.Common.{◌≡◌, ◌≢◌, ℕ, List, [], ◌∷◌, map, take, Option, Some, None, inl, inr, refl, sym, ap, subst, ◌∙◌}
use Rattle.std.specs.FinMap as finite
use Rattle.std.specs.List.{zip}
use Rattle.token_tree.specs.Tree.{Group}
use Rattle.group_inherit.specs.declared.fault.TreeFault.{TreeFault}
use Rattle.alias_ref.specs.Laws.{Flat}
use Rattle.permutations.specs.Permutation.{Permutation}
use Rattle.source_trees.specs.Laws.{OneFound}
use Rattle.source_trees.specs.Merging.{IsMergedOf}
use Rattle.source_trees.specs.Sources.{BreakAt, SourcesFound}
use Rattle.source_trees.specs.declared.laying.Merged.TheVariants.{Broken}
use Rattle.source_trees.specs.declared.merge.Merge.TheVariants as merge
use Rattle.source_trees.specs.declared.source.SourceBreak.{SourceBreak}
use Rattle.transforms.specs.Config.{Settings}
use Rattle.tk_io.specs.FilesData.{FilesData}
use Rattle.refusals.specs.Refusal.{Report, report_text}
use Rattle.token_cells.specs.Breaks.{token_reports, verdict}
use Rattle.token_cells.specs.Laws.{OneCells}
use Rattle.token_cells.specs.TokenCell.{TokenCell}
use Rattle.build_plain.specs.Breaks.{home_of, first_file, source_report, tree_reports, Finds, InTrees}
use Rattle.build_plain.specs.Parts.{AreKept, AreKeptOf}
use Rattle.build_plain.proofs.OneOutputs.{TreeLaws, one_finding}
use Rattle.all_breaks.specs.Telling.{FirstsFound, Tells, TellsBy}
use Rattle.all_breaks.specs.inner.Making.{AreFirstTexts, AreTextsOf, first_text}
use Rattle.all_breaks.proofs.FirstBreaks.{each_firsts, one_firsts, same_first}

module _ (one : OneFound) (settings : Settings) (files : FilesData) (p : Permutation) where
  -- no source has a break
  pub tells_found : (ts : List Group) (cells : List TokenCell) (reports : List Report) → SourcesFound files (home_of files) p.sources [] ts
      → Finds settings files p cells reports → Tells settings files p reports
  tells_found ts cells reports found finds =
      let (firsts, are) = each_firsts files (home_of files) p.sources [] ts found in
      let none = empty firsts (same_first one files (home_of files) p.sources firsts [] ts are found) in
      (firsts, are, subst (λ (fs : List BreakAt). TellsBy settings files p fs reports) (sym none) (cells, finds))
    where
      empty : (fs : List BreakAt) → take 1 fs ≡ [] → fs ≡ []
      empty [] e = refl
      empty (f ∷ fs) e = cc

  -- tokens
  flat_from : (bs : List BreakAt) (ts : List Group) (flat : Flat) (cells : List TokenCell) → SourcesFound files (home_of files) p.sources bs ts
      → AreKept settings bs ts (Some (merge.Flat flat)) (Some cells) → Tells settings files p (token_reports flat (zip (finite.entries flat) cells))
  flat_from [] ts flat cells found ((sound, is), are) =
      tells_found ts cells (token_reports flat (zip (finite.entries flat) cells)) found ([], ts, found, inr (flat, sound, is, (are, refl)))
  flat_from (b ∷ bs) ts flat cells found (none, no_cells) = absurd (cc)

  pub tells_flat : (flat : Flat) (cells : List TokenCell) → AreKeptOf settings files p (Some (merge.Flat flat)) (Some cells)
      → Tells settings files p (token_reports flat (zip (finite.entries flat) cells))
  tells_flat flat cells (bs, ts, found, kept) = flat_from bs ts flat cells found kept

  -- a break of the merged tree
  broken_from : (bs : List BreakAt) (ts : List Group) (broken : TreeFault) → SourcesFound files (home_of files) p.sources bs ts
      → AreKept settings bs ts (Some (merge.Broken broken)) None → Tells settings files p (tree_reports (first_file (home_of files) p.sources) broken)
  broken_from [] ts broken found ((some, is), none) =
      tells_found ts [] (tree_reports (first_file (home_of files) p.sources) broken) found ([], ts, found, inl (broken, some, is, refl, refl))
  broken_from (b ∷ bs) ts broken found (none, no_cells) = absurd (cc)

  pub tells_broken : (broken : TreeFault) → AreKeptOf settings files p (Some (merge.Broken broken)) None → Tells settings files p (tree_reports (first_file (home_of files) p.sources) broken)
  tells_broken broken (bs, ts, found, kept) = broken_from bs ts broken found kept

  -- breaks of sources
  firsts_from : (firsts bs : List BreakAt) (ts : List Group) (b : BreakAt) (rest : List BreakAt) → FirstsFound files (home_of files) p.sources firsts
      → SourcesFound files (home_of files) p.sources bs ts → bs ≡ b ∷ rest → Tells settings files p (map source_report firsts)
  firsts_from [] bs ts b rest are found is = absurd (some (same_first one files (home_of files) p.sources [] bs ts are found ∙ ap (take 1) is))
    where
      some : [] ≡ b ∷ [] → ⊥
      some e = cc
  firsts_from (f ∷ fs) bs ts b rest are found is = (f ∷ fs, are, refl)

  pub tells_firsts : (x : SourceBreak) (texts : List (List ℕ)) → IsMergedOf files (home_of files) p.sources (Broken x) → AreFirstTexts files p.sources texts
      → AreTextsOf settings files p texts
  tells_firsts x texts (bs, ts, found, (rest, is)) (firsts, are, same) =
      (map source_report firsts, firsts_from firsts bs ts _ rest are found is, same ∙ texts_of firsts)
    where
      texts_of : (fs : List BreakAt) → map (first_text files) fs ≡ map (report_text files) (map source_report fs)
      texts_of [] = refl
      texts_of (f ∷ fs) = ap (λ xs. first_text files f ∷ xs) (texts_of fs)

-- The first that is told.

module _ (trees : TreeLaws) (one_cells : OneCells) (settings : Settings) (files : FilesData) (p : Permutation) where
  head_same : {x y : BreakAt} → x ∷ [] ≡ y ∷ [] → x ≡ y
  head_same e = cc

  of_firsts : (f : BreakAt) (fs bs : List BreakAt) (ts : List Group) (first : List ℕ) (cells : List TokenCell) (breaks reports : List Report) → take 1 (f ∷ fs) ≡ take 1 bs
      → InTrees settings first bs ts cells breaks → reports ≡ map source_report (f ∷ fs) → verdict reports ≡ verdict breaks
  of_firsts f fs [] ts first cells breaks reports same i is = absurd (cc)
  of_firsts f fs (b ∷ bs) ts first cells breaks reports same (none, all) is =
      ap verdict is ∙ (ap (λ x. Some (source_report x)) (head_same same) ∙ sym (ap verdict all))

  pub first_told : (firsts : List BreakAt) (cells : List TokenCell) (breaks reports : List Report) → FirstsFound files (home_of files) p.sources firsts
      → Finds settings files p cells breaks → TellsBy settings files p firsts reports → verdict reports ≡ verdict breaks
  first_told [] cells breaks reports are finds (others, found) =
      ap verdict (one_finding trees one_cells settings files p.sources others cells reports breaks found finds).1
  first_told (f ∷ fs) cells breaks reports are (bs, ts, found, i) is =
      of_firsts f fs bs ts (first_file (home_of files) p.sources) cells breaks reports (same_first trees.found files (home_of files) p.sources (f ∷ fs) bs ts are found) i is

  -- One list is told.
  same_by : (firsts : List BreakAt) (reports others : List Report) → TellsBy settings files p firsts reports → TellsBy settings files p firsts others → reports ≡ others
  same_by [] reports others (cs, i) (ds, j) = (one_finding trees one_cells settings files p.sources cs ds reports others i j).1
  same_by (f ∷ fs) reports others i j = i ∙ sym j

  pub one_telling : (reports others : List Report) → Tells settings files p reports → Tells settings files p others → reports ≡ others
  one_telling reports others (firsts, are, i) (gs, are_too, j) =
      same_by gs reports others
      (subst (λ (fs : List BreakAt). TellsBy settings files p fs reports) (one_firsts trees.found files (home_of files) p.sources firsts gs are are_too) i) j
