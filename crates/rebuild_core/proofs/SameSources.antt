-- What a permutation came to, where its sources hold the same in other files.
use Rattle.std.proofs.Common.{◌≡◌, List, [], ◌∷◌, Option, Some, None, refl, sym, subst}
use Rattle.token_tree.specs.Tree.{Group}
use Rattle.alias_ref.specs.Laws.{Flat}
use Rattle.permutations.specs.Permutation.{Permutation}
use Rattle.source_trees.specs.Laws.{FoundByContent, EachFound}
use Rattle.source_trees.specs.Merging.{AllInlineStand}
use Rattle.source_trees.specs.Sources.{BreakAt, SourcesFound}
use Rattle.source_trees.specs.View.{break_view}
use Rattle.source_trees.specs.declared.merge.Merge.{Merge}
use Rattle.source_trees.specs.declared.merge.Merge.TheVariants as merge
use Rattle.transforms.specs.Config.{Settings}
use Rattle.tk_io.specs.FilesData.{FilesData}
use Rattle.token_cells.specs.Evaluated.{EvaluatedTree}
use Rattle.token_cells.specs.TokenCell.{TokenCell}
use Rattle.build_plain.specs.Breaks.{home_of}
use Rattle.build_plain.specs.Outcomes.{IsOutcome, merge_in}
use Rattle.build_plain.specs.Parts.{AreCellsFor, AreKept, AreKeptOf}
use Rattle.build_plain.specs.declared.outcome.Outcome.{Outcome}
use Rattle.build_plain.specs.declared.outcome.Outcome.TheVariants.{Tokens, TreeBreak, SourceBreak}
use Rattle.rebuild_core.specs.Work.{IsMerge, MergesTo, contents_of}
use Rattle.rebuild_core.specs.inner.Evaluating.{AreCellsOf}
use Rattle.rebuild_core.specs.inner.Merging.{flat_of}

-- The merge of what it came to.

kept_merges : (settings : Settings) (bs : List BreakAt) (ts : List Group) (m : Merge) (cells : Option (List TokenCell)) → AreKept settings bs ts (Some m) cells → MergesTo bs ts (Some m)
kept_merges settings [] ts m cells are = are.0
kept_merges settings (b ∷ bs) ts m cells are = are.0

broken_merges : (bs : List BreakAt) (ts : List Group) (b : BreakAt) (rest : List BreakAt) → bs ≡ b ∷ rest → MergesTo bs ts None
broken_merges bs ts b rest is = subst (λ (xs : List BreakAt). MergesTo xs ts None) (sym is) refl

pub outcome_merge : (settings : Settings) (files : FilesData) (p : Permutation) (o : Outcome) → IsOutcome settings files p o → IsMerge files p (merge_in o)
outcome_merge settings files p (Tokens tree) (bs, ts, found, are) = (bs, ts, found, kept_merges settings bs ts (merge.Flat tree.tokens) (Some tree.cells) are)
outcome_merge settings files p (TreeBreak fault) (bs, ts, found, are) = (bs, ts, found, kept_merges settings bs ts (merge.Broken fault) None are)
outcome_merge settings files p (SourceBreak b) (bs, ts, found, (rest, is)) = (bs, ts, found, broken_merges bs ts (break_view b) rest is)

-- The same of sources that hold the same.

module _ (by_content : FoundByContent) (each : EachFound) (files others : FilesData) (p q : Permutation) (same : contents_of files p ≡ contents_of others q)
    (stand : AllInlineStand (home_of files).text p.sources) (stand_too : AllInlineStand (home_of others).text q.sources) where
  pub found_again : (bs : List BreakAt) (ts : List Group) → SourcesFound files (home_of files) p.sources bs ts → SourcesFound others (home_of others) q.sources bs ts
  found_again bs ts found =
      let (cs, us, found_too) = each others (home_of others) q.sources in
      let alike = by_content files others (home_of files) (home_of others) p.sources q.sources bs cs ts us same stand stand_too found found_too in
      subst (λ (xs : List BreakAt). SourcesFound others (home_of others) q.sources xs ts) (sym alike.0)
      (subst (λ us. SourcesFound others (home_of others) q.sources cs us) (sym alike.1) found_too)

  kept_too : (settings : Settings) (m : Option Merge) (cells : Option (List TokenCell)) → AreKeptOf settings files p m cells → AreKeptOf settings others q m cells
  kept_too settings m cells (bs, ts, found, are) = (bs, ts, found_again bs ts found, are)

  pub outcome_again : (settings : Settings) (o : Outcome) → IsOutcome settings files p o → IsOutcome settings others q o
  outcome_again settings (Tokens tree) is = kept_too settings (Some (merge.Flat tree.tokens)) (Some tree.cells) is
  outcome_again settings (TreeBreak fault) is = kept_too settings (Some (merge.Broken fault)) None is
  outcome_again settings (SourceBreak b) (bs, ts, found, is) = (bs, ts, found_again bs ts found, is)

-- Under another configuration.

recast_kept : (settings other : Settings) (bs : List BreakAt) (ts : List Group) (m : Merge) (cells more : Option (List TokenCell))
    → AreCellsFor other m more → AreKept settings bs ts (Some m) cells → AreKept other bs ts (Some m) more
recast_kept settings other [] ts m cells more are (is, were) = (is, are)
recast_kept settings other (b ∷ bs) ts m cells more are (none, no_cells) = cc

pub recast_tokens : (settings other : Settings) (files : FilesData) (p : Permutation) (flat : Flat) (cells more : Option (List TokenCell))
    → AreCellsFor other (merge.Flat flat) more → AreKeptOf settings files p (Some (merge.Flat flat)) cells → AreKeptOf other files p (Some (merge.Flat flat)) more
recast_tokens settings other files p flat cells more are (bs, ts, found, kept) = (bs, ts, found, recast_kept settings other bs ts (merge.Flat flat) cells more are kept)

-- what came to no flat tree came to the same under any settings
pub recast_none : (settings other : Settings) (files : FilesData) (p : Permutation) (o : Outcome) → flat_of o ≡ None → IsOutcome settings files p o → IsOutcome other files p o
recast_none settings other files p (Tokens tree) none is = cc
recast_none settings other files p (TreeBreak fault) none (bs, ts, found, kept) = (bs, ts, found, recast_kept settings other bs ts (merge.Broken fault) None None refl kept)
recast_none settings other files p (SourceBreak b) none is = is

-- .. and what came to one, with other cells
pub recast_tree : (settings other : Settings) (files : FilesData) (p : Permutation) (o : Outcome) (tree : EvaluatedTree) → flat_of o ≡ Some tree.tokens → AreCellsOf other tree
    → IsOutcome settings files p o → IsOutcome other files p (Tokens tree)
recast_tree settings other files p (Tokens old) tree same are is =
    let flat : old.tokens ≡ tree.tokens = cc in
    recast_tokens settings other files p tree.tokens (Some old.cells) (Some tree.cells) are
    (subst (λ (f : Flat). AreKeptOf settings files p (Some (merge.Flat f)) (Some old.cells)) flat is)
recast_tree settings other files p (TreeBreak fault) tree same are is = cc
recast_tree settings other files p (SourceBreak b) tree same are is = cc
