-- What a permutation came to whose tokens break no rule gives its four files.
use Rattle.std.proofs.Common.{◌≡◌, ◌∙◌, ℕ, Bool, true, false, List, Option, Some, None, is_some, not, option_map, ap, ap₂, refl, sym}
use Rattle.std.specs.Option.{is_none}
use Rattle.permutations.specs.Permutation.{Permutation}
use Rattle.source_trees.specs.declared.merge.Merge.TheVariants as merge
use Rattle.transforms.specs.Config.{Settings}
use Rattle.tk_io.specs.FilesData.{FilesData}
use Rattle.refusals.specs.Refusal.{Report, report_text}
use Rattle.token_cells.specs.TokenCell.{TokenCell}
use Rattle.build_plain.specs.Out.{GivesOf, four_outputs, perm_outputs, put_beside}
use Rattle.build_plain.specs.Outcomes.{IsOutcome}
use Rattle.build_plain.specs.declared.outcome.Outcome.{Outcome}
use Rattle.build_plain.specs.declared.outcome.Outcome.TheVariants.{Tokens, TreeBreak, SourceBreak}
use Rattle.build_plain.proofs.Kept.{gives_kept_flat}
use Rattle.rebuild_core.specs.inner.Clean.{AreCleanCells}

-- something is printed exactly of a break
pub none_printed : (files : FilesData) (v : Option Report) → is_none (option_map (report_text files) v) ≡ is_none v
none_printed files None = refl
none_printed files (Some r) = refl

-- of something there is not none
pub is_none_by : {A : Type 0} (o : Option A) (b : Bool) → is_some o ≡ not b → b ≡ is_none o
is_none_by None true is = refl
is_none_by None false is = cc
is_none_by (Some x) true is = cc
is_none_by (Some x) false is = refl

no_verdict : (v : Option Report) → is_none v ≡ true → v ≡ None
no_verdict None is = refl
no_verdict (Some r) is = cc

pub clean_gives : (files : FilesData) (settings : Settings) (p : Permutation) (before out : FilesData) (o : Outcome) (cells : List TokenCell) → IsOutcome settings files p o → AreCleanCells o cells
    → (name : List ℕ) → name ≡ p.name → out ≡ put_beside before (four_outputs name cells) → GivesOf settings files p before out
clean_gives files settings p before out (Tokens tree) cells is (clean, same) name named put =
    gives_kept_flat files settings p before out tree.tokens (Some (merge.Flat tree.tokens)) (Some tree.cells) tree.cells is refl refl
    (put ∙ (ap₂ (λ n cs. put_beside before (four_outputs n cs)) named same ∙ ap (λ v. put_beside before (perm_outputs files p.name tree.cells v)) (sym (no_verdict _ clean))))
clean_gives files settings p before out (TreeBreak fault) cells is clean name named put = absurd clean
clean_gives files settings p before out (SourceBreak b) cells is clean name named put = absurd clean
