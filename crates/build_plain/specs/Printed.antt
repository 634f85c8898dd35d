-- Where it stands what files that are refused are told: each span lies in the text of the file that is named.
use Rattle.std.specs.Prelude.{◌≡◌, ◌⊎◌, ◌≤◌, ℕ, List, [], ◌++◌, Some, None, Err, length}
use Rattle.std.specs.FinMap as finite
use Rattle.ring.specs.Lists.{In}
use Rattle.tk_io.specs.FilesData.{FilesData}
use Rattle.name_path.specs.declared.place.Place.{Place}
use Rattle.group_inherit.specs.Flattening.{Flattened}
use Rattle.group_inherit.specs.Span.{Span}
use Rattle.alias_ref.specs.Laws.{Flat}
use Rattle.permutations.specs.Permutation.{TokenSource, Permutation}
use Rattle.file_plan.specs.InUse.{resolver_path}
use Rattle.file_plan.specs.Plan.{PlanBreak, planned, refused, Plans}
use Rattle.source_trees.specs.MergedTokens.{IsFlatOf}
use Rattle.source_trees.specs.Sources.{HomeAt}
use Rattle.transforms.specs.Config.{Settings}
use Rattle.transforms.specs.declared.config.ConfigFault.{ConfigFault}
use Rattle.refusals.specs.Planning.{plan_report}
use Rattle.refusals.specs.Refusal.{Report, report, file_text, refusal_text, detail_lines, report_text}
use Rattle.refusals.specs.declared.rule.Rule.TheVariants as rule
use Rattle.token_cells.specs.Breaks.{place_span}
use Rattle.token_cells.specs.TokenCell.{TokenCell}
use Rattle.build_plain.specs.Breaks.{tokens_path, Finds}
use Rattle.build_plain.specs.Out.{config_path, config_reports, settings_of}

-- the file is there, and the span lies in its text
pub record SpanLies (files : FilesData) (file : List ℕ) (start end : ℕ) : Type 0 where
  pub text : List ℕ
  pub there : finite.get files file ≡ Some text
  pub rises : start ≤ end
  pub within : end ≤ length text

abbrev pub ReportLies : FilesData → Report → Type 0
ReportLies files r = SpanLies files r.file r.start r.end

-- There is no resolver document, and no file of all tokens: this is told at its beginning.
pub record LacksTokens (files : FilesData) (r : Report) : Type 0 where
  pub no_document : finite.get files resolver_path ≡ None
  pub no_tokens : finite.get files tokens_path ≡ None
  pub told : r ≡ report rule.FileMissing tokens_path 0 0 []

-- A break of the files: of their configuration, of their plan, or any one of a permutation of the plan.
pub data IsBreakOf (files : FilesData) : Report → Type 0 where
  of_config : (broken : ConfigFault) {r : Report} → settings_of files ≡ Err broken → In r (config_reports (length (file_text files config_path)) broken)
      → IsBreakOf files r
  of_plan : (b : PlanBreak) → Plans (finite.get files resolver_path) (refused b) → IsBreakOf files (plan_report b)
  of_permutation : (settings : Settings) (perms : List Permutation) (p : Permutation) (cells : List TokenCell) (breaks : List Report) {r : Report}
      → Plans (finite.get files resolver_path) (planned perms) → In p perms → Finds settings files p cells breaks → In r breaks → IsBreakOf files r

-- Each of them lies in its file, but for a file of all tokens that is not there.
abbrev pub BreaksLieInFiles : Type 0
BreaksLieInFiles = (files : FilesData) (r : Report) → IsBreakOf files r → ReportLies files r ⊎ LacksTokens files r

-- What is printed counts line and column in that text.
abbrev pub LinesAreOfFiles : Type 0
LinesAreOfFiles = (files : FilesData) (r : Report) (lies : ReportLies files r)
    → report_text files r ≡ refusal_text r.rule r.file lies.text r.start r.end ++ detail_lines r.details

-- A span lies in the definition of a token.
pub record LiesInToken (f : Flattened) (span : Span) : Type 0 where
  pub file : span.file ≡ f.def.file
  pub begins : f.def.start ≤ span.start
  pub rises : span.start ≤ span.end
  pub ends : span.end ≤ f.def.end

-- What is told of a place of a token that is there lies in its definition.
abbrev pub PlacesLieInTokens : Type 0
PlacesLieInTokens = (files : FilesData) (home : HomeAt) (sources : List TokenSource) (flat : Flat) → IsFlatOf files home sources flat
    → (place : Place) (f : Flattened) → finite.get flat place.token ≡ Some f → LiesInToken f (place_span flat place)
