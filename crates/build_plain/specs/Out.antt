-- The outputs of files: four files of each permutation without a break, and the refusals of the others; or one refusal of all.
use Rattle.std.specs.Prelude.{◌≡◌, ℕ, List, [], ◌∷◌, ◌++◌, codes, Option, Some, None, Result, Ok, Err, length}
use Rattle.std.specs.FinMap as finite
use Rattle.transforms.specs.Config.{Settings, plain, config_of}
use Rattle.transforms.specs.declared.config.ConfigFault.{ConfigFault}
use Rattle.transforms.specs.declared.config.ConfigFault.TheVariants as config
use Rattle.tk_io.specs.FilesData.{FilesData}
use Rattle.permutations.specs.Permutation.{Permutation}
use Rattle.file_plan.specs.InUse.{resolver_path}
use Rattle.file_plan.specs.Plan.{Planned, planned, refused, Plans}
use Rattle.refusals.specs.Planning.{plan_report}
use Rattle.refusals.specs.Refusal.{Report, report, report_text, of_key, file_text}
use Rattle.refusals.specs.declared.rule.Rule.TheVariants as rule
use Rattle.token_cells.specs.Breaks.{verdict}
use Rattle.token_cells.specs.Sheets.{sheet_for}
use Rattle.token_cells.specs.declared.format.Format.TheVariants.{Css, Android, Swift, Json}
use Rattle.token_cells.specs.TokenCell.{TokenCell}
use Rattle.build_plain.specs.Breaks.{Finding, Finds}

abbrev pub one_output : List ℕ → List ℕ → FilesData
one_output path body = finite.insert finite.empty path body

-- Of a permutation.

-- an output by its path and its bytes
abbrev pub Output : Type 0
Output = List ℕ × List ℕ

-- a file in each format, under the permutation's name
abbrev pub four_outputs : List ℕ → List TokenCell → List Output
four_outputs name cells =
    (name ++ codes "/Tokens.swift", sheet_for Swift cells) ∷ (name ++ codes "/tokens.css", sheet_for Css cells)
    ∷ (name ++ codes "/tokens.json", sheet_for Json cells) ∷ (name ++ codes "/tokens.xml", sheet_for Android cells) ∷ []

-- the outputs by the verdict: the refusal, or the files of the cells
abbrev pub perm_outputs : FilesData → List ℕ → List TokenCell → Option Report → List Output
perm_outputs files name cells (Some r) = (name ++ codes "/REFUSED", report_text files r) ∷ []
perm_outputs files name cells None = four_outputs name cells

-- outputs put beside those that are there
abbrev pub put_beside : FilesData → List Output → FilesData
put_beside before [] = before
put_beside before (o ∷ os) = put_beside (finite.insert before o.0 o.1) os

-- what is found gives these outputs under the name, beside those before
abbrev pub Gives : FilesData → List ℕ → Finding → FilesData → FilesData → Type 0
Gives files name found before out =
    (cells : List TokenCell) × (breaks : List Report) × found cells breaks
    × (out ≡ put_beside before (perm_outputs files name cells (verdict breaks)))

abbrev pub GivesOf : Settings → FilesData → Permutation → FilesData → FilesData → Type 0
GivesOf settings files p before out = Gives files p.name (Finds settings files p) before out

-- those of each permutation, beside those before
abbrev pub GivesFrom : Settings → FilesData → List Permutation → FilesData → FilesData → Type 0
GivesFrom settings files [] before out = out ≡ before
GivesFrom settings files (p ∷ ps) before out =
    (next : FilesData) × GivesOf settings files p before next × GivesFrom settings files ps next out

-- The plan: where it breaks a rule, there is one output.
abbrev pub OfPlan : Settings → FilesData → Planned → FilesData → Type 0
OfPlan settings files (planned perms) out = GivesFrom settings files perms finite.empty out
OfPlan settings files (refused broken) out = out ≡ one_output (codes "REFUSED") (report_text files (plan_report broken))

-- The configuration.

abbrev pub config_path : List ℕ
config_path = codes "tokc.toml"

abbrev pub settings_by : Option (List ℕ) → Result Settings ConfigFault
settings_by None = Ok plain
settings_by (Some text) = config_of text

abbrev pub settings_of : FilesData → Result Settings ConfigFault
settings_of files = settings_by (finite.get files config_path)

-- the fault that the configuration of the files has; memory may always run out
abbrev pub IsConfigFault : FilesData → ConfigFault → Type 0
IsConfigFault files config.Toml = settings_of files ≡ Err config.Toml
IsConfigFault files (config.Key key) = settings_of files ≡ Err (config.Key key)
IsConfigFault files config.NoMemory = Unit {0}

-- a configuration that is refused is told at its whole text
abbrev pub config_reports : ℕ → ConfigFault → List Report
config_reports end config.Toml = report rule.ConfigToml config_path 0 end [] ∷ []
config_reports end (config.Key key) = report rule.ConfigKey config_path 0 end (of_key key ∷ []) ∷ []
config_reports end config.NoMemory = []

-- the one output of files whose configuration breaks a rule
abbrev pub refused_config : FilesData → List Report → FilesData → Type 0
refused_config files [] out = ⊥
refused_config files (r ∷ rs) out = out ≡ one_output (codes "REFUSED") (report_text files r)

abbrev pub BuildsUnder : FilesData → Result Settings ConfigFault → FilesData → Type 0
BuildsUnder files (Ok settings) out = (p : Planned) × Plans (finite.get files resolver_path) p × OfPlan settings files p out
BuildsUnder files (Err broken) out = refused_config files (config_reports (length (file_text files config_path)) broken) out

-- The outputs of the files.
abbrev pub Builds : FilesData → FilesData → Type 0
Builds files out = BuildsUnder files (settings_of files) out
