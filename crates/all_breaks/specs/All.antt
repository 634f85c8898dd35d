-- What is told of files: the break of the configuration or of the plan, or those of all permutations.
use Rattle.std.specs.Prelude.{◌≡◌, List, [], ◌∷◌, map, Result, Ok, Err, length}
use Rattle.std.specs.FinMap as finite
use Rattle.permutations.specs.Permutation.{Permutation}
use Rattle.file_plan.specs.InUse.{resolver_path}
use Rattle.file_plan.specs.Plan.{Planned, planned, refused, Plans}
use Rattle.transforms.specs.Config.{Settings}
use Rattle.transforms.specs.declared.config.ConfigFault.{ConfigFault}
use Rattle.tk_io.specs.FilesData.{FilesData}
use Rattle.refusals.specs.Planning.{plan_report}
use Rattle.refusals.specs.Refusal.{Report, report_text, file_text}
use Rattle.build_plain.specs.Out.{config_path, config_reports, settings_of}
use Rattle.all_breaks.specs.Telling.{Tells}
use Rattle.all_breaks.specs.Told.{ToldBreak, told_break, with_breaks}

-- a break that no permutation has
abbrev pub bare : FilesData → Report → ToldBreak
bare files r = told_break (report_text files r) []

-- those of each permutation, behind those before
abbrev pub TellsFrom : Settings → FilesData → List Permutation → List ToldBreak → List ToldBreak → Type 0
TellsFrom settings files [] before told = told ≡ before
TellsFrom settings files (p ∷ ps) before told =
    (reports : List Report) × Tells settings files p reports
    × TellsFrom settings files ps (with_breaks before p.name (map (report_text files) reports)) told

-- the plan: where it breaks a rule, that is told alone
abbrev pub PlanTold : Settings → FilesData → Planned → List ToldBreak → Type 0
PlanTold settings files (planned perms) told = TellsFrom settings files perms [] told
PlanTold settings files (refused broken) told = told ≡ bare files (plan_report broken) ∷ []

-- .. and where the configuration does, that
abbrev pub ToldUnder : FilesData → Result Settings ConfigFault → List ToldBreak → Type 0
ToldUnder files (Ok settings) told = (p : Planned) × Plans (finite.get files resolver_path) p × PlanTold settings files p told
ToldUnder files (Err broken) told = told ≡ map (bare files) (config_reports (length (file_text files config_path)) broken)

-- What is told of the files.
abbrev pub AllTold : FilesData → List ToldBreak → Type 0
AllTold files told = ToldUnder files (settings_of files) told
