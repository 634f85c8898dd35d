-- What is told of the permutations of a plan, one after another.
use Rattle.std.specs.Prelude.{◌≡◌, ℕ, List, [], map}
use Rattle.permutations.specs.Permutation.{Permutation, TokenSource}
use Rattle.source_trees.specs.Sources.{BreakAt}
use Rattle.transforms.specs.Config.{Settings}
use Rattle.tk_io.specs.FilesData.{FilesData}
use Rattle.refusals.specs.Refusal.{Report, report_text}
use Rattle.build_plain.specs.Breaks.{home_of, source_report}
use Rattle.all_breaks.specs.All.{TellsFrom}
use Rattle.all_breaks.specs.Telling.{FirstsFound, Tells}
use Rattle.all_breaks.specs.Told.{ToldBreak, with_breaks}

-- what the rest tells behind these is what all tell
abbrev pub Given : Settings → FilesData → List Permutation → List Permutation → List ToldBreak → Type 0
Given settings files all rest now =
    (told : List ToldBreak) → TellsFrom settings files rest now told → TellsFrom settings files all [] told

-- what is printed of a break of a source
abbrev pub first_text : FilesData → BreakAt → List ℕ
first_text files b = report_text files (source_report b)

-- the texts are those of the first breaks of the sources
abbrev pub AreFirstTexts : FilesData → List TokenSource → List (List ℕ) → Type 0
AreFirstTexts files sources texts =
    (firsts : List BreakAt) × FirstsFound files (home_of files) sources firsts × (texts ≡ map (first_text files) firsts)

-- the texts are those that are told of the permutation
abbrev pub AreTextsOf : Settings → FilesData → Permutation → List (List ℕ) → Type 0
AreTextsOf settings files p texts =
    (reports : List Report) × Tells settings files p reports × (texts ≡ map (report_text files) reports)

-- .. and were added
abbrev pub AddsPerm : Settings → FilesData → Permutation → List ToldBreak → List ToldBreak → Type 0
AddsPerm settings files p before after = (texts : List (List ℕ)) × AreTextsOf settings files p texts × (after ≡ with_breaks before p.name texts)
