-- What is told of a permutation: of each source that has a break the first, or else all that is found in its tree.
use Rattle.std.specs.Prelude.{◌≡◌, List, [], ◌∷◌, ◌++◌, map, take}
use Rattle.permutations.specs.Permutation.{TokenSource, Permutation}
use Rattle.source_trees.specs.Sources.{HomeAt, BreakAt, SourceFound}
use Rattle.token_tree.specs.Tree.{Group}
use Rattle.transforms.specs.Config.{Settings}
use Rattle.tk_io.specs.FilesData.{FilesData}
use Rattle.refusals.specs.Refusal.{Report}
use Rattle.token_cells.specs.TokenCell.{TokenCell}
use Rattle.build_plain.specs.Breaks.{home_of, source_report, Finds}

-- the first break of each source that has one
abbrev pub FirstsFound : FilesData → HomeAt → List TokenSource → List BreakAt → Type 0
FirstsFound files home [] firsts = firsts ≡ []
FirstsFound files home (s ∷ ss) firsts =
    (b bs : List BreakAt) × (t : List Group) × SourceFound files home s b t × FirstsFound files home ss bs × (firsts ≡ take 1 b ++ bs)

-- .. these, or where there is none, all that is found
abbrev pub TellsBy : Settings → FilesData → Permutation → List BreakAt → List Report → Type 0
TellsBy settings files p [] reports = (cells : List TokenCell) × Finds settings files p cells reports
TellsBy settings files p (b ∷ bs) reports = reports ≡ map source_report (b ∷ bs)

abbrev pub Tells : Settings → FilesData → Permutation → List Report → Type 0
Tells settings files p reports =
    (firsts : List BreakAt) × FirstsFound files (home_of files) p.sources firsts × TellsBy settings files p firsts reports
