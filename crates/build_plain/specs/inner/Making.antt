-- What is known of the sources of permutations.
use Rattle.std.specs.Prelude.{List, ◌∷◌}
use Rattle.std.specs.FinMap as finite
use Rattle.std.specs.List.{AllByRecursion}
use Rattle.tk_io.specs.FilesData.{FilesData}
use Rattle.tk_io.specs.Order.{text_cmp}
use Rattle.token_tree.specs.Tree.{Group}
use Rattle.permutations.specs.Permutation.{Permutation, TokenSource}
use Rattle.source_trees.specs.Merging.{AllInlineStand, AreKnown}
use Rattle.source_trees.specs.Sources.{BreakAt, SourcesFound}
use Rattle.source_trees.specs.declared.shape.FileShape.{FileShape}
use Rattle.build_plain.specs.Breaks.{home_of}

-- objects among the sources of each permutation stand in the file that names them
abbrev pub AllStand : FilesData → List Permutation → Type 0
AllStand files perms = AllByRecursion (λ p. AllInlineStand (home_of files).text p.sources) perms

-- the shapes of the files that they name are known
abbrev pub AllKnown : FilesData → finite.FinMap text_cmp FileShape → List Permutation → Type 0
AllKnown files shapes perms = AllByRecursion (λ p. AreKnown files shapes p.sources) perms

-- one of the sources breaks a rule
abbrev pub SourceHasBreak : FilesData → List TokenSource → Type 0
SourceHasBreak files sources =
    (b : BreakAt) × (bs : List BreakAt) × (trees : List Group)
    × SourcesFound files (home_of files) sources (b ∷ bs) trees
