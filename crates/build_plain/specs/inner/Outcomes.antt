-- What is made of the permutations of a plan, one after another.
use Rattle.std.specs.Prelude.{List}
use Rattle.std.specs.FinMap as finite
use Rattle.tk_io.specs.FilesData.{FilesData}
use Rattle.permutations.specs.Permutation.{Permutation}
use Rattle.transforms.specs.Config.{Settings}
use Rattle.build_plain.specs.Out.{GivesFrom}

-- what the rest gives beside these outputs is what all give
abbrev pub Given : Settings → FilesData → List Permutation → List Permutation → FilesData → Type 0
Given settings files all rest now =
    (out : FilesData) → GivesFrom settings files rest now out → GivesFrom settings files all finite.empty out
