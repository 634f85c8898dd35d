-- What decides what a source comes to.
use Rattle.std.specs.Prelude.{ℕ, List, option_map, unwrap_or}
use Rattle.std.specs.FinMap as finite
use Rattle.json_span.specs.Tree.{start_of}
use Rattle.tk_io.specs.FilesData.{FilesData}
use Rattle.token_tree.specs.Shape.{slice_of}
use Rattle.permutations.specs.Permutation as perm
use Rattle.permutations.specs.Permutation.{TokenSource}
use Rattle.source_trees.specs.Sources.{HomeAt}

-- A file, by its name and its text; a file that is not there, by the place where it is named; an object, by its file, its
-- slice and where that starts.
pub data SourceContent : Type 0 where
  a_file : List ℕ → List ℕ → SourceContent
  a_missing_file : List ℕ → ℕ → ℕ → SourceContent
  a_slice : List ℕ → List ℕ → ℕ → SourceContent

abbrev pub source_content : FilesData → HomeAt → TokenSource → SourceContent
source_content files home (perm.file name start end) =
    unwrap_or (option_map (a_file name) (finite.get files name)) (a_missing_file home.file start end)
source_content files home (perm.inline n) = a_slice home.file (slice_of home.text n) (start_of n)
