-- Which files are read for permutations: the resolver document, and the files that sources name.
use Rattle.std.specs.Prelude.{◌≡◌, ℕ, List, [], ◌∷◌, codes, Option, Some, None}
use Rattle.std.specs.FinMap as finite
use Rattle.std.specs.List.{flat_map}
use Rattle.tk_io.specs.FilesData.{FilesData}
use Rattle.permutations.specs.Permutation.{TokenSource, file, inline, Permutation}

-- the file that says which sources make which permutation
abbrev pub resolver_path : List ℕ
resolver_path = codes "resolver.json"

-- the names of the files that sources come from, in order

abbrev pub source_names : TokenSource → List (List ℕ)
source_names (file name start end) = name ∷ []
source_names (inline n) = []

abbrev pub names_in : List TokenSource → List (List ℕ)
names_in sources = flat_map source_names sources

abbrev pub file_names : List Permutation → List (List ℕ)
file_names perms = flat_map (λ p. names_in p.sources) perms

-- the file of that name beside those seen, where it is there

abbrev pub beside : FilesData → List ℕ → Option (List ℕ) → FilesData
beside seen name None = seen
beside seen name (Some text) = finite.insert seen name text

abbrev pub with_named : FilesData → FilesData → List ℕ → FilesData
with_named files seen name = beside seen name (finite.get files name)

-- the files of these names beside those seen, where they are there
abbrev pub in_use_by : FilesData → FilesData → List (List ℕ) → FilesData
in_use_by files seen [] = seen
in_use_by files seen (name ∷ names) = in_use_by files (with_named files seen name) names

-- the resolver document alone, where it is there
abbrev pub resolver_in : FilesData → FilesData
resolver_in files = with_named files finite.empty resolver_path

-- the files that are read for permutations
abbrev pub files_in_use : FilesData → List Permutation → FilesData
files_in_use files perms = in_use_by files (resolver_in files) (file_names perms)

-- each of some files is one of the files
abbrev pub AreAmong : FilesData → FilesData → Type 0
AreAmong some files = (path text : List ℕ) → finite.get some path ≡ Some text → finite.get files path ≡ Some text
