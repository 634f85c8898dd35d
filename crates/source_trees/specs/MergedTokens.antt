-- What holds of the tokens of merged trees.
use Rattle.std.specs.Prelude.{◌≡◌, ◌⊎◌, ◌≤◌, ℕ, List, [], Some, All, length, slice_range}
use Rattle.std.specs.FinMap as finite
use Rattle.std.specs.Str.{IsUtf8}
use Rattle.tk_io.specs.FilesData.{FilesData}
use Rattle.tk_io.specs.Order.{names_cmp}
use Rattle.name_path.specs.Names.{IsTokenPath}
use Rattle.ring.specs.Lists.{In}
use Rattle.token_tree.specs.Promise.{IsDefinition}
use Rattle.token_tree.specs.Tree.{Definition, Group}
use Rattle.token_tree.specs.declared.mark.Mark.TheVariants.{Because}
use Rattle.permutations.specs.Permutation.{TokenSource}
use Rattle.group_inherit.specs.Answer.{IsFlat}
use Rattle.group_inherit.specs.Flattening.{Flattened, TokenAt}
use Rattle.group_inherit.specs.Merging.{merged}
use Rattle.source_trees.specs.Merging.{AllInlineStand}
use Rattle.source_trees.specs.Sources.{HomeAt, SourcesFound}
use Rattle.source_trees.specs.Texts.{IsText, AreTexts}

-- the flat tree of the merged sources, which have no break; their objects are values of the home's text
pub record IsFlatOf (files : FilesData) (home : HomeAt) (sources : List TokenSource) (flat : finite.FinMap names_cmp Flattened) : Type 0 where
  pub trees : List Group
  pub unbroken : SourcesFound files home sources [] trees
  pub inline : AllInlineStand home.text sources
  pub is_flat : IsFlat (merged trees) flat

-- the text of a file that is there, or of the one that names the sources
abbrev pub IsTextOfFile : FilesData → HomeAt → List ℕ → List ℕ → Type 0
IsTextOfFile files home file text = (finite.get files file ≡ Some text) ⊎ ((file ≡ home.file) × (text ≡ home.text))

-- A definition stands in its file: its source is the slice of the file's text between its offsets.
pub record StandsInFile (files : FilesData) (home : HomeAt) (def : Definition) : Type 0 where
  pub text : List ℕ
  pub of_file : IsTextOfFile files home def.file text
  pub within : def.end ≤ length text
  pub slice : def.source ≡ slice_range text def.start def.end

-- What is known of a token by its texts: the names of its path, the reason of the mark of its groups, and its source are
-- texts, too.
pub record IsOfTexts (path : List (List ℕ)) (f : Flattened) : Type 0 where
  pub names : All IsUtf8 path
  pub mark : (reason : List ℕ) → f.group_mark ≡ Some (Because reason) → IsUtf8 reason
  pub source : IsText f.def.source

-- Of the flat tree of sources without a break: each path is one that a token can have,
abbrev pub PathsAreOfTokens : Type 0
PathsAreOfTokens = (files : FilesData) (home : HomeAt) (sources : List TokenSource) (flat : finite.FinMap names_cmp Flattened) → IsFlatOf files home sources flat
    → (token : TokenAt) → In token (finite.entries flat) → IsTokenPath token.0

-- .. each definition is what its source shows,
abbrev pub TokensAreDefinitions : Type 0
TokensAreDefinitions = (files : FilesData) (home : HomeAt) (sources : List TokenSource) (flat : finite.FinMap names_cmp Flattened) → IsFlatOf files home sources flat
    → (path : List (List ℕ)) (f : Flattened) → finite.get flat path ≡ Some f → IsDefinition f.def

-- .. it stands in its file,
abbrev pub TokensStandInFiles : Type 0
TokensStandInFiles = (files : FilesData) (home : HomeAt) (sources : List TokenSource) (flat : finite.FinMap names_cmp Flattened) → IsFlatOf files home sources flat
    → (path : List (List ℕ)) (f : Flattened) → finite.get flat path ≡ Some f → StandsInFile files home f.def

-- .. and what is said of it is of texts, where the files and the file that names the sources are texts.
abbrev pub TokensAreOfTexts : Type 0
TokensAreOfTexts = (files : FilesData) (home : HomeAt) (sources : List TokenSource)
    (flat : finite.FinMap names_cmp Flattened) → IsFlatOf files home sources flat → AreTexts files → IsText home.text
    → (path : List (List ℕ)) (f : Flattened) → finite.get flat path ≡ Some f → IsOfTexts path f
