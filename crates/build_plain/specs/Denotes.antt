-- What the outputs of files hold: for each permutation either four files that denote the values of its tokens, or the first rule that it breaks; and no other.
use Rattle.std.specs.Prelude.{◌≡◌, ◌⊎◌, ℕ, List, [], ◌∷◌, ◌++◌, codes, Some, Ok}
use Rattle.std.specs.FinMap as finite
use Rattle.ring.specs.Lists.{In}
use Rattle.tk_io.specs.FilesData.{FilesData}
use Rattle.permutations.specs.Permutation.{Permutation}
use Rattle.file_plan.specs.InUse.{resolver_path}
use Rattle.file_plan.specs.Plan.{planned, Plans}
use Rattle.source_trees.specs.MergedTokens.{IsFlatOf}
use Rattle.alias_ref.specs.Laws.{Flat}
use Rattle.transforms.specs.Config.{Settings}
use Rattle.refusals.specs.Refusal.{Report, report_text}
use Rattle.token_cells.specs.Denotes.{SheetDenotes}
use Rattle.token_cells.specs.OtherSheets.{AndroidDenotes, SwiftDenotes, JsonDenotes}
use Rattle.token_cells.specs.TokenCell.{TokenCell}
use Rattle.build_plain.specs.Breaks.{home_of, Finds}
use Rattle.build_plain.specs.Out.{Builds, settings_of}

-- the outputs have a file at this path, of whose bytes this holds
pub record HasFile (out : FilesData) (path : List ℕ) (holds : List ℕ → Type 0) : Type 0 where
  pub bytes : List ℕ
  pub there : finite.get out path ≡ Some bytes
  pub so : holds bytes

-- No source of the permutation has a break, nor has its flat tree: its four files are there, and each denotes the values of the tokens of that tree.
pub record IsAccepted (settings : Settings) (files : FilesData) (p : Permutation) (out : FilesData) : Type 0 where
  pub cells : List TokenCell
  pub unbroken : Finds settings files p cells []
  pub flat : Flat
  pub is_flat : IsFlatOf files (home_of files) p.sources flat
  pub css : HasFile out (p.name ++ codes "/tokens.css") (SheetDenotes flat settings)
  pub android : HasFile out (p.name ++ codes "/tokens.xml") (AndroidDenotes flat settings)
  pub swift : HasFile out (p.name ++ codes "/Tokens.swift") (SwiftDenotes flat settings)
  pub json : HasFile out (p.name ++ codes "/tokens.json") (JsonDenotes flat settings)

-- The permutation has a break: the first one is told.
pub record IsRefused (settings : Settings) (files : FilesData) (p : Permutation) (out : FilesData) : Type 0 where
  pub cells : List TokenCell
  pub first : Report
  pub others : List Report
  pub broken : Finds settings files p cells (first ∷ others)
  pub told : finite.get out (p.name ++ codes "/REFUSED") ≡ Some (report_text files first)

-- files under settings that their configuration says, whose plan has these permutations, and their outputs
pub record AreOutputsOf (files : FilesData) (settings : Settings) (perms : List Permutation) (out : FilesData) : Type 0 where
  pub configured : settings_of files ≡ Ok settings
  pub plan : Plans (finite.get files resolver_path) (planned perms)
  pub outputs : Builds files out

-- Each permutation of the plan is accepted or refused.
abbrev pub EachIsAnswered : Type 0
EachIsAnswered = (files : FilesData) (settings : Settings) (perms : List Permutation) (out : FilesData) → AreOutputsOf files settings perms out
    → (p : Permutation) → In p perms → IsAccepted settings files p out ⊎ IsRefused settings files p out

-- .. and not both: it is refused exactly where a rule is broken.
abbrev pub NeverBoth : Type 0
NeverBoth = (settings : Settings) (files : FilesData) (p : Permutation) (out : FilesData) → IsAccepted settings files p out → IsRefused settings files p out → ⊥

-- the names of the files of a permutation that is accepted, and of one that is refused
abbrev pub accepted_names : List (List ℕ)
accepted_names = codes "/Tokens.swift" ∷ codes "/tokens.css" ∷ codes "/tokens.json" ∷ codes "/tokens.xml" ∷ []

abbrev pub refused_names : List (List ℕ)
refused_names = codes "/REFUSED" ∷ []

-- the path is that of a file of the permutation, by whether it has a break
abbrev pub names_by : List Report → List (List ℕ)
names_by [] = accepted_names
names_by (r ∷ rs) = refused_names

pub record IsOwnPath (settings : Settings) (files : FilesData) (p : Permutation) (path : List ℕ) : Type 0 where
  pub cells : List TokenCell
  pub breaks : List Report
  pub found : Finds settings files p cells breaks
  pub ending : List ℕ
  pub among : In ending (names_by breaks)
  pub joined : path ≡ p.name ++ ending

-- a permutation whose own path this is
pub record IsOfOne (settings : Settings) (files : FilesData) (perms : List Permutation) (path : List ℕ) : Type 0 where
  pub perm : Permutation
  pub among : In perm perms
  pub own : IsOwnPath settings files perm path

-- At each path of the outputs stands a file of a permutation.
abbrev pub NoOtherStands : Type 0
NoOtherStands = (files : FilesData) (settings : Settings) (perms : List Permutation) (out : FilesData) → AreOutputsOf files settings perms out
    → (path bytes : List ℕ) → finite.get out path ≡ Some bytes → IsOfOne settings files perms path
