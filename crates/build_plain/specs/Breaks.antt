-- All breaks of a permutation, in the order of the rules: of its sources, of their merged tree, of its tokens in path
-- order, and of names that two tokens have.
use Rattle.std.specs.Prelude.{◌≡◌, ◌≢◌, ◌⊎◌, ℕ, List, [], ◌∷◌, map, codes, Option, Some, None}
use Rattle.std.specs.FinMap as finite
use Rattle.std.specs.List.{zip}
use Rattle.token_tree.specs.Tree.{Group}
use Rattle.group_inherit.specs.Answer.{IsSound, IsFlat, IsTreeBreak}
use Rattle.group_inherit.specs.Merging.{merged_over, empty_group}
use Rattle.group_inherit.specs.declared.fault.TreeFault.{TreeFault}
use Rattle.group_inherit.specs.declared.fault.TreeFault.TheVariants as fault
use Rattle.alias_ref.specs.Laws.{Flat}
use Rattle.permutations.specs.Permutation as perm
use Rattle.permutations.specs.Permutation.{TokenSource, Permutation}
use Rattle.file_plan.specs.InUse.{resolver_path}
use Rattle.source_trees.specs.Sources.{HomeAt, BreakAt, SourcesFound}
use Rattle.source_trees.specs.declared.source.SourceFault.{SourceFault}
use Rattle.source_trees.specs.declared.source.SourceFault.TheVariants.{Missing, Syntax, Duplicate, Depth, Shape}
use Rattle.transforms.specs.Config.{Settings}
use Rattle.tk_io.specs.FilesData.{FilesData}
use Rattle.refusals.specs.Refusal.{Report, report, file_text, lost_group, ring_group, counted}
use Rattle.refusals.specs.declared.rule.Rule.{Rule}
use Rattle.refusals.specs.declared.rule.Rule.TheVariants as rule
use Rattle.token_cells.specs.Breaks.{token_reports}
use Rattle.token_cells.specs.Cell.{AreCells}
use Rattle.token_cells.specs.TokenCell.{TokenCell}

-- Of sources.

-- the file of all tokens, where there is no resolver document
abbrev pub tokens_path : List ℕ
tokens_path = codes "tokens.json"

-- The file that names the sources: the resolver document, or without one the token file itself, which is told at its
-- own beginning where it is missing.
abbrev pub home_by : FilesData → Option (List ℕ) → HomeAt
home_by files None = record { file = tokens_path; text = file_text files tokens_path }
home_by files (Some document) = record { file = resolver_path; text = document }

abbrev pub home_of : FilesData → HomeAt
home_of files = home_by files (finite.get files resolver_path)

abbrev pub source_rule : SourceFault → Rule
source_rule Missing = rule.FileMissing
source_rule Syntax = rule.JsonSyntax
source_rule Duplicate = rule.JsonDuplicate
source_rule Depth = rule.JsonDepth
source_rule (Shape broken) = rule.Shape broken

abbrev pub source_report : BreakAt → Report
source_report b = report (source_rule b.fault) b.file b.start b.end []

-- Of a merged tree.

-- the file of the first source; an object in the resolver document stands in that
abbrev pub first_file : HomeAt → List TokenSource → List ℕ
first_file home [] = home.file
first_file home (perm.file name start end ∷ others) = name
first_file home (perm.inline n ∷ others) = home.file

-- counts and heights are those of the whole tree, and are told at its first file
abbrev pub tree_reports : List ℕ → TreeFault → List Report
tree_reports first (fault.ExtendsTarget group span) = report rule.ExtendsTarget span.file span.start span.end (lost_group group ∷ []) ∷ []
tree_reports first (fault.ExtendsCycle ring span) = report rule.ExtendsCycle span.file span.start span.end (map ring_group ring) ∷ []
tree_reports first (fault.TooManyTokens count) = report rule.ExtendsCount first 0 0 (counted count ∷ []) ∷ []
tree_reports first (fault.TooHigh height) = report rule.ExtendsHeight first 0 0 (counted height ∷ []) ∷ []
tree_reports first fault.NoMemory = []

-- Of all: what is found, which is the cells of the tokens, none where there is no flat tree, and the breaks.

abbrev pub Finding : Type 1
Finding = List TokenCell → List Report → Type 0

abbrev pub InTokens : Settings → Flat → Finding
InTokens settings flat cells breaks =
    AreCells flat settings (finite.entries flat) cells × (breaks ≡ token_reports flat (zip (finite.entries flat) cells))

abbrev pub InTree : Settings → List ℕ → Group → Finding
InTree settings first tree cells breaks =
    ((broken : TreeFault) × (broken ≢ fault.NoMemory) × IsTreeBreak tree broken × (cells ≡ []) × (breaks ≡ tree_reports first broken))
    ⊎ ((flat : Flat) × IsSound tree × IsFlat tree flat × InTokens settings flat cells breaks)

-- the trees are merged where no source has a break
abbrev pub InTrees : Settings → List ℕ → List BreakAt → List Group → Finding
InTrees settings first [] trees cells breaks = InTree settings first (merged_over empty_group trees) cells breaks
InTrees settings first (b ∷ bs) trees cells breaks = (cells ≡ []) × (breaks ≡ map source_report (b ∷ bs))

abbrev pub InSources : Settings → FilesData → List TokenSource → Finding
InSources settings files sources cells breaks =
    (bs : List BreakAt) × (trees : List Group) × SourcesFound files (home_of files) sources bs trees
    × InTrees settings (first_file (home_of files) sources) bs trees cells breaks

-- What is found in the files of a permutation under these settings.
abbrev pub Finds : Settings → FilesData → Permutation → Finding
Finds settings files p = InSources settings files p.sources
