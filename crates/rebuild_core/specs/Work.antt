-- How much is done to come from what is kept to the outputs of files: how many files are read, trees are made flat, and
-- tokens are evaluated. Two builds are compared.
use Rattle.std.specs.Prelude.{◌≡◌, ◌≢◌, ◌⊎◌, ℕ, List, [], ◌∷◌, map, Option, Some, None, Result, Ok, Err}
use Rattle.std.specs.FinMap as finite
use Rattle.std.specs.List.{find}
use Rattle.std.specs.Str.{bytes_eq}
use Rattle.token_tree.specs.Tree.{Group}
use Rattle.group_inherit.specs.Flattening.{TokenAt}
use Rattle.group_inherit.specs.Merging.{merged_over, empty_group}
use Rattle.alias_ref.specs.Laws.{Flat}
use Rattle.permutations.specs.Permutation.{Permutation}
use Rattle.file_plan.specs.InUse.{resolver_path, resolver_in, files_in_use}
use Rattle.file_plan.specs.Plan.{Planned, planned, refused, Plans}
use Rattle.source_trees.specs.Contents.{SourceContent, source_content}
use Rattle.source_trees.specs.Merges.{IsMergeOf}
use Rattle.source_trees.specs.Sources.{BreakAt, SourcesFound}
use Rattle.source_trees.specs.declared.merge.Merge.{Merge}
use Rattle.source_trees.specs.declared.merge.Merge.TheVariants as merge
use Rattle.transforms.specs.Config.{Settings}
use Rattle.transforms.specs.declared.config.ConfigFault.{ConfigFault}
use Rattle.tk_io.specs.FilesData.{FilesData}
use Rattle.token_cells.specs.Cell.{TokenPath}
use Rattle.build_plain.specs.Breaks.{home_of}
use Rattle.build_plain.specs.Out.{settings_of}
use Rattle.build_plain.specs.Work.{Work, work, added}
use Rattle.tree_changes.specs.Reached.{IsReached}
use Rattle.rebuild_core.specs.Sums.{IsOneIf, IsOneUnless, IsSum}

-- Of files: which of them are in use. None is where the configuration is refused, and where the plan is refused none but
-- the resolver document.

abbrev pub UsedOfPlan : FilesData → Planned → FilesData → Type 0
UsedOfPlan files (planned perms) used = used ≡ files_in_use files perms
UsedOfPlan files (refused broken) used = used ≡ resolver_in files

abbrev pub UsedUnder : FilesData → Result Settings ConfigFault → FilesData → Type 0
UsedUnder files (Ok settings) used = (p : Planned) × Plans (finite.get files resolver_path) p × UsedOfPlan files p used
UsedUnder files (Err broken) used = used ≡ finite.empty

-- .. of what is kept
abbrev pub IsUsed : Option FilesData → FilesData → Type 0
IsUsed None used = used ≡ finite.empty
IsUsed (Some files) used = UsedUnder files (settings_of files) used

-- Of a permutation: its sources, and what they come to.

-- a file by its name and its text, an object of the resolver document by its slice and where that starts
abbrev pub contents_of : FilesData → Permutation → List SourceContent
contents_of files p = map (source_content files (home_of files)) p.sources

-- what the sources come to where none of them has a break
abbrev pub MergesTo : List BreakAt → List Group → Option Merge → Type 0
MergesTo [] trees None = ⊥
MergesTo [] trees (Some m) = IsMergeOf (merged_over empty_group trees) m
MergesTo (b ∷ bs) trees m = m ≡ None

abbrev pub IsMerge : FilesData → Permutation → Option Merge → Type 0
IsMerge files p m =
    (bs : List BreakAt) × (trees : List Group) × SourcesFound files (home_of files) p.sources bs trees × MergesTo bs trees m

-- What is kept of a permutation: the configuration, its sources, and its flat tree, where it has one.
pub record KeptPerm : Type 0 where
  pub settings : Settings
  pub sources : List SourceContent
  pub tree : Option Flat

abbrev pub flat_in : Option Merge → Option Flat
flat_in (Some (merge.Flat flat)) = Some flat
flat_in (Some (merge.Broken fault)) = None
flat_in None = None

abbrev pub kept_perm : Settings → List SourceContent → Option Merge → KeptPerm
kept_perm settings sources m = record { settings = settings; sources = sources; tree = flat_in m }

-- .. of the permutation of a name, where there is one

abbrev pub named : List ℕ → List Permutation → Option Permutation
named name perms = find (λ p. bytes_eq p.name name) perms

abbrev pub KeptOf : Settings → FilesData → Option Permutation → Option KeptPerm → Type 0
KeptOf settings files None kept = kept ≡ None
KeptOf settings files (Some p) kept =
    (m : Option Merge) × IsMerge files p m × (kept ≡ Some (kept_perm settings (contents_of files p) m))

abbrev pub KeptOfPlan : Settings → FilesData → List ℕ → Planned → Option KeptPerm → Type 0
KeptOfPlan settings files name (planned perms) kept = KeptOf settings files (named name perms) kept
KeptOfPlan settings files name (refused broken) kept = kept ≡ None

abbrev pub KeptUnder : FilesData → List ℕ → Result Settings ConfigFault → Option KeptPerm → Type 0
KeptUnder files name (Ok settings) kept =
    (p : Planned) × Plans (finite.get files resolver_path) p × KeptOfPlan settings files name p kept
KeptUnder files name (Err broken) kept = kept ≡ None

-- of that name in what is kept
abbrev pub IsKept : Option FilesData → List ℕ → Option KeptPerm → Type 0
IsKept None name kept = kept ≡ None
IsKept (Some files) name kept = KeptUnder files name (settings_of files) kept

-- What is done for a permutation.

-- it has the sources that are kept
abbrev pub HasSources : Option KeptPerm → List SourceContent → Type 0
HasSources None sources = ⊥
HasSources (Some kept) sources = kept.sources ≡ sources

-- a path is reached since the kept tree; each is where there is none
abbrev pub IsReachedIn : Option Flat → Flat → TokenPath → Type 0
IsReachedIn None flat path = Unit {0}
IsReachedIn (Some old) flat path = IsReached old flat path

-- .. and where the configuration is another
abbrev pub IsReachedSince : Option KeptPerm → Settings → Flat → TokenPath → Type 0
IsReachedSince None settings flat path = Unit {0}
IsReachedSince (Some kept) settings flat path = (kept.settings ≢ settings) ⊎ IsReachedIn kept.tree flat path

-- sources other than those kept are merged and made flat, and each token that is reached is evaluated
abbrev pub MergeWork : Option KeptPerm → Settings → List SourceContent → Merge → Work → Type 0
MergeWork kept settings sources (merge.Broken fault) w =
    (merges : ℕ) × IsOneUnless (HasSources kept sources) merges × (w ≡ work 0 merges 0)
MergeWork kept settings sources (merge.Flat flat) w =
    (merges evals : ℕ) × IsOneUnless (HasSources kept sources) merges
    × IsSum (λ (token : TokenAt). IsOneIf (IsReachedSince kept settings flat token.0)) (finite.entries flat) evals
    × (w ≡ work 0 merges evals)

-- nothing is merged where a source has a break
abbrev pub SourcesWork : Option KeptPerm → Settings → List SourceContent → Option Merge → Work → Type 0
SourcesWork kept settings sources None w = w ≡ work 0 0 0
SourcesWork kept settings sources (Some m) w = MergeWork kept settings sources m w

abbrev pub PermWorkFrom : Option FilesData → Settings → FilesData → Permutation → Work → Type 0
PermWorkFrom before settings files p w =
    (kept : Option KeptPerm) × (m : Option Merge) × IsKept before p.name kept × IsMerge files p m
    × SourcesWork kept settings (contents_of files p) m w

-- the sum of these
abbrev pub PermsWorkFrom : Option FilesData → Settings → FilesData → List Permutation → Work → Type 0
PermsWorkFrom before settings files [] w = w ≡ work 0 0 0
PermsWorkFrom before settings files (p ∷ ps) w =
    (v vs : Work) × PermWorkFrom before settings files p v × PermsWorkFrom before settings files ps vs × (w ≡ added v vs)

-- What is done for the plan: each file in use is read, unless it was in use with an equal text.

abbrev pub ReadBeside : FilesData → FilesData → ℕ → Type 0
ReadBeside old used n =
    IsSum (λ (file : List ℕ × List ℕ). IsOneUnless (finite.get old file.0 ≡ Some file.1)) (finite.entries used) n

abbrev pub AreRead : Option FilesData → FilesData → ℕ → Type 0
AreRead before used n = (old : FilesData) × IsUsed before old × ReadBeside old used n

abbrev pub PlanWorkFrom : Option FilesData → Settings → FilesData → Planned → Work → Type 0
PlanWorkFrom before settings files (planned perms) w =
    (n : ℕ) × (v : Work) × AreRead before (files_in_use files perms) n × PermsWorkFrom before settings files perms v
    × (w ≡ added (work n 0 0) v)
PlanWorkFrom before settings files (refused broken) w =
    (n : ℕ) × AreRead before (resolver_in files) n × (w ≡ work n 0 0)

abbrev pub WorkUnderFrom : Option FilesData → FilesData → Result Settings ConfigFault → Work → Type 0
WorkUnderFrom before files (Ok settings) w =
    (p : Planned) × Plans (finite.get files resolver_path) p × PlanWorkFrom before settings files p w
WorkUnderFrom before files (Err broken) w = w ≡ work 0 0 0

-- The work of coming from what is kept, none or files, to the outputs of the files.
abbrev pub IsWorkFrom : Option FilesData → FilesData → Work → Type 0
IsWorkFrom before files w = WorkUnderFrom before files (settings_of files) w
