-- How much is done for the outputs: how many files are read, trees are made flat, and tokens are evaluated.
use Rattle.std.specs.Prelude.{◌≡◌, ◌≢◌, ◌⊎◌, ◌+◌, ◌≤◌, ℕ, List, [], ◌∷◌, Result, Ok, Err, length}
use Rattle.std.specs.FinMap as finite
use Rattle.token_tree.specs.Tree.{Group}
use Rattle.group_inherit.specs.Answer.{IsSound, IsFlat, IsTreeBreak}
use Rattle.group_inherit.specs.Merging.{merged_over, empty_group}
use Rattle.group_inherit.specs.declared.fault.TreeFault.{TreeFault}
use Rattle.group_inherit.specs.declared.fault.TreeFault.TheVariants as fault
use Rattle.alias_ref.specs.Laws.{Flat}
use Rattle.permutations.specs.Permutation.{Permutation}
use Rattle.file_plan.specs.InUse.{resolver_path, files_in_use}
use Rattle.file_plan.specs.Plan.{Planned, planned, refused, Plans, text_count}
use Rattle.source_trees.specs.Sources.{BreakAt, SourcesFound}
use Rattle.transforms.specs.Config.{Settings}
use Rattle.transforms.specs.declared.config.ConfigFault.{ConfigFault}
use Rattle.tk_io.specs.FilesData.{FilesData}
use Rattle.build_plain.specs.Breaks.{home_of}
use Rattle.build_plain.specs.Out.{settings_of}

-- so many files are read, trees made flat, and tokens evaluated
pub record Work : Type 0 where
  pub parses : ℕ
  pub merges : ℕ
  pub evals : ℕ

abbrev pub work : ℕ → ℕ → ℕ → Work
work parses merges evals = record { parses = parses; merges = merges; evals = evals }

abbrev pub added : Work → Work → Work
added v w = work (v.parses + w.parses) (v.merges + w.merges) (v.evals + w.evals)

-- Of a permutation.

-- each token of a flat tree is evaluated, also after a break
abbrev pub TreeWork : Group → Work → Type 0
TreeWork tree w =
    ((broken : TreeFault) × (broken ≢ fault.NoMemory) × IsTreeBreak tree broken × (w ≡ work 0 1 0))
    ⊎ ((flat : Flat) × IsSound tree × IsFlat tree flat × (w ≡ work 0 1 (length (finite.entries flat))))

-- nothing is merged where a source has a break
abbrev pub TreesWork : List BreakAt → List Group → Work → Type 0
TreesWork [] trees w = TreeWork (merged_over empty_group trees) w
TreesWork (b ∷ bs) trees w = w ≡ work 0 0 0

abbrev pub PermWork : FilesData → Permutation → Work → Type 0
PermWork files p w =
    (bs : List BreakAt) × (trees : List Group) × SourcesFound files (home_of files) p.sources bs trees × TreesWork bs trees w

-- the sum of these
abbrev pub PermsWork : FilesData → List Permutation → Work → Type 0
PermsWork files [] w = w ≡ work 0 0 0
PermsWork files (p ∷ ps) w = (v vs : Work) × PermWork files p v × PermsWork files ps vs × (w ≡ added v vs)

-- Of the plan: each file in use is read once, and of a plan that breaks a rule the resolver document alone.
abbrev pub PlanWork : FilesData → Planned → Work → Type 0
PlanWork files (planned perms) w =
    (v : Work) × PermsWork files perms v × (w ≡ added (work (finite.len (files_in_use files perms)) 0 0) v)
PlanWork files (refused broken) w = w ≡ work (text_count (finite.get files resolver_path)) 0 0

abbrev pub WorkUnder : FilesData → Result Settings ConfigFault → Work → Type 0
WorkUnder files (Ok settings) w = (p : Planned) × Plans (finite.get files resolver_path) p × PlanWork files p w
WorkUnder files (Err broken) w = w ≡ work 0 0 0

-- The work for the files.
abbrev pub IsWork : FilesData → Work → Type 0
IsWork files w = WorkUnder files (settings_of files) w

-- Where counters stand before and after: they rise by work of which this holds, or by no more than that.

abbrev pub RiseBy : (Work → Type 0) → Work → Work → Type 0
RiseBy claim before after = (w : Work) × claim w × (after ≡ added before w)

pub record IsAtMost (v w : Work) : Type 0 where
  pub parses : v.parses ≤ w.parses
  pub merges : v.merges ≤ w.merges
  pub evals : v.evals ≤ w.evals

abbrev pub RiseWithin : (Work → Type 0) → Work → Work → Type 0
RiseWithin claim before after = (w : Work) → claim w → IsAtMost after (added before w)
