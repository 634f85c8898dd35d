-- What files say of the name of a permutation: the flat tree of the permutation that has it, or why there is none.
use Rattle.std.specs.Prelude.{◌≡◌, ◌≢◌, ℕ, List, ◌∷◌, [], map, Result, Ok, Err}
use Rattle.std.specs.FinMap as finite
use Rattle.ring.specs.Lists.{In}
use Rattle.tk_io.specs.FilesData.{FilesData}
use Rattle.token_tree.specs.Tree.{Group}
use Rattle.group_inherit.specs.Answer.{IsSound, IsTreeBreak}
use Rattle.group_inherit.specs.Merging.{merged}
use Rattle.group_inherit.specs.declared.fault.TreeFault.{TreeFault}
use Rattle.group_inherit.specs.declared.fault.TreeFault.TheVariants as fault
use Rattle.alias_ref.specs.Laws.{Flat}
use Rattle.permutations.specs.Permutation.{Permutation}
use Rattle.file_plan.specs.InUse.{resolver_path}
use Rattle.file_plan.specs.Plan.{Planned, planned, refused, Plans}
use Rattle.source_trees.specs.MergedTokens.{IsFlatOf}
use Rattle.source_trees.specs.Sources.{BreakAt, SourcesFound}
use Rattle.transforms.specs.Config.{Settings}
use Rattle.transforms.specs.declared.config.ConfigFault.{ConfigFault}
use Rattle.build_plain.specs.Breaks.{home_of}
use Rattle.build_plain.specs.Out.{settings_of}
use Rattle.build_plain.specs.declared.one_tree.FlatStop.{FlatStop}
use Rattle.build_plain.specs.declared.one_tree.FlatStop.TheVariants as stop

-- one of the permutations has the name
pub record IsNamed (perms : List Permutation) (name : List ℕ) (p : Permutation) : Type 0 where
  pub among : In p perms
  pub same : p.name ≡ name

-- neither a source of the permutation breaks a rule nor the tree that is merged of them, whose flat tree this is
pub record HasTree (files : FilesData) (p : Permutation) (flat : Flat) : Type 0 where
  pub is_flat : IsFlatOf files (home_of files) p.sources flat
  pub sound : IsSound (merged is_flat.trees)

-- one of the sources breaks a rule, or the tree that is merged of them
pub data LacksTree (files : FilesData) (p : Permutation) : Type 0 where
  by_source : (b : BreakAt) (bs : List BreakAt) (trees : List Group) → SourcesFound files (home_of files) p.sources (b ∷ bs) trees → LacksTree files p
  by_tree : (broken : TreeFault) (trees : List Group) → SourcesFound files (home_of files) p.sources [] trees → broken ≢ fault.NoMemory → IsTreeBreak (merged trees) broken
      → LacksTree files p

-- what is said of a name
pub data OfName : Type 0 where
  has_tree : Flat → OfName
  no_plan : OfName
  no_name : OfName
  no_tree : OfName

-- .. by the permutations of a plan
abbrev pub ComesToIn : FilesData → List Permutation → List ℕ → OfName → Type 0
ComesToIn files perms name (has_tree flat) = (p : Permutation) × IsNamed perms name p × HasTree files p flat
ComesToIn files perms name no_plan = ⊥
ComesToIn files perms name no_name = In name (map (λ (p : Permutation). p.name) perms) → ⊥
ComesToIn files perms name no_tree = (p : Permutation) × IsNamed perms name p × LacksTree files p

-- .. by the plan, which may break a rule
abbrev pub ComesToBy : FilesData → Planned → List ℕ → OfName → Type 0
ComesToBy files (planned perms) name what = ComesToIn files perms name what
ComesToBy files (refused broken) name what = what ≡ no_plan

-- .. by the configuration, which may break one before
abbrev pub ComesToUnder : FilesData → Result Settings ConfigFault → List ℕ → OfName → Type 0
ComesToUnder files (Ok settings) name what = (p : Planned) × Plans (finite.get files resolver_path) p × ComesToBy files p name what
ComesToUnder files (Err broken) name what = what ≡ no_plan

-- What the files say of the name.
abbrev pub ComesTo : FilesData → List ℕ → OfName → Type 0
ComesTo files name what = ComesToUnder files (settings_of files) name what

-- the stop is what is said; memory may always run out
abbrev pub IsStop : (OfName → Type 0) → FlatStop → Type 0
IsStop comes stop.NoPlan = comes no_plan
IsStop comes stop.NoName = comes no_name
IsStop comes stop.NoFlat = comes no_tree
IsStop comes stop.NoMemory = Unit {0}

-- files say one thing of a name
abbrev pub OneOfName : Type 0
OneOfName = (files : FilesData) (name : List ℕ) (a b : OfName) → ComesTo files name a → ComesTo files name b → a ≡ b
