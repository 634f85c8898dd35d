-- What is done for the merge of a permutation and its tokens, where so much is kept of it.
use Rattle.std.specs.Prelude.{◌≡◌, ◌⊎◌, ◌≢◌, ℕ, List, Option, Some, None, length, slice_get}
use Rattle.std.specs.FinMap as finite
use Rattle.alias_ref.specs.Laws.{Flat}
use Rattle.permutations.specs.Permutation.{Permutation}
use Rattle.file_plan.specs.View.{plan_perm_view, plan_view}
use Rattle.file_plan.specs.declared.source.PlanPerm.{PlanPerm}
use Rattle.source_trees.specs.declared.merge.Merge.{Merge}
use Rattle.source_trees.specs.declared.merge.Merge.TheVariants as merge
use Rattle.transforms.specs.Config.{Settings}
use Rattle.tk_io.specs.FilesData.{FilesData}
use Rattle.build_plain.specs.Work.{Work, work}
use Rattle.build_plain.specs.declared.outcome.Outcome.{Outcome}
use Rattle.build_plain.specs.Outcomes.{IsOutcome, merge_in}
use Rattle.rebuild_core.specs.Work.{IsMerge, KeptPerm, HasSources, SourcesWork, contents_of, flat_in, named}
use Rattle.rebuild_core.specs.declared.merging.Done.{Done}
use Rattle.rebuild_core.specs.inner.Evaluating.{AreReached}
use Rattle.rebuild_core.specs.inner.Past.{outcome_of}

-- of a permutation, where this is kept of it
abbrev pub WorkBeside : Option KeptPerm → Settings → FilesData → Permutation → Work → Type 0
WorkBeside kept settings files p w =
    (m : Option Merge) × IsMerge files p m × SourcesWork kept settings (contents_of files p) m w

-- the flat tree of what is kept, where it is kept under these settings
abbrev pub IsTreeUnder : Option KeptPerm → Settings → Option Flat → Type 0
IsTreeUnder None settings tree = tree ≡ None
IsTreeUnder (Some kept) settings tree =
    ((kept.settings ≡ settings) × (tree ≡ kept.tree)) ⊎ ((kept.settings ≢ settings) × (tree ≡ None))

abbrev pub flat_of : Outcome → Option Flat
flat_of o = flat_in (merge_in o)

-- so many tokens of a merged tree are reached since the flat tree
abbrev pub EvalsOf : Option Flat → Merge → ℕ → Type 0
EvalsOf old (merge.Flat flat) n = AreReached old flat n
EvalsOf old (merge.Broken fault) n = n ≡ 0

-- all tokens of the flat tree, where there is one
abbrev pub AllReached : Option Flat → ℕ → Type 0
AllReached None n = n ≡ 0
AllReached (Some flat) n = n ≡ length (finite.entries flat)

-- what is kept of a permutation that came to this under these settings, whose sources hold what these hold
pub record IsKeptAgain (files : FilesData) (p : Permutation) (settings : Settings) (o : Outcome) (kept : KeptPerm) : Type 0 where
  pub outcome : IsOutcome settings files p o
  pub settings_are : kept.settings ≡ settings
  pub sources : HasSources (Some kept) (contents_of files p)
  pub tree : kept.tree ≡ flat_of o

-- the numbers of a permutation
abbrev pub done_view : Done → Work
done_view d = work 0 d.merged d.evaluated

-- what one came to whose tree was merged: so many of its tokens are reached since the flat tree
pub record IsMergedDone (old : Option Flat) (d : Done) : Type 0 where
  pub merged : d.merged ≡ 1
  pub made : Merge
  pub is : merge_in (outcome_of d.shared) ≡ Some made
  pub evals : EvalsOf old made d.evaluated

-- the permutation of the name stands at this place of the plan
pub record IsNamedAt (plan : List PlanPerm) (name : List ℕ) (i : ℕ) : Type 0 where
  pub perm : PlanPerm
  pub there : slice_get plan i ≡ Some perm
  pub is : named name (plan_view plan) ≡ Some (plan_perm_view perm)
