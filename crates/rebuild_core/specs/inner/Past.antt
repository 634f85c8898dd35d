-- What was made of files, as it is kept, and how it is what `IsWorkFrom` compares with.
use Rattle.std.specs.Prelude.{◌≡◌, ℕ, List, [], Option}
use Rattle.std.specs.FinMap as finite
use Rattle.std.specs.List.{AllZip}
use Rattle.permutations.specs.Permutation.{Permutation}
use Rattle.file_plan.specs.Trees.{AreTreesIn}
use Rattle.file_plan.specs.View.{plan_view}
use Rattle.file_plan.specs.declared.source.PlanPerm.{PlanPerm}
use Rattle.file_plan.specs.declared.tree.Tree.{Tree}
use Rattle.source_trees.specs.Trees.{AreShapesAmong}
use Rattle.transforms.specs.Config.{Settings}
use Rattle.tk_io.specs.FilesData.{FilesData}
use Rattle.tk_io.specs.Order.{text_cmp}
use Rattle.build_plain.specs.Outcomes.{IsOutcome}
use Rattle.build_plain.specs.inner.Making.{AllStand}
use Rattle.build_plain.specs.declared.outcome.Outcome.{Outcome}
use Rattle.rebuild_core.specs.declared.past.Past.{Past}
use Rattle.rebuild_core.specs.declared.past.Shared.{Shared}
use Rattle.rebuild_core.specs.declared.reading.InUse.{InUse}
use Rattle.rebuild_core.specs.Work.{IsUsed, IsKept, KeptOf, KeptPerm, named}

abbrev pub outcome_of : Shared → Outcome
outcome_of s = s.outcome.value

-- permutations came to these, in their order
abbrev pub CameTo : Settings → FilesData → List Permutation → List Shared → Type 0
CameTo settings files perms outcomes = AllZip (λ p s. IsOutcome settings files p (outcome_of s)) perms outcomes

-- What was made of files is what is compared with where so much is kept: its files in use, their trees, the shapes of some,
-- and what its permutations came to.
pub record IsPast (before : Option FilesData) (past : Past) : Type 0 where
  pub used : IsUsed before past.used
  pub trees : AreTreesIn past.used past.trees
  pub shapes : AreShapesAmong past.files past.shapes
  pub outcomes : CameTo past.config past.files (plan_view past.plan) past.outcomes.items
  pub stand : AllStand past.files (plan_view past.plan)
  pub kept : (name : List ℕ) (k : Option KeptPerm) → KeptOf past.config past.files (named name (plan_view past.plan)) k → IsKept before name k

-- it has these parts
pub record IsMadeOf (files : FilesData) (config : Settings) (plan : List PlanPerm) (now : InUse) (outcomes : List Shared) (past : Past) : Type 0 where
  pub files_are : past.files ≡ files
  pub used_are : past.used ≡ now.used
  pub trees_are : past.trees ≡ now.trees
  pub shapes_are : past.shapes ≡ now.shapes
  pub config_is : past.config ≡ config
  pub plan_is : past.plan ≡ plan
  pub outcomes_are : past.outcomes.items ≡ outcomes

-- .. where there are no permutations
pub record IsBare (files used : FilesData) (trees : finite.FinMap text_cmp Tree) (past : Past) : Type 0 where
  pub files_are : past.files ≡ files
  pub used_are : past.used ≡ used
  pub trees_are : past.trees ≡ trees
  pub no_shapes : past.shapes ≡ finite.empty
  pub no_plan : past.plan ≡ []
  pub no_outcomes : past.outcomes.items ≡ []
