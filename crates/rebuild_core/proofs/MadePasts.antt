-- What was made of files, where nothing was.
use Rattle.std.proofs.Common.{◌≡◌, ℕ, List, [], Option, Some, None, Result, Ok, Err, refl, sym, ap, subst, ◌∙◌}
use Rattle.std.specs.FinMap as finite
use Rattle.tk_io.specs.FilesData.{FilesData}
use Rattle.tk_io.specs.Order.{text_cmp}
use Rattle.file_plan.specs.InUse.{AreAmong, resolver_path, resolver_in, files_in_use}
use Rattle.file_plan.specs.Plan.{PlanBreak, planned, refused, Plans}
use Rattle.file_plan.specs.Trees.{IsRead, AreTreesIn}
use Rattle.file_plan.specs.View.{plan_view}
use Rattle.file_plan.specs.declared.source.PlanPerm.{PlanPerm}
use Rattle.file_plan.specs.declared.tree.Tree.{Tree}
use Rattle.file_plan.proofs.FilesInUse.{in_use_among, some_none}
use Rattle.source_trees.specs.Trees.{AreShapesAmong, AreShapesIn, IsShaped, IsShapeFor}
use Rattle.source_trees.specs.declared.shape.FileShape.{FileShape}
use Rattle.transforms.specs.Config.{Settings}
use Rattle.transforms.specs.declared.config.ConfigFault.{ConfigFault}
use Rattle.build_plain.specs.Out.{BuildsUnder, GivesFrom, settings_of}
use Rattle.build_plain.specs.inner.Making.{AllStand}
use Rattle.rebuild_core.specs.Work.{UsedUnder, IsUsed, KeptPerm, KeptOf, KeptUnder, IsKept, named}
use Rattle.rebuild_core.specs.declared.past.Past.{Past}
use Rattle.rebuild_core.specs.declared.past.Shared.{Shared}
use Rattle.rebuild_core.specs.declared.reading.InUse.{InUse}
use Rattle.rebuild_core.specs.declared.renewing.Renewed.{Renewed}
use Rattle.rebuild_core.specs.inner.Past.{CameTo, IsBare, IsMadeOf, IsPast}
use Rattle.rebuild_core.specs.inner.Reading.{AreInUse}
use Rattle.rebuild_core.specs.inner.Renewing.{IsRenewed}

no_trees : (used : FilesData) (trees : finite.FinMap text_cmp Tree) → used ≡ finite.empty → trees ≡ finite.empty → AreTreesIn used trees
no_trees used trees none bare q =
    subst (λ (o : Option (List ℕ)). IsRead o (finite.get trees q)) (sym (ap (λ (m : FilesData). finite.get m q) none ∙ finite.get-empty text_cmp q))
    (subst (λ (o : Option Tree). IsRead None o) (sym (ap (λ (m : finite.FinMap text_cmp Tree). finite.get m q) bare ∙ finite.get-empty text_cmp q)) tt)

-- there is no shape
no_shapes : (files : FilesData) (shapes : finite.FinMap text_cmp FileShape) → shapes ≡ finite.empty → AreShapesAmong files shapes
no_shapes files shapes none path shape is = absurd (some_none (sym is ∙ (ap (λ (m : finite.FinMap text_cmp FileShape). finite.get m path) none ∙ finite.get-empty text_cmp path)))

-- the shapes of some of the files
pub shapes_among : (files some : FilesData) (shapes : finite.FinMap text_cmp FileShape) → AreAmong some files → AreShapesIn some shapes → AreShapesAmong files shapes
shapes_among files some shapes among are path shape is =
    at (finite.get some path) refl (subst (λ (s : Option FileShape). IsShaped path (finite.get some path) s) is (are path))
  where
    at : (o : Option (List ℕ)) → finite.get some path ≡ o → IsShaped path o (Some shape) → (text : List ℕ) × (finite.get files path ≡ Some text) × IsShapeFor path text shape
    at None e none = absurd none
    at (Some text) e holds = (text, among path text e, holds)

-- no permutation came to anything
module _ (before : Option FilesData) (past : Past) (no_plan : past.plan ≡ []) (no_outcomes : past.outcomes.items ≡ []) (none : (name : List ℕ) → IsKept before name None) where
  none_came : CameTo past.config past.files (plan_view past.plan) past.outcomes.items
  none_came =
      subst (λ (l : List PlanPerm). CameTo past.config past.files (plan_view l) past.outcomes.items) (sym no_plan)
      (subst (λ (l : List Shared). CameTo past.config past.files [] l) (sym no_outcomes) tt)

  none_stand : AllStand past.files (plan_view past.plan)
  none_stand = subst (λ (l : List PlanPerm). AllStand past.files (plan_view l)) (sym no_plan) tt

  none_named : (name : List ℕ) (k : Option KeptPerm) → KeptOf past.config past.files (named name (plan_view past.plan)) k → IsKept before name k
  none_named name k is =
      let no_kept : k ≡ None = subst (λ (l : List PlanPerm). KeptOf past.config past.files (named name (plan_view l)) k) no_plan is in
      subst (IsKept before name) (sym no_kept) (none name)

  pub without_plan : IsUsed before past.used → AreTreesIn past.used past.trees → past.shapes ≡ finite.empty → IsPast before past
  without_plan used trees bare = record { used = used; trees = trees; shapes = no_shapes past.files past.shapes bare; outcomes = none_came; stand = none_stand; kept = none_named }

-- nothing was kept
pub no_past_is : (past : Past) → past.used ≡ finite.empty → past.trees ≡ finite.empty → past.shapes ≡ finite.empty → past.plan ≡ [] → past.outcomes.items ≡ [] → IsPast None past
no_past_is past used trees shapes plan outcomes = without_plan None past plan outcomes (λ name. refl) used (no_trees past.used past.trees used trees) shapes

-- the configuration is refused
pub unconfigured_past : (files : FilesData) (fault : ConfigFault) (past : Past) → settings_of files ≡ Err fault → past.used ≡ finite.empty → past.trees ≡ finite.empty → past.shapes ≡ finite.empty → past.plan ≡ []
    → past.outcomes.items ≡ [] → IsPast (Some files) past
unconfigured_past files fault past is used trees shapes plan outcomes =
    without_plan (Some files) past plan outcomes (λ name. subst (λ (r : Result Settings ConfigFault). KeptUnder files name r None) (sym is) refl)
    (subst (λ (r : Result Settings ConfigFault). UsedUnder files r past.used) (sym is) used) (no_trees past.used past.trees used trees) shapes

-- the trees are those of the files in use
pub bare_trees : {files used : FilesData} {trees : finite.FinMap text_cmp Tree} {past : Past} → IsBare files used trees past → AreTreesIn used trees → AreTreesIn past.used past.trees
bare_trees {used = used} {past = past} bare are =
    subst (λ (m : FilesData). AreTreesIn m past.trees) (sym bare.used_are) (subst (λ (t : finite.FinMap text_cmp Tree). AreTreesIn used t) (sym bare.trees_are) are)

-- the plan is refused
pub unplanned_past : (files : FilesData) (settings : Settings) (broken : PlanBreak) (past : Past) → settings_of files ≡ Ok settings → Plans (finite.get files resolver_path) (refused broken)
    → past.used ≡ resolver_in files → AreTreesIn past.used past.trees → past.shapes ≡ finite.empty → past.plan ≡ [] → past.outcomes.items ≡ [] → IsPast (Some files) past
unplanned_past files settings broken past is plans used trees shapes plan outcomes =
    without_plan (Some files) past plan outcomes (λ name. subst (λ (r : Result Settings ConfigFault). KeptUnder files name r None) (sym is) (refused broken, plans, refl))
    (subst (λ (r : Result Settings ConfigFault). UsedUnder files r past.used) (sym is) (refused broken, plans, used)) trees shapes

pub unplanned_renewed : (files : FilesData) (settings : Settings) (broken : PlanBreak) (now : InUse) → Plans (finite.get files resolver_path) (refused broken) → AreInUse files [] now
    → (r : Renewed) → IsBare files now.used now.trees r.past → BuildsUnder files (Ok settings) r.outputs → IsRenewed files (Ok settings) r
unplanned_renewed files settings broken now plans are r bare builds = record {
  files_are = bare.files_are;
  past = λ is. unplanned_past files settings broken r.past is plans (bare.used_are ∙ are.used) (bare_trees bare are.trees) bare.no_shapes bare.no_plan bare.no_outcomes;
  outputs = builds;
}

-- the plan has these permutations
pub planned_past : (files : FilesData) (settings : Settings) (past : Past) → settings_of files ≡ Ok settings → Plans (finite.get files resolver_path) (planned (plan_view past.plan))
    → past.used ≡ files_in_use files (plan_view past.plan) → AreTreesIn past.used past.trees → AreShapesAmong files past.shapes → past.config ≡ settings → past.files ≡ files
    → CameTo settings files (plan_view past.plan) past.outcomes.items → AllStand files (plan_view past.plan) → IsPast (Some files) past
planned_past files settings past is plans used trees shapes config same came stand = record {
  used = subst (λ (r : Result Settings ConfigFault). UsedUnder files r past.used) (sym is) (planned (plan_view past.plan), plans, used);
  trees = trees;
  shapes = subst (λ (f : FilesData). AreShapesAmong f past.shapes) (sym same) shapes;
  outcomes = subst (λ (s : Settings). CameTo s past.files (plan_view past.plan) past.outcomes.items) (sym config)
      (subst (λ (f : FilesData). CameTo settings f (plan_view past.plan) past.outcomes.items) (sym same) came);
  stand = subst (λ (f : FilesData). AllStand f (plan_view past.plan)) (sym same) stand;
  kept = λ name k of.
      subst (λ (r : Result Settings ConfigFault). KeptUnder files name r k) (sym is) (
        planned (plan_view past.plan),
        plans,
        subst (λ (s : Settings). KeptOf s files (named name (plan_view past.plan)) k) config
            (subst (λ (f : FilesData). KeptOf past.config f (named name (plan_view past.plan)) k) same of),
      );
}

-- .. and it has these parts
module _ (files : FilesData) (settings : Settings) (plan : List PlanPerm) (now : InUse) (outcomes : List Shared) (past : Past) (made : IsMadeOf files settings plan now outcomes past)
    (came : CameTo settings files (plan_view plan) outcomes) where
  came_there : CameTo settings files (plan_view past.plan) past.outcomes.items
  came_there =
      subst (λ (l : List PlanPerm). CameTo settings files (plan_view l) past.outcomes.items) (sym made.plan_is)
      (subst (λ (l : List Shared). CameTo settings files (plan_view plan) l) (sym made.outcomes_are) came)

  pub made_came : CameTo past.config past.files (plan_view past.plan) past.outcomes.items
  made_came =
      subst (λ (s : Settings). CameTo s past.files (plan_view past.plan) past.outcomes.items) (sym made.config_is)
      (subst (λ (f : FilesData). CameTo settings f (plan_view past.plan) past.outcomes.items) (sym made.files_are) came_there)

  made_past : Plans (finite.get files resolver_path) (planned (plan_view plan)) → AreInUse files (plan_view plan) now → AllStand files (plan_view plan) → settings_of files ≡ Ok settings → IsPast (Some files) past
  made_past plans are stand is =
      planned_past files settings past is (subst (λ (l : List PlanPerm). Plans (finite.get files resolver_path) (planned (plan_view l))) (sym made.plan_is) plans)
      (made.used_are ∙ (are.used ∙ ap (λ (l : List PlanPerm). files_in_use files (plan_view l)) (sym made.plan_is)))
      (subst (λ (m : FilesData). AreTreesIn m past.trees) (sym made.used_are) (subst (λ (t : finite.FinMap text_cmp Tree). AreTreesIn now.used t) (sym made.trees_are) are.trees))
      (subst (λ (s : finite.FinMap text_cmp FileShape). AreShapesAmong files s) (sym made.shapes_are)
      (shapes_among files now.used now.shapes (subst (λ (m : FilesData). AreAmong m files) (sym are.used) (in_use_among files (plan_view plan))) are.shapes))
      made.config_is made.files_are came_there (subst (λ (l : List PlanPerm). AllStand files (plan_view l)) (sym made.plan_is) stand)

  gives_there : (out : FilesData) → GivesFrom past.config past.files (plan_view past.plan) finite.empty out → GivesFrom settings files (plan_view plan) finite.empty out
  gives_there out gives =
      subst (λ (l : List PlanPerm). GivesFrom settings files (plan_view l) finite.empty out) made.plan_is
      (subst (λ (f : FilesData). GivesFrom settings f (plan_view past.plan) finite.empty out) made.files_are
      (subst (λ (s : Settings). GivesFrom s past.files (plan_view past.plan) finite.empty out) made.config_is gives))

  pub made_renewed : Plans (finite.get files resolver_path) (planned (plan_view plan)) → AreInUse files (plan_view plan) now → AllStand files (plan_view plan) → (r : Renewed) → r.past ≡ past
      → GivesFrom past.config past.files (plan_view past.plan) finite.empty r.outputs → IsRenewed files (Ok settings) r
  made_renewed plans are stand r same gives = record {
    files_are = ap (λ (p : Past). p.files) same ∙ made.files_are;
    past = λ is. subst (λ (p : Past). IsPast (Some files) p) (sym same) (made_past plans are stand is);
    outputs = (planned (plan_view plan), plans, gives_there r.outputs gives);
  }
