-- The flat tree of the permutation of a plan that has a name.
use Rattle.std.proofs.Common.{◌≡◌, ◌≢◌, ◌<◌, ◌≤◌, ◌+◌, ◌∙◌, inl, inr, ℕ, List, [], ◌∷◌, map, drop, get_or, length, Result, Ok, Err, ap, sym, subst, refl}
use Rattle.std.specs.FinMap as finite
use Rattle.std.specs.Prelude.{IfErr, IsErrAnd}
use Rattle.ring.specs.Lists.{In, AreApart}
use Rattle.json_span.specs.Flaw.{equal_names, too_deep}
use Rattle.tk_io.specs.FilesData.{FilesData}
use Rattle.token_tree.specs.Tree.{Group}
use Rattle.token_tree.specs.View.{group_view}
use Rattle.token_tree.specs.declared.tree.Group.{Group as GroupCode}
use Rattle.group_inherit.specs.Answer.{IsSound, IsFlat, IsTreeBreak}
use Rattle.group_inherit.specs.Laws.{SoundIsUnbroken}
use Rattle.group_inherit.specs.Merging.{merged}
use Rattle.group_inherit.specs.declared.fault.TreeFault.{TreeFault}
use Rattle.permutations.specs.Permutation.{Permutation}
use Rattle.file_plan.specs.InUse.{resolver_path, files_in_use}
use Rattle.file_plan.specs.Laws.{NamesAreApart, OnePlan}
use Rattle.file_plan.specs.Plan.{Planned, planned, refused, Plans, stopped, has_flaw, breaks, too_many, too_many_sources, text_count}
use Rattle.file_plan.specs.View.{IsPlanRefusal, plan_perm_view, plan_view}
use Rattle.file_plan.specs.declared.refusal.PlanRefusal.{PlanRefusal}
use Rattle.file_plan.specs.declared.refusal.PlanRefusal.TheVariants as refusal
use Rattle.file_plan.specs.declared.source.PlanPerm.{PlanPerm}
use Rattle.source_trees.specs.Laws.{OneFlatOf, OneFound}
use Rattle.source_trees.specs.Merges.{IsMergeOf}
use Rattle.source_trees.specs.Merging.{AllInlineStand, IsMergedOf}
use Rattle.source_trees.specs.Sources.{BreakAt, SourcesFound}
use Rattle.source_trees.specs.View.{break_view}
use Rattle.source_trees.specs.declared.laying.Merged.TheVariants.{Tree, Broken}
use Rattle.source_trees.specs.declared.merge.Merge.TheVariants as merge
use Rattle.source_trees.specs.declared.source.SourceBreak.{SourceBreak}
use Rattle.source_trees.proofs.NamedTrees.{next_perms, no_perms}
use Rattle.alias_ref.specs.Laws.{Flat}
use Rattle.transforms.specs.Config.{Settings}
use Rattle.transforms.specs.declared.config.ConfigFault.{ConfigFault}
use Rattle.transforms.specs.declared.config.ConfigFault.TheVariants as config
use Rattle.refusals.specs.Planning.{break_of}
use Rattle.build_plain.specs.Breaks.{home_of}
use Rattle.build_plain.specs.OneTree.{ComesTo, ComesToBy, ComesToIn, ComesToUnder, HasTree, IsNamed, IsStop, LacksTree, by_source, by_tree, OfName, has_tree, no_plan, no_name, no_tree, OneOfName}
use Rattle.build_plain.specs.Out.{IsConfigFault, settings_of}
use Rattle.build_plain.specs.Work.{Work, work, PermsWork, WorkUnder}
use Rattle.build_plain.specs.inner.OneTree.{unconfigured, unplanned}
use Rattle.build_plain.specs.declared.one_tree.FlatStop.{FlatStop}
use Rattle.build_plain.specs.declared.one_tree.FlatStop.TheVariants as stop
use Rattle.build_plain.proofs.Planned.{planned_within, resolver_within}
use Rattle.build_plain.proofs.Works.{no_rise}

abbrev names : List Permutation → List (List ℕ)
names perms = map (λ (p : Permutation). p.name) perms

-- One permutation has a name.

pub in_names : (perms : List Permutation) (name : List ℕ) (p : Permutation) → In p perms → p.name ≡ name → In name (names perms)
in_names [] name p i same = absurd i
in_names (q ∷ qs) name p (inl is) same = inl (sym same ∙ ap (λ (r : Permutation). r.name) is)
in_names (q ∷ qs) name p (inr i) same = inr (in_names qs name p i same)

pub once : (perms : List Permutation) (name : List ℕ) (p q : Permutation) → AreApart (names perms) → In p perms → p.name ≡ name → In q perms → q.name ≡ name → p ≡ q
once [] name p q apart i same j same_too = absurd i
once (r ∷ rs) name p q apart (inl is) same (inl is_too) same_too = is ∙ sym is_too
once (r ∷ rs) name p q apart (inl is) same (inr j) same_too = absurd (apart.0 (in_names rs r.name q j (same_too ∙ sym same ∙ ap (λ (x : Permutation). x.name) is)))
once (r ∷ rs) name p q apart (inr i) same (inl is_too) same_too = absurd (apart.0 (in_names rs r.name p i (same ∙ sym same_too ∙ ap (λ (x : Permutation). x.name) is_too)))
once (r ∷ rs) name p q apart (inr i) same (inr j) same_too = once rs name p q apart.1 i same j same_too

-- What is said of a name is one thing.

-- the laws of the layers below that are needed
pub record Laws : Type 0 where
  pub plan : OnePlan
  pub apart : NamesAreApart
  pub found : OneFound
  pub flat : OneFlatOf
  pub sound : SoundIsUnbroken

no_break : (b : BreakAt) (bs : List BreakAt) → [] ≡ b ∷ bs → ⊥
no_break b bs e = cc

module _ (laws : Laws) (files : FilesData) where
  -- a permutation has a tree or lacks one
  not_both : (p : Permutation) (flat : Flat) → HasTree files p flat → LacksTree files p → ⊥
  not_both p flat has (by_source b bs trees found) =
      no_break b bs (laws.found files (home_of files) p.sources [] (b ∷ bs) has.is_flat.trees trees has.is_flat.unbroken found).0
  not_both p flat has (by_tree broken trees found some is_break) =
      let same = (laws.found files (home_of files) p.sources [] [] has.is_flat.trees trees has.is_flat.unbroken found).1 in
      laws.sound (merged trees) broken (subst (λ (ts : List Group). IsSound (merged ts)) same has.sound) some is_break

  same_tree : (p : Permutation) (f g : Flat) → HasTree files p f → HasTree files p g → f ≡ g
  same_tree p f g has has_too = laws.flat files (home_of files) p.sources f g has.is_flat has_too.is_flat

  one_in : (perms : List Permutation) (name : List ℕ) → AreApart (names perms) → (a b : OfName) → ComesToIn files perms name a → ComesToIn files perms name b → a ≡ b
  one_in perms name apart (has_tree f) (has_tree g) (p, named, has) (q, named_too, has_too) =
      let same = once perms name p q apart named.among named.same named_too.among named_too.same in
      ap has_tree (same_tree q f g (subst (λ x. HasTree files x f) same has) has_too)
  one_in perms name apart (has_tree f) no_plan is is_too = absurd is_too
  one_in perms name apart (has_tree f) no_name (p, named, has) none = absurd (none (in_names perms name p named.among named.same))
  one_in perms name apart (has_tree f) no_tree (p, named, has) (q, named_too, lacks) =
      let same = once perms name p q apart named.among named.same named_too.among named_too.same in
      absurd (not_both q f (subst (λ x. HasTree files x f) same has) lacks)
  one_in perms name apart no_plan b is is_too = absurd is
  one_in perms name apart no_name (has_tree g) none (q, named, has) = absurd (none (in_names perms name q named.among named.same))
  one_in perms name apart no_name no_plan none is_too = absurd is_too
  one_in perms name apart no_name no_name none none_too = refl
  one_in perms name apart no_name no_tree none (q, named, lacks) = absurd (none (in_names perms name q named.among named.same))
  one_in perms name apart no_tree (has_tree g) (p, named, lacks) (q, named_too, has) =
      let same = once perms name p q apart named.among named.same named_too.among named_too.same in
      absurd (not_both q g has (subst (λ x. LacksTree files x) same lacks))
  one_in perms name apart no_tree no_plan is is_too = absurd is_too
  one_in perms name apart no_tree no_name (p, named, lacks) none = absurd (none (in_names perms name p named.among named.same))
  one_in perms name apart no_tree no_tree is is_too = refl

  one_by : (p : Planned) (name : List ℕ) → Plans (finite.get files resolver_path) p → (a b : OfName) → ComesToBy files p name a → ComesToBy files p name b → a ≡ b
  one_by (planned perms) name plans a b is is_too = one_in perms name (laws.apart (finite.get files resolver_path) perms plans) a b is is_too
  one_by (refused broken) name plans a b is is_too = is ∙ sym is_too

  one_under : (settings : Result Settings ConfigFault) (name : List ℕ) (a b : OfName) → ComesToUnder files settings name a → ComesToUnder files settings name b → a ≡ b
  one_under (Ok settings) name a b (p, plans, is) (q, plans_too, is_too) =
      one_by q name plans_too a b (subst (λ x. ComesToBy files x name a) (laws.plan (finite.get files resolver_path) p q plans plans_too) is) is_too
  one_under (Err broken) name a b is is_too = is ∙ sym is_too

  pub one_of_name : (name : List ℕ) (a b : OfName) → ComesTo files name a → ComesTo files name b → a ≡ b
  one_of_name name a b is is_too = one_under (settings_of files) name a b is is_too

-- What the code finds.

named_next : (name first : List ℕ) (rest : List (List ℕ)) → first ≢ name → In name (first ∷ rest) → In name rest
named_next name first rest other (inl same) = absurd (other (sym same))
named_next name first rest other (inr i) = i

module _ (plan : List PlanPerm) (i : ℕ) (rest : (p : Permutation) → In p (plan_view (drop i plan)) → In p (plan_view plan)) (x : PlanPerm) (below : i < length plan) (is : x ≡ get_or plan i x) where
  pub named_here : (name : List ℕ) → x.name ≡ name → IsNamed (plan_view plan) name (plan_perm_view x)
  named_here name same = record { among = rest (plan_perm_view x) (subst (In (plan_perm_view x)) (sym (next_perms plan i x below is)) (inl refl)); same = same }

  pub rest_next : (p : Permutation) → In p (plan_view (drop (i + 1) plan)) → In p (plan_view plan)
  rest_next p j = rest p (subst (In p) (sym (next_perms plan i x below is)) (inr j))

  pub names_next : (name : List ℕ) → x.name ≢ name → (In name (names (plan_view plan)) → In name (names (plan_view (drop i plan))))
      → In name (names (plan_view plan)) → In name (names (plan_view (drop (i + 1) plan)))
  names_next name other left j =
      named_next name x.name (names (plan_view (drop (i + 1) plan))) other (subst (λ (ps : List Permutation). In name (names ps)) (next_perms plan i x below is) (left j))

pub none_named : (plan : List PlanPerm) (i : ℕ) (name : List ℕ) → length plan ≤ i → (In name (names (plan_view plan)) → In name (names (plan_view (drop i plan))))
    → In name (names (plan_view plan)) → ⊥
none_named plan i name past left j = subst (λ (ps : List Permutation). In name (names ps)) (no_perms plan i past) (left j)

module _ (files : FilesData) (p : Permutation) where
  module _ (g : GroupCode) (merged_so : IsMergedOf files (home_of files) p.sources (Tree g)) where
    pub tree_of : AllInlineStand (home_of files).text p.sources → (flat : Flat) → IsMergeOf (group_view g) (merge.Flat flat) → HasTree files p flat
    tree_of stand flat (sound, is_flat) =
        let (bs, ts, found, (none, same)) = merged_so in
        record {
          is_flat = record {
            trees = ts;
            unbroken = subst (λ (xs : List BreakAt). SourcesFound files (home_of files) p.sources xs ts) none found;
            inline = stand;
            is_flat = subst (λ t. IsFlat t flat) same is_flat;
          };
          sound = subst IsSound same sound;
        }

    pub no_tree_of : (broken : TreeFault) → IsMergeOf (group_view g) (merge.Broken broken) → LacksTree files p
    no_tree_of broken (some, is_break) =
        let (bs, ts, found, (none, same)) = merged_so in
        by_tree broken ts (subst (λ (xs : List BreakAt). SourcesFound files (home_of files) p.sources xs ts) none found) some (subst (λ t. IsTreeBreak t broken) same is_break)

  pub no_source_of : (b : SourceBreak) → IsMergedOf files (home_of files) p.sources (Broken b) → LacksTree files p
  no_source_of b (bs, ts, found, (rest, same)) =
      by_source (break_view b) rest ts (subst (λ (xs : List BreakAt). SourcesFound files (home_of files) p.sources xs ts) same found)

-- a configuration that is refused, and a plan
pub config_stops : (files : FilesData) (name : List ℕ) (broken : ConfigFault) → IsConfigFault files broken → IsStop (ComesTo files name) (unconfigured broken)
config_stops files name config.Toml is = subst (λ (r : Result Settings ConfigFault). ComesToUnder files r name no_plan) (sym is) refl
config_stops files name (config.Key key) is = subst (λ (r : Result Settings ConfigFault). ComesToUnder files r name no_plan) (sym is) refl
config_stops files name config.NoMemory is = tt

pub plan_stops : (files : FilesData) (name : List ℕ) (settings : Settings) (r : PlanRefusal) → IsPlanRefusal (Plans (finite.get files resolver_path)) r
    → IsStop (ComesToUnder files (Ok settings) name) (unplanned (break_of r))
plan_stops files name settings (refusal.Syntax at) is = (refused (stopped at), is, refl)
plan_stops files name settings (refusal.Duplicate start end) is = (refused (has_flaw (equal_names start end)), is, refl)
plan_stops files name settings (refusal.Depth start end) is = (refused (has_flaw (too_deep start end)), is, refl)
plan_stops files name settings (refusal.Broken rule start end ring) is = (refused (breaks (record { rule = rule; start = start; end = end }) ring), is, refl)
plan_stops files name settings (refusal.TooMany start end count) is = (refused (too_many start end count), is, refl)
plan_stops files name settings (refusal.TooManySources start end count) is = (refused (too_many_sources start end count), is, refl)
plan_stops files name settings refusal.NoMemory is = tt

-- what comes of a plan comes of the files
pub stops_under : (files : FilesData) (name : List ℕ) (settings : Settings) (perms : List Permutation) → Plans (finite.get files resolver_path) (planned perms)
    → (s : FlatStop) → IsStop (ComesToIn files perms name) s → IsStop (ComesToUnder files (Ok settings) name) s
stops_under files name settings perms plans stop.NoPlan is = absurd is
stops_under files name settings perms plans stop.NoName is = (planned perms, plans, is)
stops_under files name settings perms plans stop.NoFlat is = (planned perms, plans, is)
stops_under files name settings perms plans stop.NoMemory is = tt

-- what comes of a permutation of the name
pub stops_in : (files : FilesData) (perms : List Permutation) (name : List ℕ) (p : Permutation) → IsNamed perms name p → (s : FlatStop)
    → (s ≡ stop.NoFlat → LacksTree files p) → (s ≡ stop.NoPlan → ⊥) → (s ≡ stop.NoName → ⊥) → IsStop (ComesToIn files perms name) s
stops_in files perms name p named stop.NoPlan lacks plan none = absurd (plan refl)
stops_in files perms name p named stop.NoName lacks plan none = absurd (none refl)
stops_in files perms name p named stop.NoFlat lacks plan none = (p, named, lacks refl)
stops_in files perms name p named stop.NoMemory lacks plan none = tt

-- No more files are read than are in use.
module _ (files : FilesData) (settings : Settings) where
  pub read_within : (one : OnePlan) (perms : List Permutation) (p r q : ℕ) → Plans (finite.get files resolver_path) (planned perms)
      → r ≡ p + text_count (finite.get files resolver_path) → q + text_count (finite.get files resolver_path) ≤ r + finite.len (files_in_use files perms)
      → (w : Work) → WorkUnder files (Ok settings) w → q ≤ p + w.parses
  read_within one perms p r q plans first steps w is =
      (planned_within files settings one perms p r q 0 0 0 0 plans first steps (no_rise (PermsWork files perms) (work 0 0 0)) w is).parses

  pub document_within : (p q : ℕ) → q ≤ p + text_count (finite.get files resolver_path) → (w : Work) → WorkUnder files (Ok settings) w → q ≤ p + w.parses
  document_within p q most w is = (resolver_within files settings p q 0 0 most w is).parses

-- memory that runs out is no reason of the files
pub memory_stops : (r : Result Flat FlatStop) (comes : OfName → Type 0) → IsErrAnd r (λ e. e ≡ stop.NoMemory) → IfErr r (IsStop comes)
memory_stops (Ok flat) comes is = absurd is
memory_stops (Err e) comes is = subst (IsStop comes) (sym is) tt

pub perm_stops : (files : FilesData) (perms : List Permutation) (name : List ℕ) (p : Permutation) → IsNamed perms name p → (r : Result Flat FlatStop)
    → (r ≡ Err stop.NoFlat → LacksTree files p) → (r ≡ Err stop.NoPlan → ⊥) × (r ≡ Err stop.NoName → ⊥) → IfErr r (IsStop (ComesToIn files perms name))
perm_stops files perms name p named (Ok flat) lacks others = tt
perm_stops files perms name p named (Err s) lacks others = stops_in files perms name p named s (λ e. lacks (ap Err e)) (λ e. others.0 (ap Err e)) (λ e. others.1 (ap Err e))
