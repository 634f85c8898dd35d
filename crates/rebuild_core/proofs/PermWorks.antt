-- How much is done for a permutation, by what is kept of it.
use Rattle.std.proofs.Common.{◌≡◌, ◌≢◌, inl, inr, ℕ, ◌+◌, ◌≤◌, List, [], Option, Some, None, Result, Ok, Err, IfOk, refl, sym, ap, subst, ◌∙◌, arith}
use Rattle.std.specs.FinMap as finite
use Rattle.group_inherit.specs.Flattening.{TokenAt}
use Rattle.alias_ref.specs.Laws.{Flat}
use Rattle.alias_ref.specs.Unchanged.{DifferDecides}
use Rattle.permutations.specs.Permutation.{Permutation}
use Rattle.token_tree.specs.Tree.{Group}
use Rattle.token_tree.specs.View.{group_view}
use Rattle.token_tree.specs.declared.tree.Group.{Group as GroupCode}
use Rattle.source_trees.specs.Laws.{OneFound}
use Rattle.source_trees.specs.Merges.{IsMergeOf}
use Rattle.source_trees.specs.Merging.{IsMergedOf}
use Rattle.source_trees.specs.Sources.{BreakAt}
use Rattle.source_trees.specs.declared.laying.Merged.TheVariants.{Tree}
use Rattle.source_trees.specs.declared.merge.Merge.{Merge}
use Rattle.source_trees.specs.declared.merge.Merge.TheVariants as merge
use Rattle.transforms.specs.Config.{Settings}
use Rattle.tk_io.specs.FilesData.{FilesData}
use Rattle.token_cells.specs.Cell.{TokenPath}
use Rattle.build_plain.specs.Breaks.{home_of}
use Rattle.build_plain.specs.Outcomes.{merge_in}
use Rattle.build_plain.specs.Work.{Work, work, RiseWithin}
use Rattle.build_plain.specs.declared.outcome.Outcome.{Outcome}
use Rattle.rebuild_core.specs.Sums.{IsOneIf, IsSum}
use Rattle.rebuild_core.specs.Work.{IsMerge, MergesTo, KeptPerm, HasSources, IsReachedIn, IsReachedSince, MergeWork, SourcesWork, contents_of, flat_in}
use Rattle.rebuild_core.specs.inner.Below.{OneLaws}
use Rattle.rebuild_core.specs.inner.Evaluating.{AreReached}
use Rattle.rebuild_core.specs.inner.Merging.{AllReached, EvalsOf, IsKeptAgain, IsTreeUnder, WorkBeside, flat_of}
use Rattle.rebuild_core.proofs.SameSources.{outcome_merge}
use Rattle.rebuild_core.proofs.OneWork.{one_merge}
use Rattle.rebuild_core.proofs.Summing.{sum_so, sum_zero, sum_ones, held, unless_not_held, sum_all}
use Rattle.tree_changes.proofs.Walks.{none_reached}

one_by : (P Q : Type 0) (n : ℕ) → (P → Q) → (Q → P) → IsOneIf P n → IsOneIf Q n
one_by P Q n there back (inl (p, e)) = inl (there p, e)
one_by P Q n there back (inr (p, e)) = inr ((λ q. p (back q)), e)

-- What is reached since the tree that is kept under these settings.

module _ (settings : Settings) (flat : Flat) where
  reached_there : (kept : Option KeptPerm) (tree : Option Flat) → IsTreeUnder kept settings tree → (path : TokenPath) → IsReachedIn tree flat path → IsReachedSince kept settings flat path
  reached_there None tree is path r = tt
  reached_there (Some kept) tree (inl (same, is)) path r = inr (subst (λ (t : Option Flat). IsReachedIn t flat path) is r)
  reached_there (Some kept) tree (inr (other, is)) path r = inl other

  reached_back : (kept : Option KeptPerm) (tree : Option Flat) → IsTreeUnder kept settings tree → (path : TokenPath) → IsReachedSince kept settings flat path → IsReachedIn tree flat path
  reached_back None tree is path r = subst (λ (t : Option Flat). IsReachedIn t flat path) (sym is) tt
  reached_back (Some kept) tree (inl (same, is)) path (inl other) = absurd (other same)
  reached_back (Some kept) tree (inl (same, is)) path (inr r) = subst (λ (t : Option Flat). IsReachedIn t flat path) (sym is) r
  reached_back (Some kept) tree (inr (other, is)) path r = subst (λ (t : Option Flat). IsReachedIn t flat path) (sym is) tt

  abbrev SinceKept : Option KeptPerm → TokenAt → ℕ → Type 0
  SinceKept kept token = IsOneIf (IsReachedSince kept settings flat token.0)

  abbrev SinceTree : Option Flat → TokenAt → ℕ → Type 0
  SinceTree tree token = IsOneIf (IsReachedIn tree flat token.0)

  sum_there : (kept : Option KeptPerm) (tree : Option Flat) (n : ℕ) → IsTreeUnder kept settings tree → AreReached tree flat n → IsSum (SinceKept kept) (finite.entries flat) n
  sum_there kept tree n under is =
      sum_so (SinceTree tree) (SinceKept kept) (finite.entries flat) n
      (λ token k i. one_by (IsReachedIn tree flat token.0) (IsReachedSince kept settings flat token.0) k (reached_there kept tree under token.0) (reached_back kept tree under token.0)) is

  sum_back : (kept : Option KeptPerm) (tree : Option Flat) (n : ℕ) → IsTreeUnder kept settings tree → IsSum (SinceKept kept) (finite.entries flat) n → AreReached tree flat n
  sum_back kept tree n under is =
      sum_so (SinceKept kept) (SinceTree tree) (finite.entries flat) n
      (λ token k i. one_by (IsReachedSince kept settings flat token.0) (IsReachedIn tree flat token.0) k (reached_back kept tree under token.0) (reached_there kept tree under token.0)) is

-- Sources that hold other than what is kept.

module _ (settings : Settings) (files : FilesData) (p : Permutation) (kept : Option KeptPerm) (tree : Option Flat) (under : IsTreeUnder kept settings tree)
    (other : HasSources kept (contents_of files p) → ⊥) where
  anew_of : (m : Merge) (n : ℕ) → EvalsOf tree m n → MergeWork kept settings (contents_of files p) m (work 0 1 n)
  anew_of (merge.Broken fault) n zero = (1, inr (other, refl), ap (λ k. work 0 1 k) zero)
  anew_of (merge.Flat flat) n reached = (1, n, inr (other, refl), sum_there settings flat kept tree n under reached, refl)

  pub anew_work : (m : Merge) (n : ℕ) → IsMerge files p (Some m) → EvalsOf tree m n → WorkBeside kept settings files p (work 0 1 n)
  anew_work m n is reached = (Some m, is, anew_of m n reached)

  pub broken_work : IsMerge files p None → WorkBeside kept settings files p (work 0 0 0)
  broken_work is = (None, is, refl)

  -- .. and no less is done
  of_anew : (m : Merge) (w : Work) → MergeWork kept settings (contents_of files p) m w → (n : ℕ) × EvalsOf tree m n × (w ≡ work 0 1 n)
  of_anew (merge.Broken fault) w (merges, once, e) =
      (0, refl, e ∙ ap (λ k. work 0 k 0) (unless_not_held (HasSources kept (contents_of files p)) merges other once))
  of_anew (merge.Flat flat) w (merges, n, once, sum, e) =
      (n, sum_back settings flat kept tree n under sum, e ∙ ap (λ k. work 0 k n) (unless_not_held (HasSources kept (contents_of files p)) merges other once))

  merges_of : (g : GroupCode) → IsMergedOf files (home_of files) p.sources (Tree g) → OneFound → (o : Option Merge) → IsMerge files p o → (m : Merge) × (o ≡ Some m) × IsMergeOf (group_view g) m
  merges_of g (bs, ts, found, (none, is)) one o (cs, us, found_too, to) = go o (subst (λ (us : List Group). MergesTo [] us o) same.1 (subst (λ (xs : List BreakAt). MergesTo xs us o) (same.0 ∙ none) to))
    where
      same : (cs ≡ bs) × (us ≡ ts)
      same = one files (home_of files) p.sources cs bs us ts found_too found

      go : (o : Option Merge) → MergesTo [] ts o → (m : Merge) × (o ≡ Some m) × IsMergeOf (group_view g) m
      go None to = absurd to
      go (Some m) to = (m, refl, subst (λ t. IsMergeOf t m) (sym is) to)

  pub within_tree : (g : GroupCode) → IsMergedOf files (home_of files) p.sources (Tree g) → OneFound → (a b c d : ℕ) → b ≤ a + 1
      → ((m : Merge) (n : ℕ) → IsMergeOf (group_view g) m → EvalsOf tree m n → d ≤ c + n) → RiseWithin (WorkBeside kept settings files p) (work 0 a c) (work 0 b d)
  within_tree g merged one a b c d once most w (o, is, of) =
      let (m, some, comes) = merges_of g merged one o is in
      let (n, reached, e) = of_anew m w (subst (λ (x : Option Merge). SourcesWork kept settings (contents_of files p) x w) some of) in
      record {
        parses = omega arith;
        merges = omega (arith, once, ap (λ x. x.merges) e);
        evals = omega (arith, most m n comes reached, ap (λ x. x.evals) e);
      }

-- Sources that hold the same.

module _ (decides : DifferDecides) (cfg settings : Settings) (files : FilesData) (p : Permutation) (o : Outcome) (kept : KeptPerm) (again : IsKeptAgain files p settings o kept) where
  abbrev Kept : Option KeptPerm
  Kept = Some kept

  -- under the same settings nothing is done
  same_of : (m : Option Merge) → kept.tree ≡ flat_in m → settings ≡ cfg → SourcesWork Kept cfg (contents_of files p) m (work 0 0 0)
  same_of None tree same = refl
  same_of (Some (merge.Broken fault)) tree same = (0, inl (again.sources, refl), refl)
  same_of (Some (merge.Flat flat)) tree same =
      (0, 0, inl (again.sources, refl), sum_zero (λ (token : TokenAt). IsOneIf (IsReachedSince Kept cfg flat token.0)) (finite.entries flat) (λ token i. inr (unreached token, refl)), refl)
    where
      unreached : (token : TokenAt) → IsReachedSince Kept cfg flat token.0 → ⊥
      unreached token (inl other) = other (again.settings_are ∙ same)
      unreached token (inr r) = none_reached decides flat token.0 (subst (λ (t : Option Flat). IsReachedIn t flat token.0) tree r)

  pub same_work : settings ≡ cfg → WorkBeside Kept cfg files p (work 0 0 0)
  same_work same = (merge_in o, outcome_merge settings files p o again.outcome, same_of (merge_in o) again.tree same)

  -- under others each token of its flat tree is evaluated
  recast_of : (m : Option Merge) (n : ℕ) → AllReached (flat_in m) n → settings ≢ cfg → SourcesWork Kept cfg (contents_of files p) m (work 0 0 n)
  recast_of None n all other = ap (λ k. work 0 0 k) all
  recast_of (Some (merge.Broken fault)) n all other = (0, inl (again.sources, refl), ap (λ k. work 0 0 k) all)
  recast_of (Some (merge.Flat flat)) n all other = (
    0,
    n,
    inl (again.sources, refl),
    subst (IsSum (λ (token : TokenAt). IsOneIf (IsReachedSince Kept cfg flat token.0)) (finite.entries flat)) (sym all)
        (sum_ones (λ (token : TokenAt). IsOneIf (IsReachedSince Kept cfg flat token.0)) (finite.entries flat) (λ token. inl (inl (λ e. other (sym again.settings_are ∙ e)), refl))),
    refl,
  )

  pub recast_work : (n : ℕ) → AllReached (flat_of o) n → settings ≢ cfg → WorkBeside Kept cfg files p (work 0 0 n)
  recast_work n all other = (merge_in o, outcome_merge settings files p o again.outcome, recast_of (merge_in o) n all other)

  of_recast : (m : Option Merge) (w : Work) → settings ≢ cfg → SourcesWork Kept cfg (contents_of files p) m w → AllReached (flat_in m) w.evals
  of_recast None w other e = ap (λ x. x.evals) e
  of_recast (Some (merge.Broken fault)) w other (merges, once, e) = ap (λ x. x.evals) e
  of_recast (Some (merge.Flat flat)) w other (merges, n, once, sum, e) =
      ap (λ x. x.evals) e
      ∙ sum_all (λ (token : TokenAt). IsOneIf (IsReachedSince Kept cfg flat token.0)) (finite.entries flat) n
      (λ token k. held (IsReachedSince Kept cfg flat token.0) k (inl (λ s. other (sym again.settings_are ∙ s)))) sum

  pub within_recast : (laws : OneLaws) (a c d : ℕ) → settings ≢ cfg → ((n : ℕ) → AllReached (flat_of o) n → d ≤ c + n) → RiseWithin (WorkBeside Kept cfg files p) (work 0 a c) (work 0 a d)
  within_recast laws a c d other most w (m, is, of) =
      let same = one_merge laws files p m (merge_in o) is (outcome_merge settings files p o again.outcome) in
      let all = of_recast (merge_in o) w other (subst (λ (x : Option Merge). SourcesWork Kept cfg (contents_of files p) x w) same of) in
      record { parses = omega arith; merges = omega arith; evals = most w.evals all }

-- what follows from two claims of an answer
pub if_both : {T E : Type 0} {P Q R : T → Type 0} (r : Result T E) → IfOk r P → IfOk r Q → ((x : T) → P x → Q x → R x) → IfOk r R
if_both (Ok x) p q both = both x p q
if_both (Err e) p q both = tt
