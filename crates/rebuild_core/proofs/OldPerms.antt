-- A permutation that stood in the plan before, and what is kept of it.
use Rattle.std.proofs.Common.{◌≡◌, ◌≢◌, inl, inr, ℕ, zero, suc, ◌<◌, arith, get_or, length, List, [], ◌∷◌, Option, Some, None, refl, sym, ap, subst, ◌∙◌}
use Rattle.std.proofs.lemmas.List.{length-map}
use Rattle.std.proofs.lemmas.Option.{slice_get_read, slice_get_within}
use Rattle.std.proofs.lemmas.Slice.Zip.{AllZip-long}
use Rattle.std.specs.List.{AllByRecursion, slice_get}
use Rattle.alias_ref.specs.Laws.{Flat}
use Rattle.permutations.specs.Permutation.{Permutation}
use Rattle.file_plan.specs.View.{plan_perm_view, plan_view}
use Rattle.file_plan.specs.declared.source.PlanPerm.{PlanPerm}
use Rattle.source_trees.specs.Laws.{FoundByContent, EachFound}
use Rattle.source_trees.specs.Merging.{AllInlineStand}
use Rattle.transforms.specs.Config.{Settings}
use Rattle.tk_io.specs.FilesData.{FilesData}
use Rattle.build_plain.specs.Breaks.{home_of}
use Rattle.build_plain.specs.Outcomes.{HoldsCells, IsOutcome, merge_in}
use Rattle.build_plain.specs.Work.{Work, RiseWithin}
use Rattle.build_plain.proofs.Kept.{holds_cells}
use Rattle.rebuild_core.specs.Work.{IsKept, KeptOf, KeptPerm, PermWorkFrom, SourcesWork, contents_of, kept_perm, named}
use Rattle.rebuild_core.specs.declared.past.Past.{Past}
use Rattle.rebuild_core.specs.declared.past.Shared.{Shared}
use Rattle.rebuild_core.specs.inner.Below.{OneLaws}
use Rattle.rebuild_core.specs.inner.Merging.{IsKeptAgain, IsNamedAt, IsTreeUnder, WorkBeside, flat_of}
use Rattle.rebuild_core.specs.inner.Past.{IsPast, outcome_of}
use Rattle.rebuild_core.proofs.Decided.{Decided, same_settings}
use Rattle.rebuild_core.proofs.OneWork.{one_kept}
use Rattle.rebuild_core.proofs.SameSources.{outcome_merge, outcome_again}
use Rattle.rebuild_core.proofs.ZippedLists.{zipped_at, mapped_at}

some_is : {X : Type 0} {x y : X} → Some x ≡ Some y → x ≡ y
some_is e = cc

none_is : {X : Type 0} {x : X} → None ≡ Some x → ⊥
none_is e = cc

all_at : {X : Type 0} (P : X → Type 0) (xs : List X) (i : ℕ) (x : X) → AllByRecursion P xs → slice_get xs i ≡ Some x → P x
all_at P [] i x all e = absurd (none_is e)
all_at P (y ∷ xs) zero x all e = subst P (some_is e) all.0
all_at P (y ∷ xs) (suc i) x all e = all_at P xs i x all.1 e

-- By what is kept of the name.

module _ (before : Option FilesData) (settings : Settings) (files : FilesData) (p : Permutation) (k : Option KeptPerm) (is_kept : IsKept before p.name k) where
  pub perm_work : (w : Work) → WorkBeside k settings files p w → PermWorkFrom before settings files p w
  perm_work w (m, is, of) = (k, m, is_kept, is, of)

  pub perm_within : OneLaws → (a b : Work) → RiseWithin (WorkBeside k settings files p) a b → RiseWithin (PermWorkFrom before settings files p) a b
  perm_within laws a b rise w (l, m, kept_too, is, of) =
      rise w (m, is, subst (λ (x : Option KeptPerm). SourcesWork x settings (contents_of files p) m w) (one_kept laws before p.name l k kept_too is_kept) of)

-- no permutation had the name
pub none_named : (before : Option FilesData) (past : Past) (name : List ℕ) → IsPast before past → named name (plan_view past.plan) ≡ None → IsKept before name None
none_named before past name is none =
    is.kept name None (subst (λ (o : Option Permutation). KeptOf past.config past.files o None) (sym none) refl)

module _ (past : Past) (name : List ℕ) (i : ℕ) (there : IsNamedAt past.plan name i) (old : PlanPerm) (kept : Shared) (at : slice_get past.plan i ≡ Some old)
    (beside : slice_get past.outcomes.items i ≡ Some kept) where
  same_perm : there.perm ≡ old
  same_perm = some_is (sym there.there ∙ at)

  pub is_named : named name (plan_view past.plan) ≡ Some (plan_perm_view old)
  is_named = there.is ∙ ap (λ (x : PlanPerm). Some (plan_perm_view x)) same_perm

  module _ (before : Option FilesData) (is : IsPast before past) where
    pub came : IsOutcome past.config past.files (plan_perm_view old) (outcome_of kept)
    came =
        zipped_at (λ p s. IsOutcome past.config past.files p (outcome_of s)) (plan_view past.plan) past.outcomes.items i (plan_perm_view old) kept is.outcomes
        (mapped_at plan_perm_view past.plan i old at) beside

    pub stands : AllInlineStand (home_of past.files).text (plan_perm_view old).sources
    stands = all_at (λ p. AllInlineStand (home_of past.files).text p.sources) (plan_view past.plan) i (plan_perm_view old) is.stand (mapped_at plan_perm_view past.plan i old at)

    pub holds : HoldsCells past.config (outcome_of kept)
    holds = holds_cells past.config past.files (plan_perm_view old) (outcome_of kept) came

    abbrev pub Known : KeptPerm
    Known = kept_perm past.config (contents_of past.files (plan_perm_view old)) (merge_in (outcome_of kept))

    pub is_kept : IsKept before name (Some Known)
    is_kept =
        is.kept name (Some Known)
        (subst (λ (o : Option Permutation). KeptOf past.config past.files o (Some Known)) (sym is_named)
        (merge_in (outcome_of kept), outcome_merge past.config past.files (plan_perm_view old) (outcome_of kept) came, refl))

    module _ (by_content : FoundByContent) (each : EachFound) (files : FilesData) (p : Permutation) (same : contents_of past.files (plan_perm_view old) ≡ contents_of files p)
        (stand : AllInlineStand (home_of files).text p.sources) where
      pub comes : IsOutcome past.config files p (outcome_of kept)
      comes = outcome_again by_content each past.files files (plan_perm_view old) p same stands stand past.config (outcome_of kept) came

      pub again : IsKeptAgain files p past.config (outcome_of kept) Known
      again = record { outcome = comes; settings_are = refl; sources = same; tree = refl }

    pub under : (cfg : Settings) (tree : Option Flat) → (past.config ≡ cfg → tree ≡ flat_of (outcome_of kept)) → (past.config ≢ cfg → tree ≡ None) → IsTreeUnder (Some Known) cfg tree
    under cfg tree same other = go (same_settings past.config cfg)
      where
        go : Decided (past.config ≡ cfg) → IsTreeUnder (Some Known) cfg tree
        go (inl e) = inl (e, same e)
        go (inr n) = inr (n, other n)

-- It stands at the place, and what it came to beside it.

module _ (past : Past) (name : List ℕ) (i : ℕ) (there : IsNamedAt past.plan name i) where
  pub old_within : (plan : List PlanPerm) → plan ≡ past.plan → i < length plan
  old_within plan same = subst (λ (l : List PlanPerm). i < length l) (sym same) (slice_get_within past.plan i there.perm there.there)

  pub old_at : (plan : List PlanPerm) (old : PlanPerm) → plan ≡ past.plan → old ≡ get_or plan i old → slice_get past.plan i ≡ Some old
  old_at plan old same is =
      subst (λ (l : List PlanPerm). slice_get l i ≡ Some old) same (slice_get_read plan (length plan) i old refl (old_within plan same) is)

  pub kept_within : (before : Option FilesData) → IsPast before past → (outcomes : List Shared) → outcomes ≡ past.outcomes.items → i < length outcomes
  kept_within before is outcomes same =
      let long : length past.outcomes.items ≡ length (plan_view past.plan) = AllZip-long (λ p s. IsOutcome past.config past.files p (outcome_of s)) (plan_view past.plan) past.outcomes.items is.outcomes in
      let as_long : length (plan_view past.plan) ≡ length past.plan = length-map past.plan plan_perm_view in
      let within : i < length past.plan = slice_get_within past.plan i there.perm there.there in
      subst (λ (l : List Shared). i < length l) (sym same) (omega (arith, long, as_long, within))

  pub kept_beside : (before : Option FilesData) → IsPast before past → (outcomes : List Shared) (kept : Shared) → outcomes ≡ past.outcomes.items → kept ≡ get_or outcomes i kept
      → slice_get past.outcomes.items i ≡ Some kept
  kept_beside before is outcomes kept same at =
      subst (λ (l : List Shared). slice_get l i ≡ Some kept) same (slice_get_read outcomes (length outcomes) i kept refl (kept_within before is outcomes same) at)
