-- Where the permutation of a name stands, and which files are in use.
use Rattle.std.proofs.Common.{◌≡◌, ℕ, ◌+◌, ◌<◌, ◌≤◌, true, false, cond, List, [], ◌∷◌, Option, Some, None, inl, refl, sym, ap, ◌∙◌, drop, length, get_or}
use Rattle.std.proofs.lemmas.List.{drop_more, drop_all}
use Rattle.std.specs.FinMap as finite
use Rattle.std.specs.Str.{bytes_eq}
use Rattle.permutations.specs.Permutation.{Permutation}
use Rattle.file_plan.specs.InUse.{resolver_path, files_in_use}
use Rattle.file_plan.specs.View.{plan_source_view, plan_sources_view}
use Rattle.file_plan.specs.declared.source.PlanSource.{PlanSource}
use Rattle.file_plan.proofs.FilesInUse.{wanted_are_in_use}
use Rattle.tk_io.specs.FilesData.{FilesData}
use Rattle.rebuild_core.specs.Work.{named}

pub found_here : (name : List ℕ) (rest : List Permutation) (p : Permutation) (ps : List Permutation) → rest ≡ p ∷ ps → bytes_eq p.name name ≡ true → named name rest ≡ Some p
found_here name rest p ps is e = ap (named name) is ∙ ap (λ b. cond b (Some p) (named name ps)) e

pub not_here : (name : List ℕ) (rest : List Permutation) (p : Permutation) (ps : List Permutation) → rest ≡ p ∷ ps → bytes_eq p.name name ≡ false → named name rest ≡ named name ps
not_here name rest p ps is e = ap (named name) is ∙ ap (λ b. cond b (Some p) (named name ps)) e

-- the sources from one on, and after the last

pub next_sources : (sources : List PlanSource) (i : ℕ) (x : PlanSource) → i < length sources → x ≡ get_or sources i x
    → plan_sources_view (drop i sources) ≡ plan_source_view x ∷ plan_sources_view (drop (i + 1) sources)
next_sources sources i x h is = ap plan_sources_view (drop_more sources i x h) ∙ ap (λ y. plan_source_view y ∷ plan_sources_view (drop (i + 1) sources)) (sym is)

pub no_sources : (sources : List PlanSource) (i : ℕ) → length sources ≤ i → plan_sources_view (drop i sources) ≡ []
no_sources sources i h = ap plan_sources_view (drop_all i sources h)

-- the resolver document is in use where it is there

same_options : (x y : Option (List ℕ)) → ((t : List ℕ) → x ≡ Some t → y ≡ Some t) → ((t : List ℕ) → y ≡ Some t → x ≡ Some t) → x ≡ y
same_options None None f g = refl
same_options None (Some t) f g = g t refl
same_options (Some t) y f g = sym (f t refl)

pub resolver_in_use : (files : FilesData) (perms : List Permutation) → finite.get (files_in_use files perms) resolver_path ≡ finite.get files resolver_path
resolver_in_use files perms =
    same_options _ _ (λ t e. (wanted_are_in_use files perms resolver_path t).there e) (λ t e. (wanted_are_in_use files perms resolver_path t).all e (inl refl))
