-- The permutations of a plan, one after another: what is done for those that are still to come.
use Rattle.std.proofs.Common.{◌≡◌, ℕ, ◌+◌, ◌<◌, ◌≤◌, List, [], ◌∷◌, ◌++◌, Option, Some, refl, sym, ap, subst, ◌∙◌, arith, get_or, length, take}
use Rattle.std.proofs.lemmas.List.{length-map, map_more, take_all}
use Rattle.std.proofs.lemmas.Slice.Zip.{all_zipped_more, AllZip-long}
use Rattle.file_plan.specs.View.{plan_perm_view, plan_view}
use Rattle.file_plan.specs.declared.source.PlanPerm.{PlanPerm}
use Rattle.permutations.specs.Permutation.{Permutation}
use Rattle.transforms.specs.Config.{Settings}
use Rattle.tk_io.specs.FilesData.{FilesData}
use Rattle.build_plain.specs.Work.{Work, work, added, RiseWithin, IsAtMost}
use Rattle.build_plain.proofs.Works.{work_same, added_more, same_within, within_trans, within_added, more_within}
use Rattle.std.specs.List.{slice_get}
use Rattle.build_plain.specs.Outcomes.{HoldsCells, IsOutcome}
use Rattle.build_plain.proofs.Kept.{holds_cells}
use Rattle.rebuild_core.proofs.ZippedLists.{zipped_beside}
use Rattle.rebuild_core.specs.Work.{PermWorkFrom, PermsWorkFrom}
use Rattle.rebuild_core.specs.declared.past.Shared.{Shared}
use Rattle.rebuild_core.specs.inner.Past.{CameTo, outcome_of}

module _ (before : Option FilesData) (settings : Settings) (files : FilesData) (all : List Permutation) where
  -- the rest's work beside this is that of all
  abbrev pub AllDone : List Permutation → Work → Type 0
  AllDone rest now = (w : Work) → PermsWorkFrom before settings files rest w → (v : Work) × PermsWorkFrom before settings files all v × (v ≡ added now w)

  pub done_start : AllDone all (work 0 0 0)
  done_start w is = (w, is, work_same {p = w.parses} {m = w.merges} {e = w.evals} (omega arith) (omega arith) (omega arith))

  pub done_next : (rest : List Permutation) (p : Permutation) (ps : List Permutation) (now next u : Work) → rest ≡ p ∷ ps → AllDone rest now
      → PermWorkFrom before settings files p u → next ≡ added now u → AllDone ps next
  done_next rest p ps now next u is done here e w i =
      let (v, all_v, same) = done (added u w) (subst (λ (r : List Permutation). PermsWorkFrom before settings files r (added u w)) (sym is) (u, w, here, i, refl)) in
      (v, all_v, same ∙ (added_more now u w ∙ ap (λ x. added x w) (sym e)))

  pub done_end : (rest : List Permutation) (now : Work) → rest ≡ [] → AllDone rest now → PermsWorkFrom before settings files all now
  done_end rest now is done =
      let (v, all_v, same) = done (work 0 0 0) (subst (λ (r : List Permutation). PermsWorkFrom before settings files r (work 0 0 0)) (sym is) refl) in
      subst (PermsWorkFrom before settings files all) (same ∙ work_same {q = now.parses} {n = now.merges} {f = now.evals} (omega arith) (omega arith) (omega arith)) all_v

  -- counters and the rest's work are within the work of all
  abbrev pub Most : Work → List Permutation → Work → Type 0
  Most start rest now = (v : Work) → PermsWorkFrom before settings files all v → (w : Work) × PermsWorkFrom before settings files rest w × IsAtMost (added now w) (added start v)

  pub most_start : (start : Work) → Most start all start
  most_start start v is = (v, is, same_within refl)

  pub most_next : (start : Work) (rest : List Permutation) (p : Permutation) (ps : List Permutation) (now next : Work) → rest ≡ p ∷ ps → Most start rest now
      → RiseWithin (PermWorkFrom before settings files p) now next → Most start ps next
  most_next start rest p ps now next is most rise v i =
      let (w, rest_w, within) = most v i in
      let (u, others, is_u, is_others, e) = subst (λ (r : List Permutation). PermsWorkFrom before settings files r w) is rest_w in
      let same : added (added now u) others ≡ added now w = sym (added_more now u others) ∙ ap (added now) (sym e) in
      (others, is_others, within_trans (more_within others (rise u is_u)) (within_trans (same_within same) within))

  pub most_end : (start : Work) (rest : List Permutation) (now : Work) → Most start rest now → RiseWithin (PermsWorkFrom before settings files all) start now
  most_end start rest now most v i = let (w, rest_w, within) = most v i in within_trans (within_added now w) within

-- What permutations came to, and one more.

pub view_more : (a d b : Work) → b.parses ≡ a.parses + d.parses → b.merges ≡ a.merges + d.merges → b.evals ≡ a.evals + d.evals → b ≡ added a d
view_more a d b p m e = work_same {p = b.parses} {m = b.merges} {e = b.evals} p m e

module _ (settings : Settings) (files : FilesData) (plan : List PlanPerm) where
  pub come_start : (outcomes : List Shared) → outcomes ≡ [] → CameTo settings files [] outcomes
  come_start outcomes none = subst (λ (l : List Shared). CameTo settings files [] l) (sym none) tt

  pub come_more : (i : ℕ) (p : PlanPerm) (outcomes more : List Shared) (shared : Shared) → i < length plan → p ≡ get_or plan i p → CameTo settings files (plan_view (take i plan)) outcomes
      → IsOutcome settings files (plan_perm_view p) (outcome_of shared) → more ≡ outcomes ++ shared ∷ [] → CameTo settings files (plan_view (take (i + 1) plan)) more
  come_more i p outcomes more shared within is came here made =
      let longer : plan_view (take (i + 1) plan) ≡ plan_view (take i plan) ++ plan_perm_view p ∷ [] =
      map_more plan_perm_view plan i p within ∙ ap (λ x. plan_view (take i plan) ++ plan_perm_view x ∷ []) (sym is) in
      subst (λ (ps : List Permutation). CameTo settings files ps more) (sym longer)
      (subst (λ (l : List Shared). CameTo settings files (plan_view (take i plan) ++ plan_perm_view p ∷ []) l) (sym made)
      (all_zipped_more (λ q s. IsOutcome settings files q (outcome_of s)) (plan_view (take i plan)) outcomes (plan_perm_view p) shared came here))

  pub come_end : (i : ℕ) (outcomes : List Shared) → length plan ≤ i → CameTo settings files (plan_view (take i plan)) outcomes → CameTo settings files (plan_view plan) outcomes
  come_end i outcomes all came = subst (λ (l : List PlanPerm). CameTo settings files (plan_view l) outcomes) (take_all i plan all) came

pub came_long : (settings : Settings) (files : FilesData) (plan : List PlanPerm) (outcomes : List Shared) → CameTo settings files (plan_view plan) outcomes → length outcomes ≡ length plan
came_long settings files plan outcomes came =
    AllZip-long (λ p s. IsOutcome settings files p (outcome_of s)) (plan_view plan) outcomes came ∙ length-map plan plan_perm_view

-- the last of them has the cells of its tokens
pub last_holds : (settings : Settings) (files : FilesData) (perms : List Permutation) (outcomes : List Shared) (i : ℕ) (s : Shared) → CameTo settings files perms outcomes → slice_get outcomes i ≡ Some s
    → HoldsCells settings (outcome_of s)
last_holds settings files perms outcomes i s came at =
    let (p, there, is) = zipped_beside (λ q t. IsOutcome settings files q (outcome_of t)) perms outcomes i s came at in
    holds_cells settings files p (outcome_of s) is
