-- The permutations of a plan, one after another: what is still to come, beside what is there.
use Rattle.std.proofs.Common.{◌≡◌, List, [], ◌∷◌, Ok, refl, sym, ap, ◌∙◌, subst}
use Rattle.std.specs.FinMap as finite
use Rattle.permutations.specs.Permutation.{Permutation}
use Rattle.file_plan.specs.InUse.{resolver_path}
use Rattle.file_plan.specs.Plan.{planned, Plans}
use Rattle.transforms.specs.Config.{Settings}
use Rattle.tk_io.specs.FilesData.{FilesData}
use Rattle.build_plain.specs.Out.{BuildsUnder, GivesOf, GivesFrom}
use Rattle.build_plain.specs.Work.{Work, work, added, PermWork, PermsWork, RiseBy, RiseWithin, IsAtMost}
use Rattle.build_plain.specs.inner.Outcomes.{Given}
use Rattle.build_plain.proofs.Works.{added_none, added_more, same_within, within_trans, within_added, more_within}

-- Outputs.

module _ (settings : Settings) (files : FilesData) (all : List Permutation) where
  pub given_start : (now : FilesData) → now ≡ finite.empty → Given settings files all all now
  given_start now none = λ out i. subst (λ (m : FilesData). GivesFrom settings files all m out) none i

  pub given_more : (p : Permutation) (ps : List Permutation) (now next : FilesData) → Given settings files all (p ∷ ps) now → GivesOf settings files p now next
      → Given settings files all ps next
  given_more p ps now next given gives = λ out i. given out (next, gives, i)

  pub given_next : (rest : List Permutation) (p : Permutation) (ps : List Permutation) (now next : FilesData) → rest ≡ p ∷ ps → Given settings files all rest now
      → GivesOf settings files p now next → Given settings files all ps next
  given_next rest p ps now next is given gives = given_more p ps now next (subst (λ (r : List Permutation). Given settings files all r now) is given) gives

  pub given_end : (rest : List Permutation) (now : FilesData) → rest ≡ [] → Given settings files all rest now → GivesFrom settings files all finite.empty now
  given_end rest now is given = given now (subst (λ (r : List Permutation). GivesFrom settings files r now now) (sym is) refl)

-- .. so where none is left, the outputs are those of the plan
pub given_ends : (settings : Settings) (files : FilesData) (perms : List Permutation) (out : FilesData)
    → Plans (finite.get files resolver_path) (planned perms) → Given settings files perms [] out → BuildsUnder files (Ok settings) out
given_ends settings files perms out plans given = (planned perms, plans, given out refl)

-- Work.

module _ (files : FilesData) (all : List Permutation) (start : Work) where
  -- the rest's work from here on is that of all from the start on
  abbrev pub Done : List Permutation → Work → Type 0
  Done rest now = (w : Work) → PermsWork files rest w → (v : Work) × PermsWork files all v × (added start v ≡ added now w)

  pub done_next : (rest : List Permutation) (p : Permutation) (ps : List Permutation) (now next : Work) → rest ≡ p ∷ ps → Done rest now
      → RiseBy (PermWork files p) now next → Done ps next
  done_next rest p ps now next is done (u, is_u, e) = λ w i.
      let (v, is_v, same) = done (added u w) (subst (λ (r : List Permutation). PermsWork files r (added u w)) (sym is) (u, w, is_u, i, refl)) in
      (v, is_v, same ∙ (added_more now u w ∙ ap (λ x. added x w) (sym e)))

  pub done_end : (rest : List Permutation) (now : Work) → rest ≡ [] → Done rest now → RiseBy (PermsWork files all) start now
  done_end rest now is done =
      let (v, is_v, same) = done (work 0 0 0) (subst (λ (r : List Permutation). PermsWork files r (work 0 0 0)) (sym is) refl) in
      (v, is_v, added_none now ∙ sym same)

  -- what is done so far, and the work of the rest, is within that of all
  abbrev pub Most : List Permutation → Work → Type 0
  Most rest now = (v : Work) → PermsWork files all v → (w : Work) × PermsWork files rest w × IsAtMost (added now w) (added start v)

  pub most_next : (rest : List Permutation) (p : Permutation) (ps : List Permutation) (now next : Work) → rest ≡ p ∷ ps → Most rest now
      → RiseWithin (PermWork files p) now next → Most ps next
  most_next rest p ps now next is most rise = λ v i.
      let (w, rest_w, within) = most v i in
      let (u, others, is_u, is_others, e) = subst (λ (r : List Permutation). PermsWork files r w) is rest_w in
      let same : added (added now u) others ≡ added now w = sym (added_more now u others) ∙ ap (added now) (sym e) in
      (others, is_others, within_trans (more_within others (rise u is_u)) (within_trans (same_within same) within))

  pub most_end : (rest : List Permutation) (now : Work) → Most rest now → RiseWithin (PermsWork files all) start now
  most_end rest now most = λ v i. let (w, rest_w, within) = most v i in within_trans (within_added now w) within

  pub most_stop : (rest : List Permutation) (p : Permutation) (ps : List Permutation) (now next : Work) → rest ≡ p ∷ ps → Most rest now
      → RiseWithin (PermWork files p) now next → RiseWithin (PermsWork files all) start next
  most_stop rest p ps now next is most rise = most_end ps next (most_next rest p ps now next is most rise)
