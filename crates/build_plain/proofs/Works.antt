-- How much is done, by what the code finds in a tree and in sources.
use Rattle.std.proofs.Common.{◌≡◌, ◌≢◌, ℕ, ◌+◌, ◌≤◌, List, [], Result, Ok, Err, inl, inr, refl, sym, ap, subst, arith}
use Rattle.std.specs.FinMap as finite
use Rattle.std.specs.Prelude.{length, OnOk, IfOk}
use Rattle.token_tree.specs.View.{group_view}
use Rattle.token_tree.specs.Tree.{Group}
use Rattle.token_tree.specs.declared.tree.Group.{Group as GroupCode}
use Rattle.group_inherit.specs.Answer.{IsSound, IsFlat, IsTreeBreak}
use Rattle.group_inherit.specs.Laws.{OneFlat, SoundIsUnbroken}
use Rattle.group_inherit.specs.declared.fault.TreeFault.{TreeFault}
use Rattle.group_inherit.specs.declared.fault.TreeFault.TheVariants as fault
use Rattle.alias_ref.specs.Laws.{Flat}
use Rattle.permutations.specs.Permutation.{Permutation}
use Rattle.source_trees.specs.Laws.{OneFound}
use Rattle.source_trees.specs.Merging.{IsMergedOf}
use Rattle.source_trees.specs.Sources.{HomeAt, BreakAt, SourcesFound}
use Rattle.source_trees.specs.declared.laying.Merged.TheVariants.{Tree, Broken}
use Rattle.source_trees.specs.declared.source.SourceBreak.{SourceBreak}
use Rattle.tk_io.specs.FilesData.{FilesData}
use Rattle.build_plain.specs.Breaks.{home_of}
use Rattle.build_plain.specs.Work.{Work, work, added, TreeWork, TreesWork, PermWork, RiseBy, RiseWithin, IsAtMost}

-- Sums of work.

pub work_same : {p q m n e f : ℕ} → p ≡ q → m ≡ n → e ≡ f → work p m e ≡ work q n f
work_same i j k = cc

pub added_none : (v : Work) → v ≡ added v (work 0 0 0)
added_none v = work_same {p = v.parses} {m = v.merges} {e = v.evals} (omega arith) (omega arith) (omega arith)

pub added_more : (u v w : Work) → added u (added v w) ≡ added (added u v) w
added_more u v w = work_same (omega arith) (omega arith) (omega arith)

pub same_within : {v w : Work} → v ≡ w → IsAtMost v w
same_within e = record { parses = omega (arith, ap (λ x. x.parses) e); merges = omega (arith, ap (λ x. x.merges) e); evals = omega (arith, ap (λ x. x.evals) e) }

pub within_trans : {u v w : Work} → IsAtMost u v → IsAtMost v w → IsAtMost u w
within_trans i j = record {
  parses = omega (arith, i.parses, j.parses);
  merges = omega (arith, i.merges, j.merges);
  evals = omega (arith, i.evals, j.evals);
}

pub within_added : (v w : Work) → IsAtMost v (added v w)
within_added v w = record { parses = omega arith; merges = omega arith; evals = omega arith }

pub more_within : {u v : Work} (w : Work) → IsAtMost u v → IsAtMost (added u w) (added v w)
more_within w i = record { parses = omega (arith, i.parses); merges = omega (arith, i.merges); evals = omega (arith, i.evals) }

-- what holds whatever is answered
pub any_ok : {T E P : Type 0} (r : Result T E) → P → OnOk r P
any_ok (Ok x) p = p
any_ok (Err e) p = tt

pub on_ok_both : {T E P Q R : Type 0} (r : Result T E) → (P → Q → R) → OnOk r P → OnOk r Q → OnOk r R
on_ok_both (Ok x) f p q = f p q
on_ok_both (Err e) f p q = tt

pub on_ok_if : {T E Q : Type 0} {P : T → Type 0} (r : Result T E) → ((x : T) → P x → Q) → IfOk r P → OnOk r Q
on_ok_if (Ok x) f p = f x p
on_ok_if (Err e) f p = tt

pub if_ok_on : {T E Q : Type 0} {P R : T → Type 0} (r : Result T E) → (Q → (x : T) → P x → R x) → OnOk r Q → IfOk r P → IfOk r R
if_ok_on (Ok x) f q p = f q x p
if_ok_on (Err e) f q p = tt

-- One claim by another.

pub rise_so : (P Q : Work → Type 0) (a b : Work) → ((w : Work) → P w → Q w) → RiseBy P a b → RiseBy Q a b
rise_so P Q a b so (w, is, e) = (w, so w is, e)

pub within_so : (P Q : Work → Type 0) (a b : Work) → ((w : Work) → Q w → P w) → RiseWithin P a b → RiseWithin Q a b
within_so P Q a b so most w is = most w (so w is)

-- nothing is done
pub no_rise : (claim : Work → Type 0) (v : Work) → RiseWithin claim v v
no_rise claim v w is = within_added v w

pub at_rest : (claim : Work → Type 0) (v : Work) → claim (work 0 0 0) → RiseBy claim v v
at_rest claim v is = (work 0 0 0, is, added_none v)

-- Of a tree.

module _ (tree : Group) where
  one_merge : (w : Work) → TreeWork tree w → w.merges ≡ 1
  one_merge w (inl (broken, some, is, done)) = ap (λ x. x.merges) done
  one_merge w (inr (flat, sound, is, done)) = ap (λ x. x.merges) done

  -- a tree that breaks a rule
  pub broken_work : (broken : TreeFault) (m n e : ℕ) → broken ≢ fault.NoMemory → IsTreeBreak tree broken → n ≡ m + 1 → RiseBy (TreeWork tree) (work 0 m e) (work 0 n e)
  broken_work broken m n e some is step = (work 0 1 0, inl (broken, some, is, refl), work_same refl step (omega arith))

  -- .. and one that breaks none
  pub flat_work : (flat : Flat) (m n e f : ℕ) → IsSound tree → IsFlat tree flat → n ≡ m + 1 → f ≡ e + length (finite.entries flat)
      → RiseBy (TreeWork tree) (work 0 m e) (work 0 n f)
  flat_work flat m n e f sound is step steps = (work 0 1 (length (finite.entries flat)), inr (flat, sound, is, refl), work_same refl step steps)

  pub merged_only : (m n e : ℕ) → n ≡ m + 1 → RiseWithin (TreeWork tree) (work 0 m e) (work 0 n e)
  merged_only m n e step w is = record { parses = omega arith; merges = omega (arith, step, one_merge w is); evals = omega arith }

  pub flat_within : (one : OneFlat) (unbroken : SoundIsUnbroken) (flat : Flat) (m n e f : ℕ) → IsSound tree → IsFlat tree flat → n ≡ m + 1 → f ≤ e + length (finite.entries flat)
      → RiseWithin (TreeWork tree) (work 0 m e) (work 0 n f)
  flat_within one unbroken flat m n e f sound is step most w (inl (broken, some, breaks, done)) = absurd (unbroken tree broken sound some breaks)
  flat_within one unbroken flat m n e f sound is step most w (inr (other, sound_too, is_too, done)) =
      let same : length (finite.entries flat) ≡ length (finite.entries other) = ap (λ (x : Flat). length (finite.entries x)) (one tree flat other is is_too) in
      record { parses = omega arith; merges = omega (arith, step, ap (λ x. x.merges) done); evals = omega (arith, most, same, ap (λ x. x.evals) done) }

-- Of sources.

module _ (files : FilesData) (home : HomeAt) (p : Permutation) (is_home : home ≡ home_of files) where
  abbrev at_home : HomeAt → Work → Type 0
  at_home h w = (bs : List BreakAt) × (trees : List Group) × SourcesFound files h p.sources bs trees × TreesWork bs trees w

  to_perm : (w : Work) → at_home home w → PermWork files p w
  to_perm w i = subst (λ (h : HomeAt). at_home h w) is_home i

  of_perm : (w : Work) → PermWork files p w → at_home home w
  of_perm w i = subst (λ (h : HomeAt). at_home h w) (sym is_home) i

  tree_at : (g : GroupCode) (w : Work) → IsMergedOf files home p.sources (Tree g) → TreeWork (group_view g) w → PermWork files p w
  tree_at g w (bs, ts, found, (none, is)) i =
      to_perm w (bs, ts, found, subst (λ (xs : List BreakAt). TreesWork xs ts w) (sym none) (subst (λ t. TreeWork t w) is i))

  at_tree : (found : OneFound) (g : GroupCode) (w : Work) → IsMergedOf files home p.sources (Tree g) → PermWork files p w → TreeWork (group_view g) w
  at_tree one g w (bs, ts, found, (none, is)) i =
      let (cs, us, found_too, j) = of_perm w i in
      let same = one files home p.sources cs bs us ts found_too found in
      let j_bs : TreesWork bs ts w = subst (λ us. TreesWork bs us w) same.1 (subst (λ (xs : List BreakAt). TreesWork xs us w) same.0 j) in
      let j_none : TreesWork [] ts w = subst (λ (xs : List BreakAt). TreesWork xs ts w) none j_bs in
      subst (λ t. TreeWork t w) (sym is) j_none

  pub merged_work : (g : GroupCode) (a b : Work) → IsMergedOf files home p.sources (Tree g) → RiseBy (TreeWork (group_view g)) a b → RiseBy (PermWork files p) a b
  merged_work g a b is r = rise_so (TreeWork (group_view g)) (PermWork files p) a b (λ w. tree_at g w is) r

  pub merged_within : (found : OneFound) (g : GroupCode) (a b : Work) → IsMergedOf files home p.sources (Tree g) → RiseWithin (TreeWork (group_view g)) a b → RiseWithin (PermWork files p) a b
  merged_within found g a b is r = within_so (TreeWork (group_view g)) (PermWork files p) a b (λ w. at_tree found g w is) r

  pub unmerged_work : (b : SourceBreak) (v : Work) → IsMergedOf files home p.sources (Broken b) → RiseBy (PermWork files p) v v
  unmerged_work b v (bs, ts, found, (rest, is)) =
      at_rest (PermWork files p) v (to_perm (work 0 0 0) (bs, ts, found, subst (λ (xs : List BreakAt). TreesWork xs ts (work 0 0 0)) (sym is) refl))
