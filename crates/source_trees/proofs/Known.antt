-- Sources whose files are in use are known.
use Rattle.std.proofs.Common.{◌≡◌, ℕ, List, [], ◌∷◌, inl, inr, Option, Some, None, MatchOption, refl, subst}
use Rattle.std.specs.FinMap as finite
use Rattle.ring.specs.Lists.{In}
use Rattle.tk_io.specs.FilesData.{FilesData}
use Rattle.tk_io.specs.Order.{text_cmp}
use Rattle.file_plan.specs.InUse.{files_in_use}
use Rattle.file_plan.specs.Laws.{IsWanted, WantedAreInUse}
use Rattle.source_trees.specs.declared.shape.FileShape.{FileShape}
use Rattle.source_trees.specs.Laws.{ShapesKnown}
use Rattle.source_trees.specs.Merging.{IsKnown, AreKnown}
use Rattle.permutations.specs.Permutation as perm
use Rattle.permutations.specs.Permutation.{TokenSource, Permutation}
use Rattle.source_trees.specs.Trees.{IsShapeFor, IsShaped, AreShapesIn}

module _ (exact : WantedAreInUse) (files : FilesData) (perms : List Permutation) (shapes : finite.FinMap text_cmp FileShape) (are : AreShapesIn (files_in_use files perms) shapes) where
  -- of a file that is wanted, the shape is there where the file is
  shaped : (name : List ℕ) (s : Option FileShape) → finite.get shapes name ≡ s → IsShaped name (finite.get (files_in_use files perms) name) s
  shaped name s e = subst (λ (x : Option FileShape). IsShaped name (finite.get (files_in_use files perms) name) x) e (are name)

  no_file : (name : List ℕ) → IsWanted perms name → finite.get shapes name ≡ None → (o : Option (List ℕ)) → finite.get files name ≡ o → finite.get files name ≡ None
  no_file name wanted e None f = f
  no_file name wanted e (Some text) f =
      absurd (subst (λ (o : Option (List ℕ)). IsShaped name o None) ((exact files perms name text).all f wanted) (shaped name None e))

  with_shape : (name : List ℕ) (shape : FileShape) (o : Option (List ℕ)) → finite.get (files_in_use files perms) name ≡ o → IsShaped name o (Some shape)
      → (text : List ℕ) × (finite.get files name ≡ Some text) × IsShapeFor name text shape
  with_shape name shape None f none = absurd none
  with_shape name shape (Some text) f is = (text, (exact files perms name text).there f, is)

  file_known : (name : List ℕ) → IsWanted perms name → (s : Option FileShape) → finite.get shapes name ≡ s
      → MatchOption s (finite.get files name ≡ None) (λ shape. (text : List ℕ) × (finite.get files name ≡ Some text) × IsShapeFor name text shape)
  file_known name wanted None e = no_file name wanted e (finite.get files name) refl
  file_known name wanted (Some shape) e = with_shape name shape (finite.get (files_in_use files perms) name) refl (shaped name (Some shape) e)

  source_known : (p : Permutation) → In p perms → (s : TokenSource) → In s p.sources → IsKnown files shapes s
  source_known p j (perm.file name start end) i =
      file_known name (inr (record { perm = p; among = j; start = start; end = end; source = i })) (finite.get shapes name) refl
  source_known p j (perm.inline n) i = tt

  all_known : (ss : List TokenSource) → ((s : TokenSource) → In s ss → IsKnown files shapes s) → AreKnown files shapes ss
  all_known [] each = tt
  all_known (s ∷ ss) each = (each s (inl refl), all_known ss (λ t i. each t (inr i)))

pub shapes_known : WantedAreInUse → ShapesKnown
shapes_known exact files perms shapes are p j = all_known exact files perms shapes are p.sources (source_known exact files perms shapes are p j)
