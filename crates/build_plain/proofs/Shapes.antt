-- The shapes of the files in use: the sources of each permutation are known by them.
use Rattle.std.proofs.Common.{List, [], ◌∷◌, inl, inr, refl}
use Rattle.std.specs.FinMap as finite
use Rattle.ring.specs.Lists.{In}
use Rattle.tk_io.specs.FilesData.{FilesData}
use Rattle.tk_io.specs.Order.{text_cmp}
use Rattle.permutations.specs.Permutation.{Permutation}
use Rattle.file_plan.specs.InUse.{resolver_path, resolver_in, files_in_use, AreAmong}
use Rattle.file_plan.proofs.FilesInUse.{among_none, among_named}
use Rattle.source_trees.specs.Laws.{ShapesKnown}
use Rattle.source_trees.specs.Trees.{AreShapesIn}
use Rattle.source_trees.specs.declared.shape.FileShape.{FileShape}
use Rattle.build_plain.specs.inner.Making.{AllKnown}

-- the resolver document is one of the files
pub resolver_among : (files : FilesData) → AreAmong (resolver_in files) files
resolver_among files = among_named files finite.empty resolver_path (among_none files)

pub all_known : (law : ShapesKnown) (files : FilesData) (perms : List Permutation) (shapes : finite.FinMap text_cmp FileShape) → AreShapesIn (files_in_use files perms) shapes
    → AllKnown files shapes perms
all_known law files perms shapes are = known_from perms (λ p i. i)
  where
    known_from : (rest : List Permutation) → ((p : Permutation) → In p rest → In p perms) → AllKnown files shapes rest
    known_from [] into = tt
    known_from (p ∷ ps) into = (law files perms shapes are p (into p (inl refl)), known_from ps (λ q i. into q (inr i)))
