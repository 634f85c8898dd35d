-- Objects among the sources of a plan stand in the file that names them.
use Rattle.std.proofs.Common.{ℕ, List, [], ◌∷◌, Option, inl, inr, refl, sym, subst}
use Rattle.std.specs.FinMap as finite
use Rattle.json_span.specs.Tree.{Placed}
use Rattle.ring.specs.Lists.{In}
use Rattle.token_tree.specs.Promise.{StandsIn}
use Rattle.permutations.specs.Permutation as perm
use Rattle.permutations.specs.Permutation.{TokenSource, Permutation}
use Rattle.file_plan.specs.InUse.{resolver_path}
use Rattle.file_plan.specs.Laws as plan
use Rattle.file_plan.specs.Laws.{InlinesStand}
use Rattle.file_plan.specs.Plan.{planned, Plans}
use Rattle.source_trees.specs.Merging.{AllInlineStand}
use Rattle.tk_io.specs.FilesData.{FilesData}
use Rattle.build_plain.specs.Breaks.{home_by, home_of}
use Rattle.build_plain.specs.inner.Making.{AllStand}

module _ (files : FilesData) (perms : List Permutation) (law : InlinesStand) (plans : Plans (finite.get files resolver_path) (planned perms)) where
  inline_stands : (n : Placed) → plan.IsPartOfText (finite.get files resolver_path) n → StandsIn (home_of files).text n
  inline_stands n s =
      subst (λ (o : Option (List ℕ)). StandsIn (home_by files o).text n) (sym s.there)
      (record { root = s.root; shown = s.shown; flawless = s.flawless; part = s.part })

  sources_stand : (p : Permutation) → In p perms → (rest : List TokenSource) → ((s : TokenSource) → In s rest → In s p.sources) → AllInlineStand (home_of files).text rest
  sources_stand p among [] into = tt
  sources_stand p among (perm.file name start end ∷ ss) into = (tt, sources_stand p among ss (λ s i. into s (inr i)))
  sources_stand p among (perm.inline n ∷ ss) into =
      (inline_stands n (law (finite.get files resolver_path) perms plans p among n (into (perm.inline n) (inl refl))), sources_stand p among ss (λ s i. into s (inr i)))

  stand_from : (rest : List Permutation) → ((p : Permutation) → In p rest → In p perms) → AllStand files rest
  stand_from [] into = tt
  stand_from (p ∷ ps) into = (sources_stand p (into p (inl refl)) p.sources (λ s i. i), stand_from ps (λ q i. into q (inr i)))

  pub all_stand : AllStand files perms
  all_stand = stand_from perms (λ p i. i)
