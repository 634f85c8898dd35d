-- Keeping what one permutation comes to, beside what is kept of others.
use Rattle.std.specs.Prelude.{◌≡◌, ℕ, List, map, Option, None}
use Rattle.std.specs.FinMap as finite
use Rattle.ring.specs.Lists.{In, AreApart}
use Rattle.tk_io.specs.FilesData.{FilesData}
use Rattle.permutations.specs.Permutation.{Permutation}
use Rattle.file_plan.specs.InUse.{files_in_use}
use Rattle.file_plan.specs.Trees.{AreTreesIn}
use Rattle.source_trees.specs.declared.merge.Merge.{Merge}
use Rattle.transforms.specs.Config.{Settings}
use Rattle.token_cells.specs.TokenCell.{TokenCell}
use Rattle.build_plain.specs.Parts.{AreEachKept}
use Rattle.build_plain.specs.declared.parts.Parts.{Parts}

-- nothing is kept under the name
pub record KeepsNothing (parts : Parts) (name : List ℕ) : Type 0 where
  pub merges : finite.get parts.merges name ≡ None
  pub cells : finite.get parts.cells name ≡ None

-- the same is kept under the name
pub record IsSameAt (before after : Parts) (name : List ℕ) : Type 0 where
  pub merges : finite.get after.merges name ≡ finite.get before.merges name
  pub cells : finite.get after.cells name ≡ finite.get before.cells name

-- so much is kept under the name, and elsewhere what was kept before
pub record Keeps (name : List ℕ) (m : Option Merge) (cs : Option (List TokenCell)) (before after : Parts) : Type 0 where
  pub trees : after.trees ≡ before.trees
  pub merges : finite.get after.merges name ≡ m
  pub cells : finite.get after.cells name ≡ cs
  pub others : (other : List ℕ) → (other ≡ name → ⊥) → IsSameAt before after other

abbrev pub names : List Permutation → List (List ℕ)
names ps = map (λ (p : Permutation). p.name) ps

-- what is kept of all permutations but the rest, which have names that nothing is kept under
pub record Keeping (settings : Settings) (files : FilesData) (all rest : List Permutation) (now : Parts) : Type 0 where
  pub trees : AreTreesIn (files_in_use files all) now.trees
  pub apart : AreApart (names rest)
  pub bare : (name : List ℕ) → In name (names rest) → KeepsNothing now name
  pub no_other : (name : List ℕ) → (In name (names all) → ⊥) → (In name (names rest) → ⊥) × KeepsNothing now name
  pub each : (out : Parts) → ((name : List ℕ) → (In name (names rest) → ⊥) → IsSameAt now out name)
      → AreEachKept settings files rest out → AreEachKept settings files all out
