-- A manifest: which outputs may stand in a store.
use Rattle.std.specs.Prelude.{◌≡◌, ℕ, Bool, List, [], ◌∷◌, ◌++◌, ⊤}
use Rattle.std.specs.List.{AllByRecursion, flat_map, list_any}
use Rattle.std.specs.Ordering.{eq_by_cmp}
use Rattle.std.specs.declared.cmp.Ordering.TheVariants.{Less}
use Rattle.tk_io.specs.Characters.{newline}
use Rattle.tk_io.specs.Order.{text_cmp}
use Rattle.out_store.specs.Paths.{IsOutputPath}

-- the path and a newline
abbrev pub path_line : List ℕ → List ℕ
path_line path = path ++ newline ∷ []

-- a line for each path
abbrev pub manifest_text : List (List ℕ) → List ℕ
manifest_text paths = flat_map path_line paths

-- each path is greater in byte order than the one before it, and the first than this one
abbrev pub Rises : List ℕ → List (List ℕ) → Type 0
Rises last [] = ⊤
Rises last (path ∷ paths) = (text_cmp last path ≡ Less) × Rises path paths

-- the text has a line for each of these paths, all of them paths of outputs, in rising order from a path on
pub record IsListFrom (last text : List ℕ) (paths : List (List ℕ)) : Type 0 where
  pub lines : text ≡ manifest_text paths
  pub each : AllByRecursion IsOutputPath paths
  pub rise : Rises last paths

-- the text is the manifest of these paths
abbrev pub IsManifest : List ℕ → List (List ℕ) → Type 0
IsManifest text paths = IsListFrom [] text paths

-- the path is one of these
abbrev pub is_listed : List (List ℕ) → List ℕ → Bool
is_listed paths path = list_any (eq_by_cmp text_cmp path) paths
