-- Names that are joined without a prefix.
use Rattle.std.specs.Prelude.{ℕ, ◌<◌, List, [], ◌∷◌, length, map}
use Rattle.std.specs.List.{join_with_byte}
use Rattle.transforms.specs.PlatformName.{joint, spelled, or_root}
use Rattle.transforms.specs.declared.platform.Platform.{Platform}

-- the names joined, `root` in place of no names
abbrev pub joined_names : Platform → List (List ℕ) → List ℕ
joined_names platform names = join_with_byte (joint platform) (map (spelled platform) (or_root names))

-- where there is a first name, it is not empty
abbrev pub HasFirst : List (List ℕ) → Type 0
HasFirst [] = Unit {0}
HasFirst (name ∷ names) = 0 < length name
