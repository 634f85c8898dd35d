-- Under settings that a configuration can have, the path of a token has a name on each platform.
use Rattle.std.proofs.Common.{◌≡◌, ◌<◌, ℕ, Bool, true, false, List, [], ◌∷◌, length, map, refl}
use Rattle.std.specs.Prelude.{if◌then◌else◌, All}
use Rattle.std.proofs.lemmas.List.Elements.{All-head}
use Rattle.std.specs.List.{list_all}
use Rattle.std.specs.Str.{bytes_eq, IsUtf8}
use Rattle.name_path.specs.Names.{IsTokenPath, root_name}
use Rattle.transforms.specs.PlatformName.{joint, is_kept, spelled, without_root, joined, begins_with_digit, behind_mark, is_identifier, PathsAreNamed}
use Rattle.transforms.specs.inner.Joined.{joined_names, HasFirst}
use Rattle.transforms.specs.declared.platform.Platform.{Platform}
use Rattle.transforms.specs.declared.platform.Platform.TheVariants.{Css, Android, Swift}
use Rattle.transforms.proofs.Spelled.{spelled_is_some, first_in_join, root_is_some, joined_is_some, joined_is_kept, is_property_behind, is_identifier_behind, is_identifier_alone}

-- where there is a first name, it is of characters
abbrev IsFirstUtf8 : List (List ℕ) → Type 0
IsFirstUtf8 [] = Unit {0}
IsFirstUtf8 (name ∷ names) = IsUtf8 name

first_stays : (path : List (List ℕ)) → All IsUtf8 path → IsFirstUtf8 (without_root path)
first_stays [] utf8 = tt
first_stays (name ∷ []) utf8 = alone (bytes_eq name root_name)
  where
    alone : (b : Bool) → IsFirstUtf8 (if b then [] else name ∷ [])
    alone true = tt
    alone false = All-head IsUtf8 name [] utf8
first_stays (name ∷ next ∷ rest) utf8 = All-head IsUtf8 name (next ∷ rest) utf8

names_are_some : (p : Platform) (names : List (List ℕ)) → IsFirstUtf8 names → HasFirst names → 0 < length (joined_names p names)
names_are_some p [] utf8 some = root_is_some p
names_are_some p (name ∷ names) utf8 some = first_in_join (joint p) (spelled p name) (map (spelled p) names) (spelled_is_some p name utf8 some)

-- what is joined of the prefix and the path is not empty, and a name can hold each of its characters
is_some : (p : Platform) (prefix : List ℕ) (path : List (List ℕ)) → All IsUtf8 path → IsTokenPath path → 0 < length (joined p prefix path)
is_some p prefix path utf8 token = joined_is_some p prefix path (names_are_some p (without_root path) (first_stays path utf8)) token

marked : (p : Platform) → joint p ≡ 95 → (name : List ℕ) → 0 < length name → list_all (is_kept p) name ≡ true
    → (b : Bool) → begins_with_digit name ≡ b → is_identifier (if b then 95 ∷ name else name) ≡ true
marked p e name some kept true digit = is_identifier_behind p name e kept
marked p e name some kept false digit = is_identifier_alone p name e digit some kept

identifier : (p : Platform) → joint p ≡ 95 → (name : List ℕ) → 0 < length name → list_all (is_kept p) name ≡ true
    → is_identifier (behind_mark name) ≡ true
identifier p e name some kept = marked p e name some kept (begins_with_digit name) refl

pub paths_are_named : PathsAreNamed
paths_are_named Css settings path allowed utf8 token =
    is_property_behind (joined Css settings.prefix path) (is_some Css settings.prefix path utf8 token)
    (joined_is_kept Css settings.prefix path allowed.prefix)
paths_are_named Android settings path allowed utf8 token =
    identifier Android refl (joined Android settings.prefix path) (is_some Android settings.prefix path utf8 token)
    (joined_is_kept Android settings.prefix path allowed.prefix)
paths_are_named Swift settings path allowed utf8 token =
    identifier Swift refl (joined Swift settings.prefix path) (is_some Swift settings.prefix path utf8 token)
    (joined_is_kept Swift settings.prefix path allowed.prefix)
