-- How a token is named on each platform, and which texts are names there.
use Rattle.std.specs.Prelude.{◌≡◌, ℕ, ◌==◌, ◌&&◌, ◌||◌, not, All, Bool, true, false, List, [], ◌∷◌, ◌++◌, codes, length, map, nat_eq, nat_lt, if◌then◌else◌}
use Rattle.std.specs.Char.{is_ascii_alphanumeric, is_ascii_digit}
use Rattle.std.specs.List.{flat_map, join_with_byte, list_all, starts_with}
use Rattle.std.specs.Str.{bytes_eq, chars, IsUtf8}
use Rattle.tk_io.specs.Characters.{hyphen, low_line}
use Rattle.name_path.specs.Names.{root_name, IsTokenPath}
use Rattle.transforms.specs.Config.{Settings, AreAllowed}
use Rattle.transforms.specs.Hexadecimal.{hex_number}
use Rattle.transforms.specs.declared.platform.Platform.{Platform}
use Rattle.transforms.specs.declared.platform.Platform.TheVariants.{Css, Android, Swift}

-- what joins the pieces of a name: '-' or '_'
abbrev pub joint : Platform → ℕ
joint Css = hyphen
joint Android = low_line
joint Swift = low_line

-- an ASCII letter, a digit, '_', and on CSS '-'
abbrev pub is_kept : Platform → ℕ → Bool
is_kept platform c = is_ascii_alphanumeric c || ((c == low_line) || (c == joint platform))

-- a character: one beyond ASCII is 'u' and its number
abbrev pub spelled_char : Platform → ℕ → List ℕ
spelled_char platform c =
    if nat_lt c 128 then (if is_kept platform c then c else joint platform) ∷ []
    else codes "u" ++ hex_number c

-- a name of a path, character by character
abbrev pub spelled : Platform → List ℕ → List ℕ
spelled platform name = flat_map (spelled_char platform) (chars name)

-- the names without a last `$root`
abbrev pub without_root : List (List ℕ) → List (List ℕ)
without_root [] = []
without_root (name ∷ []) = if bytes_eq name root_name then [] else name ∷ []
without_root (name ∷ next ∷ rest) = name ∷ without_root (next ∷ rest)

-- `root` in place of no names
abbrev pub or_root : List (List ℕ) → List (List ℕ)
or_root [] = codes "root" ∷ []
or_root (name ∷ names) = name ∷ names

-- a prefix that is not empty stands before the names
abbrev pub behind_prefix : List ℕ → List (List ℕ) → List (List ℕ)
behind_prefix [] names = names
behind_prefix (first ∷ rest) names = (first ∷ rest) ∷ names

-- the pieces of the token's name
abbrev pub pieces : Platform → List ℕ → List (List ℕ) → List (List ℕ)
pieces platform prefix path = behind_prefix prefix (map (spelled platform) (or_root (without_root path)))

abbrev pub joined : Platform → List ℕ → List (List ℕ) → List ℕ
joined platform prefix path = join_with_byte (joint platform) (pieces platform prefix path)

abbrev pub begins_with_digit : List ℕ → Bool
begins_with_digit [] = false
begins_with_digit (c ∷ cs) = is_ascii_digit c

-- '_' before a name that begins with a digit
abbrev pub behind_mark : List ℕ → List ℕ
behind_mark name = if begins_with_digit name then codes "_" ++ name else name

-- the name of the token at the path
abbrev pub name_on : Platform → List ℕ → List (List ℕ) → List ℕ
name_on Css prefix path = codes "--" ++ joined Css prefix path
name_on Android prefix path = behind_mark (joined Android prefix path)
name_on Swift prefix path = behind_mark (joined Swift prefix path)

-- a name of a custom property: `--` and one or more letters, digits, '_' and '-'
abbrev pub is_property : List ℕ → Bool
is_property name = starts_with nat_eq name (codes "--") && (nat_lt 2 (length name) && list_all (is_kept Css) name)

-- one or more letters, digits and '_', of which the first is no digit
abbrev pub is_identifier : List ℕ → Bool
is_identifier name = nat_lt 0 (length name) && (not (begins_with_digit name) && list_all (is_kept Android) name)

-- a name as the platform's language reads it
abbrev pub is_name_on : Platform → List ℕ → Bool
is_name_on Css name = is_property name
is_name_on Android name = is_identifier name
is_name_on Swift name = is_identifier name

-- a name stays one with an ending of characters that a name can hold
abbrev pub EndingsStay : Type 0
EndingsStay = (platform : Platform) (name ending : List ℕ) → is_name_on platform name ≡ true
    → list_all (is_kept platform) ending ≡ true → is_name_on platform (name ++ ending) ≡ true

-- the path of a token has a name on each platform
abbrev pub PathsAreNamed : Type 0
PathsAreNamed = (platform : Platform) (settings : Settings) (path : List (List ℕ)) → AreAllowed settings
    → All IsUtf8 path
    → IsTokenPath path → is_name_on platform (name_on platform settings.prefix path) ≡ true
