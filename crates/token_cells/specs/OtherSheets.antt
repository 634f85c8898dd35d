-- What the files of Android, Swift and JSON are made of, and what they denote.
use Rattle.std.specs.Prelude.{◌≡◌, ℕ, ◌<◌, ◌^◌, List, [], Some}
use Rattle.std.specs.FinMap as finite
use Rattle.std.specs.List.{AllZip, zip}
use Rattle.name_path.specs.Names.{IsTokenPath}
use Rattle.name_path.specs.declared.link.Link.{Link}
use Rattle.group_inherit.specs.Flattening.{Flattened, TokenAt}
use Rattle.alias_ref.specs.Laws.{Flat}
use Rattle.alias_ref.specs.Unchanged.{AreDefinitions}
use Rattle.transforms.specs.Config.{Settings}
use Rattle.composite_rules.specs.declared.typed.Typed.{Typed}
use Rattle.ring.specs.Lists.{In}
use Rattle.android_out.specs.Sheets as android
use Rattle.ios_out.specs.Sheets as swift
use Rattle.json_out.specs.Properties.{ExtrasData, HaveValue}
use Rattle.json_out.specs.Sheets as json
use Rattle.token_cells.specs.Cell.{TokenPath, IsValueOf, AreCells, extras_of}
use Rattle.token_cells.specs.Breaks.{token_reports}
use Rattle.token_cells.specs.Sheets.{sheet_for}
use Rattle.token_cells.specs.declared.format.Format.TheVariants.{Android, Swift, Json}
use Rattle.token_cells.specs.TokenCell.{TokenCell}

-- the token's whole value means this, read under its kind
abbrev pub IsTypedOf : Flat → Settings → TokenPath → Typed → Type 0
IsTypedOf flat settings path typed = (links : List Link) × IsValueOf flat settings path typed links

-- The bytes are read as a resource file, or a file of Swift constants, whose names have exactly the values that the
-- tokens of the flat tree have.
pub record AndroidDenotes (flat : Flat) (settings : Settings) (bytes : List ℕ) : Type 0 where
  pub tokens : List android.Cell
  pub values : AllZip (λ token c. (c.path ≡ token.0) × IsTypedOf flat settings token.0 c.typed) (finite.entries flat) tokens
  pub denotes : android.Denotes bytes (android.sheet_values settings tokens)

pub record SwiftDenotes (flat : Flat) (settings : Settings) (bytes : List ℕ) : Type 0 where
  pub tokens : List swift.Cell
  pub values : AllZip (λ token c. (c.path ≡ token.0) × IsTypedOf flat settings token.0 c.typed) (finite.entries flat) tokens
  pub denotes : swift.Denotes bytes (swift.sheet_values settings tokens)

-- what is said of the token that stands at the path
abbrev pub HasExtras : Flat → TokenPath → ExtrasData → Type 0
HasExtras flat path extras = (f : Flattened) × (finite.get flat path ≡ Some f) × (extras ≡ extras_of f)

-- what the JSON file has of a token: its value, what is said of it, and its extensions as the value of their slice
pub record IsJsonFor (flat : Flat) (settings : Settings) (path : TokenPath) (c : json.Cell) : Type 0 where
  pub at : c.path ≡ path
  pub value : IsTypedOf flat settings path c.typed
  pub extras : HasExtras flat path c.extras
  pub extensions : HaveValue c.extras.extensions c.extensions

-- The bytes are read as one object, whose members are those of the tokens: the type, the value, and what else is said
-- of them.
pub record JsonDenotes (flat : Flat) (settings : Settings) (bytes : List ℕ) : Type 0 where
  pub tokens : List json.Cell
  pub values : AllZip (λ token c. IsJsonFor flat settings token.0 c) (finite.entries flat) tokens
  pub denotes : json.Denotes bytes (json.sheet_members tokens)

-- no token has a break, and no two of them have a name in common
abbrev pub AreUnbroken : Flat → Settings → List TokenCell → Type 0
AreUnbroken flat settings cells =
    AreCells flat settings (finite.entries flat) cells × (token_reports flat (zip (finite.entries flat) cells) ≡ [])

-- the paths are those that tokens can have
abbrev pub AreTokenPaths : Flat → Type 0
AreTokenPaths flat = (token : TokenAt) → In token (finite.entries flat) → IsTokenPath token.0

-- Cells without a break give files that denote their tokens' values.
abbrev pub AndroidCellsDenote : Type 0
AndroidCellsDenote = (flat : Flat) (settings : Settings) (cells : List TokenCell) → settings.rem_base < 2 ^ 8
    → AreUnbroken flat settings cells → AreTokenPaths flat → AndroidDenotes flat settings (sheet_for Android cells)

abbrev pub SwiftCellsDenote : Type 0
SwiftCellsDenote = (flat : Flat) (settings : Settings) (cells : List TokenCell) → settings.rem_base < 2 ^ 8
    → AreUnbroken flat settings cells → AreTokenPaths flat → SwiftDenotes flat settings (sheet_for Swift cells)

abbrev pub JsonCellsDenote : Type 0
JsonCellsDenote = (flat : Flat) (settings : Settings) (cells : List TokenCell) → AreUnbroken flat settings cells
    → AreDefinitions flat → JsonDenotes flat settings (sheet_for Json cells)
