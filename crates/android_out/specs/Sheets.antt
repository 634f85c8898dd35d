-- Whole files: the texts of tokens, one after another in the frame.
use Rattle.std.specs.Prelude.{◌≡◌, true, ℕ, ◌<◌, ◌^◌, List, map, flat_map, AllPairs}
use Rattle.name_path.specs.Names.{IsTokenPath}
use Rattle.transforms.specs.Clash.{NamedToken, ShareNoName}
use Rattle.transforms.specs.Config.{Settings}
use Rattle.transforms.specs.PlatformName.{is_identifier}
use Rattle.transforms.specs.Sheet.{FrameData, plain_frame, sheet_text}
use Rattle.composite_rules.specs.Sound.{IsTyped}
use Rattle.composite_rules.specs.declared.typed.Typed.{Typed}
use Rattle.ring.specs.Lists.{AreApart, Each}
use Rattle.android_out.specs.Element.{Values, value_names}
use Rattle.android_out.specs.Reading.{head, foot, Reads}
use Rattle.android_out.specs.Spelling.{android_name, fragment_values, fragment_names, fragment_text}

-- the path, as one that a token can have, has a name there
abbrev pub IsNamed : Settings → List (List ℕ) → Type 0
IsNamed settings path = IsTokenPath path → is_identifier (android_name settings path) ≡ true

-- a token of a file: its path and its value
pub record Cell : Type 0 where
  pub path : List (List ℕ)
  pub typed : Typed

-- what stands around the texts
abbrev pub android_frame : FrameData
android_frame = plain_frame head foot

module _ (settings : Settings) where
  abbrev pub cell_text : Cell → List ℕ
  cell_text c = fragment_text settings c.path c.typed

  abbrev pub cell_values : Cell → Values
  cell_values c = fragment_values settings c.path c.typed

  abbrev pub cell_names : Cell → NamedToken
  cell_names c = record { path = c.path; names = fragment_names settings c.path c.typed }

  -- the bytes of the file, and what its names are to have
  abbrev pub sheet_bytes : List Cell → List ℕ
  sheet_bytes cells = sheet_text android_frame (map cell_text cells)

  abbrev pub sheet_values : List Cell → Values
  sheet_values cells = flat_map cell_values cells

-- Tokens that make a file: their values can be had, their names are names there, and no two of them have a name in common.
pub record IsSheet (settings : Settings) (cells : List Cell) : Type 0 where
  pub base : settings.rem_base < 2 ^ 8
  pub typed : Each cells (λ c. IsTyped c.typed)
  pub named : Each cells (λ c. is_identifier (android_name settings c.path) ≡ true)
  pub apart : AllPairs ShareNoName (map (cell_names settings) cells)

-- the bytes are a file with exactly these names, each of which stands there once and has its value
pub record Denotes (bytes : List ℕ) (values : Values) : Type 0 where
  pub reads : Reads bytes values
  pub apart : AreApart (value_names values)
