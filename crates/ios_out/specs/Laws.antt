-- What holds of every text, every token and every file.
use Rattle.std.specs.Prelude.{◌≡◌, true, ℕ, ◌<◌, ◌^◌, List, ◌++◌, map, flat_map}
use Rattle.std.specs.List.{AllByRecursion}
use Rattle.transforms.specs.Config.{Settings}
use Rattle.transforms.specs.PlatformName.{is_identifier}
use Rattle.transforms.specs.Sheet.{sheet_text}
use Rattle.composite_rules.specs.Sound.{IsTyped}
use Rattle.composite_rules.specs.declared.typed.Typed.{Typed}
use Rattle.ring.specs.Lists.{AreApart}
use Rattle.ios_out.specs.Constant.{Values}
use Rattle.ios_out.specs.Reading.{Block, Reads}
use Rattle.ios_out.specs.Spelling.{swift_name, fragment_values, fragment_names, fragment_text}
use Rattle.ios_out.specs.Sheets.{Cell, swift_frame, sheet_bytes, sheet_values, IsSheet, Denotes}

-- what a text says alone, it says before any other
abbrev pub BlocksJoin : Type 0
BlocksJoin = (s t : List ℕ) (vs ws : Values) → Block s vs → Block t ws → Block (s ++ t) (vs ++ ws)

-- between its head and foot a file says what its texts say, one after another
abbrev pub TextsRead : Type 0
TextsRead = (texts : List (List ℕ × Values)) → AllByRecursion (λ t. Block t.0 t.1) texts
    → Reads (sheet_text swift_frame (map (λ t. t.0) texts)) (flat_map (λ t. t.1) texts)

-- bytes are one file at most
abbrev pub ReadOnce : Type 0
ReadOnce = (bytes : List ℕ) (vs ws : Values) → Reads bytes vs → Reads bytes ws → vs ≡ ws

-- a token's text, read alone, says its values and nothing else
abbrev pub FragmentsRead : Type 0
FragmentsRead = (settings : Settings) (path : List (List ℕ)) (v : Typed) → settings.rem_base < 2 ^ 8 → IsTyped v
    → is_identifier (swift_name settings path) ≡ true
    → Block (fragment_text settings path v) (fragment_values settings path v)

-- the names of one token are apart
abbrev pub OwnNamesApart : Type 0
OwnNamesApart = (settings : Settings) (path : List (List ℕ)) (v : Typed) → AreApart (fragment_names settings path v)

-- a file's bytes denote the values of its tokens
abbrev pub SheetsDenote : Type 0
SheetsDenote = (settings : Settings) (cells : List Cell) → IsSheet settings cells
    → Denotes (sheet_bytes settings cells) (sheet_values settings cells)
