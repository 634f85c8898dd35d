-- What holds of every text, every token and every sheet.
use Rattle.std.specs.Prelude.{◌≡◌, true, false, ℕ, List, ◌++◌, map, flat_map}
use Rattle.std.specs.List.{AllByRecursion}
use Rattle.name_path.specs.declared.link.Link.{Link}
use Rattle.transforms.specs.Config.{Settings}
use Rattle.transforms.specs.PlatformName.{is_property}
use Rattle.transforms.specs.Sheet.{sheet_text}
use Rattle.composite_rules.specs.Sound.{kind_of, IsTyped}
use Rattle.composite_rules.specs.declared.typed.Typed.{Typed}
use Rattle.ring.specs.Lists.{AreApart, Each}
use Rattle.css_out.specs.Piece.{value_names}
use Rattle.css_out.specs.PlatformValue.{can_spell, css_values}
use Rattle.css_out.specs.Reading.{Declared, Block, Reads}
use Rattle.css_out.specs.Rounds.{Denotes}
use Rattle.css_out.specs.Parts.{declaration, own_value, as_declared}
use Rattle.css_out.specs.Fragment.{css_name, entries}
use Rattle.css_out.specs.Spelling.{body_text, fragment_lines, fragment_names}
use Rattle.css_out.specs.Sources.{TargetsAreNamed, ComesFrom, HasRoom}
use Rattle.css_out.specs.Sheets.{Cell, css_frame, cell_entries, sheet_bytes, sheet_values, IsSheet, Refers}
use Rattle.css_out.specs.WithoutHex.{without_hex}

-- what a text declares alone, it declares before any other
abbrev pub BlocksJoin : Type 0
BlocksJoin = (s t : List ℕ) (ds es : List Declared) → Block s ds → Block t es → Block (s ++ t) (ds ++ es)

-- between its head and foot a sheet declares what its texts declare, one after another
abbrev pub TextsRead : Type 0
TextsRead = (texts : List (List ℕ × List Declared)) → AllByRecursion (λ t. Block t.0 t.1) texts
    → Reads (sheet_text css_frame (map (λ t. t.0) texts)) (flat_map (λ t. t.1) texts)

-- bytes are one sheet at most
abbrev pub ReadOnce : Type 0
ReadOnce = (bytes : List ℕ) (ds es : List Declared) → Reads bytes ds → Reads bytes es → ds ≡ es

-- without references the lines of a token have its values
abbrev pub OwnValues : Type 0
OwnValues = (prefix name : List ℕ) (links : List Link) (v : Typed)
    → map own_value (entries prefix links name v) ≡ css_values name v

-- the lines of a token declare its names, and nothing else
abbrev pub LinesAreNamed : Type 0
LinesAreNamed = (settings : Settings) (path : List (List ℕ)) (links : List Link) (v : Typed)
    → map (λ d. d.name) (fragment_lines settings path links v) ≡ fragment_names settings path v

-- the names of one token are apart
abbrev pub OwnNamesApart : Type 0
OwnNamesApart = (name : List ℕ) (v : Typed) → AreApart (value_names (css_values name v))

-- a token's text, read alone, declares its lines
abbrev pub FragmentsRead : Type 0
FragmentsRead = (prefix name : List ℕ) (links : List Link) (v : Typed) → IsTyped v → is_property name ≡ true
    → TargetsAreNamed prefix links
    → Block (body_text name (map declaration (entries prefix links name v))) (map declaration (entries prefix links name v))

-- each part that is spelled by a name comes from a link
abbrev pub NamesComeFromLinks : Type 0
NamesComeFromLinks = (prefix name : List ℕ) (links : List Link) (v : Typed) → HasRoom v
    → AllByRecursion (λ e. AllByRecursion (ComesFrom prefix links v) e.parts) (entries prefix links name v)

-- where references are not spelled as such, the lines of a token are its values, and no `var()` stands in them
abbrev pub NoReferences : Type 0
NoReferences = (settings : Settings) (path : List (List ℕ)) (links : List Link) (v : Typed)
    → settings.references ≡ false
    → fragment_lines settings path links v ≡ map as_declared (css_values (css_name settings.prefix path) v)

-- what CSS is to have of a value gives the value back under its kind, but for `hex`
abbrev pub ValuesDiffer : Type 0
ValuesDiffer = (name : List ℕ) (v w : Typed) → IsTyped v → IsTyped w → kind_of v ≡ kind_of w → can_spell v ≡ true
    → css_values name v ≡ css_values name w → without_hex v ≡ without_hex w

-- a sheet's bytes denote the values of its tokens
abbrev pub SheetsDenote : Type 0
SheetsDenote = (settings : Settings) (cells : List Cell) → IsSheet settings cells
    → Denotes (sheet_bytes settings cells) (sheet_values settings cells)

-- and each name that stands in it for a part is that of a token which has this part as its value
abbrev pub ReferencesDenote : Type 0
ReferencesDenote = (settings : Settings) (cells : List Cell) → IsSheet settings cells
    → Each cells (λ c. AllByRecursion (λ e. AllByRecursion (Refers settings cells c) e.parts) (cell_entries settings c))
