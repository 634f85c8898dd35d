-- What holds of every text, every token and every sheet.
use Rattle.std.specs.Prelude.{◌≡◌, ℕ, List, map, Some, slice_range}
use Rattle.std.specs.List.{AllByRecursion}
use Rattle.grammar.specs.Grammar.{Derives, named}
use Rattle.dec_fix.specs.Spelling.{Spells}
use Rattle.json_span.specs.Grammar.{number}
use Rattle.json_span.specs.Predictive.{rules}
use Rattle.json_span.specs.Tree.{Placed, start_of, end_of}
use Rattle.json_span.specs.Reading.{Shows}
use Rattle.json_span.specs.Parts.{IsPart}
use Rattle.json_span.specs.Says.{plain_of}
use Rattle.name_path.specs.Names.{IsTokenPath}
use Rattle.name_path.specs.Reference.{path_text}
use Rattle.transforms.specs.Sheet.{sheet_text}
use Rattle.composite_rules.specs.Sound.{kind_of, IsTyped}
use Rattle.composite_rules.specs.declared.typed.Typed.{Typed}
use Rattle.json_out.specs.PlatformValue.{Member, typed_json}
use Rattle.json_out.specs.Reading.{number_of_text, IsMember, Reads}
use Rattle.json_out.specs.Properties.{ExtrasData, HaveValue}
use Rattle.json_out.specs.Spelling.{fragment_text}
use Rattle.json_out.specs.Sheets.{json_frame, AreBytes, IsReadAsMember, Cell, IsSheet, sheet_bytes, sheet_members, Denotes}

-- the number of a JSON number's text (RFC 8259 section 6) is the one that the text spells
abbrev pub NumbersAreSpelled : Type 0
NumbersAreSpelled = (text : List ℕ) → Derives rules (named number) text → Spells text (number_of_text text)

-- between its braces a sheet is an object of what its texts are, one after another
abbrev pub TextsRead : Type 0
TextsRead = (texts : List (List ℕ × Member)) → AllByRecursion (λ t. IsMember t.0 t.1) texts
    → Reads (sheet_text json_frame (map (λ t. t.0) texts)) (map (λ t. t.1) texts)

-- bytes are one object at most
abbrev pub ReadOnce : Type 0
ReadOnce = (bytes : List ℕ) (ms ns : List Member) → Reads bytes ms → Reads bytes ns → ms ≡ ns

-- a token's text is its member
abbrev pub FragmentsRead : Type 0
FragmentsRead = (path : List (List ℕ)) (v : Typed) (e : ExtrasData) → IsTyped v → AreBytes path v e
    → IsReadAsMember path v e (fragment_text path v e)

-- the slice of a part of a source has the value that the part has there
abbrev pub SlicesStay : Type 0
SlicesStay = (source : List ℕ) (root n : Placed) → Shows source root → IsPart n root
    → HaveValue (Some (slice_range source (start_of n) (end_of n))) (Some (plain_of number_of_text n))

-- tokens at two paths have members of two names
abbrev pub PathsApart : Type 0
PathsApart = (path other : List (List ℕ)) → IsTokenPath path → IsTokenPath other
    → path_text path ≡ path_text other → path ≡ other

-- what JSON is to have of a value gives the value back under its kind
abbrev pub ValuesDiffer : Type 0
ValuesDiffer = (v w : Typed) → kind_of v ≡ kind_of w → typed_json v ≡ typed_json w → v ≡ w

-- a sheet's bytes denote the members of its tokens
abbrev pub SheetsDenote : Type 0
SheetsDenote = (cells : List Cell) → IsSheet cells → Denotes (sheet_bytes cells) (sheet_members cells)
