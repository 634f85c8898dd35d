-- Whole sheets: the texts of tokens, with a comma between, in braces.
use Rattle.std.specs.Prelude.{◌≡◌, true, ℕ, List, [], map, codes, Option, Some, None}
use Rattle.std.specs.List.{AllByRecursion, list_all}
use Rattle.json_span.specs.Spelling.{are_bytes}
use Rattle.token_tree.specs.declared.mark.Mark.{Mark}
use Rattle.token_tree.specs.declared.mark.Mark.TheVariants.{No, Yes, Because}
use Rattle.type_rules.specs.declared.simple.Simple.{Simple}
use Rattle.type_rules.specs.declared.simple.Simple.TheVariants as simple
use Rattle.transforms.specs.Sheet.{FrameData, sheet_text}
use Rattle.composite_rules.specs.Sound.{IsTyped}
use Rattle.composite_rules.specs.declared.typed.Typed.{Typed}
use Rattle.composite_rules.specs.declared.typed.Typed.TheVariants as typed
use Rattle.json_out.specs.PlatformValue.{Json, Member}
use Rattle.json_out.specs.Properties.{ExtrasData, HaveValue, token_member}
use Rattle.json_out.specs.Reading.{IsMember, Reads}
use Rattle.json_out.specs.Spelling.{fragment_text}

-- what stands around the texts
abbrev pub json_frame : FrameData
json_frame = record { head = codes "{\n"; glue = codes ",\n"; last = codes "\n"; tail = codes "}\n" }

-- the families of a value
abbrev pub simple_families : Simple → List (List ℕ)
simple_families (simple.Color c) = []
simple_families (simple.Dimension s) = []
simple_families (simple.FontFamily families) = families
simple_families (simple.FontWeight w) = []
simple_families (simple.Duration t) = []
simple_families (simple.CubicBezier c) = []
simple_families (simple.Number d) = []

abbrev pub typed_families : Typed → List (List ℕ)
typed_families (typed.Simple s) = simple_families s
typed_families (typed.StrokeStyle s) = []
typed_families (typed.Border b) = []
typed_families (typed.Transition t) = []
typed_families (typed.Shadow items) = []
typed_families (typed.Gradient stops) = []
typed_families (typed.Typography t) = t.family

-- the reason of a mark
abbrev pub reason_of : Mark → List ℕ
reason_of No = []
reason_of Yes = []
reason_of (Because reason) = reason

abbrev pub text_or_none : Option (List ℕ) → List ℕ
text_or_none None = []
text_or_none (Some text) = text

-- all texts are of bytes, as texts in memory are
pub record AreBytes (path : List (List ℕ)) (v : Typed) (e : ExtrasData) : Type 0 where
  pub names : list_all are_bytes path ≡ true
  pub families : list_all are_bytes (typed_families v) ≡ true
  pub description : are_bytes (text_or_none e.description) ≡ true
  pub reason : are_bytes (reason_of e.mark) ≡ true

-- The text is read as the token's member, whatever its extensions have as their value.
abbrev pub IsReadAsMember : List (List ℕ) → Typed → ExtrasData → List ℕ → Type 0
IsReadAsMember path v e text = (w : Option Json) → HaveValue e.extensions w → IsMember text (token_member path v e w)

-- a token of a sheet: its path, its value, what stands beside that, and the value of its extensions
pub record Cell : Type 0 where
  pub path : List (List ℕ)
  pub typed : Typed
  pub extras : ExtrasData
  pub extensions : Option Json

abbrev pub cell_text : Cell → List ℕ
cell_text c = fragment_text c.path c.typed c.extras

abbrev pub cell_member : Cell → Member
cell_member c = token_member c.path c.typed c.extras c.extensions

-- a token whose value can be had, of texts in memory, with the value of its extensions
pub record IsJsonCell (c : Cell) : Type 0 where
  pub typed : IsTyped c.typed
  pub bytes : AreBytes c.path c.typed c.extras
  pub extensions : HaveValue c.extras.extensions c.extensions

-- tokens that make a sheet
abbrev pub IsSheet : List Cell → Type 0
IsSheet cells = AllByRecursion IsJsonCell cells

-- the bytes of the sheet, and its members
abbrev pub sheet_bytes : List Cell → List ℕ
sheet_bytes cells = sheet_text json_frame (map cell_text cells)

abbrev pub sheet_members : List Cell → List Member
sheet_members cells = map cell_member cells

-- the bytes are one object with these members, and read as nothing else
pub record Denotes (bytes : List ℕ) (members : List Member) : Type 0 where
  pub reads : Reads bytes members
  pub only : (others : List Member) → Reads bytes others → others ≡ members
