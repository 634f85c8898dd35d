-- How a style sheet is read line by line, and how one of several blocks is written.
use Rattle.std.specs.Prelude.{◌≡◌, ℕ, ◌==◌, Bool, true, false, List, [], ◌∷◌, ◌++◌, codes, filter, fold, if◌then◌else◌}
use Rattle.std.specs.List.{flat_map, list_all}
use Rattle.std.specs.Str.{bytes_eq}
use Rattle.tk_io.specs.Characters.{asterisk, backslash, quote, semicolon, solidus}
use Rattle.transforms.specs.Quoted.{escaped_character}
use Rattle.permutations.specs.Name.{Choice}
use Rattle.css_out.specs.Reading.{foot, head, in_name}
use Rattle.css_out.specs.Spelling.{omitted_text}
use Rattle.theme_css.specs.Cascade.{Block, Declaration, initial}
use Rattle.theme_css.specs.declared.own.Standing.{Standing}
use Rattle.theme_css.specs.declared.own.Standing.TheVariants.{Plain, Slashed, Quoted, Escaped, Over}

-- Of a sheet with one block.

-- what stands behind a byte that stands in no string
abbrev pub behind_plain : ℕ → Standing
behind_plain c = if c == semicolon then Over else (if c == quote then Quoted else (if c == solidus then Slashed else Plain))

-- Where a byte of a value stands: in no string; there, behind a `/`; in a string; behind a `\` there; or behind the value,
-- which a `;` ends and a comment would.
abbrev pub next_standing : Standing → ℕ → Standing
next_standing Plain c = behind_plain c
next_standing Slashed c = if c == asterisk then Over else behind_plain c
next_standing Quoted c = if c == quote then Plain else (if c == backslash then Escaped else Quoted)
next_standing Escaped c = Quoted
next_standing Over c = Over

abbrev pub is_over : Standing → Bool
is_over Plain = false
is_over Slashed = false
is_over Quoted = false
is_over Escaped = false
is_over Over = true

-- in the value, and in no string
abbrev pub is_plain : Standing → Bool
is_plain Plain = true
is_plain Slashed = true
is_plain Quoted = false
is_plain Escaped = false
is_plain Over = false

-- each string of a value is closed, and no `;` and no comment stands outside of them; `initial` is none
pub record IsValue (value : List ℕ) : Type 0 where
  pub closed : is_plain (fold next_standing Plain value) ≡ true
  pub some : bytes_eq value initial ≡ false

abbrev pub line_text : Declaration → List ℕ
line_text d = codes "  " ++ (d.name ++ (codes ": " ++ (d.value ++ codes ";\n")))

pub record IsLine (d : Declaration) : Type 0 where
  pub name : list_all in_name d.name ≡ true
  pub value : IsValue d.value

-- what lines declare: a declaration each, and none where a token is omitted
pub data Lines : List ℕ → List Declaration → Type 0 where
  no_lines : Lines [] []
  declares : (d : Declaration) (rest : List ℕ) (ds : List Declaration) → IsLine d → Lines rest ds
      → Lines (line_text d ++ rest) (d ∷ ds)
  omits : (name rest : List ℕ) (ds : List Declaration) → list_all in_name name ≡ true → Lines rest ds
      → Lines (omitted_text name ++ rest) ds

-- what a permutation's own sheet declares
pub record Declares (bytes : List ℕ) (ds : List Declaration) : Type 0 where
  pub inside : List ℕ
  pub frame : bytes ≡ head ++ (inside ++ foot)
  pub lines : Lines inside ds

-- Of a sheet with several blocks.

abbrev pub attribute_text : Choice → List ℕ
attribute_text c =
    codes "[data-" ++ (c.modifier ++ (codes "=\"" ++ (flat_map escaped_character c.context ++ codes "\"]")))

abbrev pub selector_text : List Choice → List ℕ
selector_text asked = codes ":root" ++ flat_map attribute_text asked

abbrev pub block_text : Block → List ℕ
block_text b = selector_text b.attributes ++ (codes " {\n" ++ (flat_map line_text b.declarations ++ foot))

abbrev pub are_some : List Declaration → Bool
are_some [] = false
are_some (d ∷ ds) = true

-- a block without declarations is not written, but for the first
abbrev pub written : List Block → List Block
written [] = []
written (b ∷ bs) = b ∷ filter (λ each. are_some each.declarations) bs

abbrev pub sheet_text : List Block → List ℕ
sheet_text bs = flat_map block_text (written bs)

-- the text of a block that is not the first
abbrev pub later_text : Block → List ℕ
later_text b = if are_some b.declarations then block_text b else []
