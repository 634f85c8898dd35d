-- Values in parts, each by itself or by the name of another token, and lines that declare them.
use Rattle.std.specs.Prelude.{ℕ, List, [], ◌∷◌, map, flat_map}
use Rattle.css_out.specs.Piece.{Mark, Piece, mark, var}
use Rattle.css_out.specs.Reading.{Declared}

-- a part of a value: its marks, or a name in place of its marks
pub data Part : Type 0 where
  plain : List Mark → Part
  linked : List ℕ → List Mark → Part

-- what a line has of the part
abbrev pub shown_part : Part → List Piece
shown_part (plain ms) = map mark ms
shown_part (linked n ms) = var n ∷ []

-- the part's marks without references
abbrev pub own_part : Part → List Mark
own_part (plain ms) = ms
own_part (linked n ms) = ms

abbrev pub shown : List Part → List Piece
shown parts = flat_map shown_part parts

abbrev pub own : List Part → List Mark
own parts = flat_map own_part parts

-- a name and the parts of its value
pub record NamedParts : Type 0 where
  pub name : List ℕ
  pub parts : List Part

abbrev pub declaration : NamedParts → Declared
declaration e = record { name = e.name; pieces = shown e.parts }

abbrev pub own_value : NamedParts → List ℕ × List Mark
own_value e = (e.name, own e.parts)

-- a name and its value as a declaration without `var()`
abbrev pub as_declared : List ℕ × List Mark → Declared
as_declared v = record { name = v.0; pieces = map mark v.1 }
