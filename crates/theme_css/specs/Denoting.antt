-- What the names of a page denote: the cascade is taken first, and what it gives is read as a sheet's declarations are read.
use Rattle.std.specs.Prelude.{◌≡◌, ℕ, List, [], ◌∷◌, map, Option, Some, None}
use Rattle.permutations.specs.Name.{Choice}
use Rattle.css_out.specs.Piece.{Mark, Piece, mark}
use Rattle.css_out.specs.Reading.{Block as Reads}
use Rattle.css_out.specs.Rounds.{HasValue, most_links, rounds}
use Rattle.theme_css.specs.Cascade.{Block, cascade}
use Rattle.theme_css.specs.Sheet.{line_text}

-- the line of a name and a value, read alone, declares these pieces for the name
abbrev pub HasPieces : List ℕ → List ℕ → List Piece → Type 0
HasPieces name value pieces =
    Reads (line_text (record { name = name; value = value })) (record { name = name; pieces = pieces } ∷ [])

-- a value reads as these pieces, and none as none
abbrev pub ReadsAs : List ℕ → Option (List ℕ) → Option (List Piece) → Type 0
ReadsAs name None None = Unit {0}
ReadsAs name None (Some pieces) = ⊥
ReadsAs name (Some value) None = ⊥
ReadsAs name (Some value) (Some pieces) = HasPieces name value pieces

-- on a page of these attributes the name has this value: what stands after the rounds, where no `var` is left
pub record HasValueOn (blocks : List Block) (page : List Choice) (name : List ℕ) (value : List Mark) : Type 0 where
  pub pieces : List ℕ → Option (List Piece)
  pub read : (n : List ℕ) → ReadsAs n (cascade blocks page n) (pieces n)
  pub start : List Piece
  pub found : pieces name ≡ Some start
  pub after : rounds most_links pieces start ≡ map mark value

-- a sheet of one block gives a name this value exactly where the page does
pub record HaveOneValue (bytes : List ℕ) (blocks : List Block) (page : List Choice) (name : List ℕ) (value : List Mark) : Type 0 where
  pub given : HasValue bytes name value → HasValueOn blocks page name value
  pub only : HasValueOn blocks page name value → HasValue bytes name value
