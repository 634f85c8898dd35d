-- Where texts stand in a buffer that grows at its end.
use Rattle.std.specs.Prelude.{◌≡◌, List, ℕ, ◌++◌, slice_range}
use Rattle.tk_io.specs.Writing.{Extends}
use Rattle.transforms.specs.declared.extent.Extent.{Extent}

-- the text that stands there
abbrev pub text_in : List ℕ → Extent → List ℕ
text_in bytes extent = slice_range bytes extent.start extent.end

-- the bytes grew, and the text stands there, whatever is added behind
pub record EndsWith (before text : List ℕ) (extent : Extent) (after : List ℕ) : Type 0 where
  pub grows : Extends before after
  pub stands : (behind : List ℕ) → text_in (after ++ behind) extent ≡ text
