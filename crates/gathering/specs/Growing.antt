-- How the bytes that a sink holds grew.
use Rattle.std.specs.Prelude.{ℕ, List, Option}
use Rattle.std.specs.Io.KnownBytes.{Appends}

-- known bytes are those there were, and maybe more after them
abbrev pub Grew : Option (List ℕ) → Option (List ℕ) → Type 0
Grew old new = (more : List ℕ) × Appends old new more
