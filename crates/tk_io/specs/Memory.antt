-- What the source and the sink in memory are seen as, and which writes fail.
use Rattle.std.specs.Prelude.{◌≡◌, ◌<◌, ◌⊎◌, ℕ, List, Contains}

-- a source: what it has left, which calls fail, and how many calls and faults there were
pub record SourceInMemory : Type 0 where
  pub left : List ℕ
  pub fails : List ℕ
  pub calls : ℕ
  pub faults : ℕ

-- a sink: what was written, how many bytes fit in all and how many in a call, which calls fail, and how many there were
pub record SinkInMemory : Type 0 where
  pub written : List ℕ
  pub room : ℕ
  pub most : ℕ
  pub fails : List ℕ
  pub calls : ℕ
  pub faults : ℕ

-- a write fails where its number is listed, or where the piece is not empty and nothing is free
abbrev pub MustFail : List ℕ → ℕ → ℕ → ℕ → Type 0
MustFail fails number piece free = Contains fails number ⊎ ((0 < piece) × (free ≡ 0))
