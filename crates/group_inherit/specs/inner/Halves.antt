-- Where a key stands among the keys of entries.
use Rattle.std.specs.Prelude.{◌≡◌, ℕ, ◌<◌, ◌≤◌, List, [], ◌∷◌, length, take, drop, slice_index_or}
use Rattle.std.specs.declared.cmp.Ordering.{Ordering}
use Rattle.std.specs.declared.cmp.Ordering.TheVariants.{Less, Equal, Greater}

module _ {K X : Type 0} (R : K → K → Ordering) where
  -- the key is after all of these
  abbrev pub IsBehindAll : K → List (K × X) → Type 0
  IsBehindAll k [] = Unit {0}
  IsBehindAll k (e ∷ es) = (R k e.0 ≡ Greater) × IsBehindAll k es

  -- the key is before all of these
  abbrev pub IsBeforeAll : K → List (K × X) → Type 0
  IsBeforeAll k [] = Unit {0}
  IsBeforeAll k (e ∷ es) = (R k e.0 ≡ Less) × IsBeforeAll k es

  -- the key would stand at this index
  pub record IsGap (k : K) (es : List (K × X)) (i : ℕ) : Type 0 where
    pub within : i ≤ length es
    pub passed : IsBehindAll k (take i es)
    pub ahead : IsBeforeAll k (drop i es)

  -- the key stands at this index
  pub record IsPlace (k : K) (es : List (K × X)) (i : ℕ) : Type 0 where
    pub within : i < length es
    pub passed : IsBehindAll k (take i es)
    pub same : (d : K × X) → R k (slice_index_or es i d).0 ≡ Equal
