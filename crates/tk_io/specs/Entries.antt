-- What stands at each key of a map after an entry was put there or taken away.
use Rattle.std.specs.Prelude.{◌≡◌, cond, Some, None}
use Rattle.std.specs.declared.cmp.Ordering.{Ordering}
use Rattle.std.specs.BTreeMap.{is_at}
use Rattle.std.specs.FinMap as map

-- the value stands at the key, and at each other key what stood there
abbrev pub PutsEntry : {K V : Type 0} {R : K → K → Ordering} → map.FinMap R V → map.FinMap R V → K → V → Type 0
PutsEntry {K = K} {R = R} old new key value = (q : K) → map.get new q ≡ cond (is_at (R key) q) (Some value) (map.get old q)

-- nothing stands at the key, and at each other key what stood there
abbrev pub RemovesEntry : {K V : Type 0} {R : K → K → Ordering} → map.FinMap R V → map.FinMap R V → K → Type 0
RemovesEntry {K = K} {R = R} old new key = (q : K) → map.get new q ≡ cond (is_at (R key) q) None (map.get old q)
