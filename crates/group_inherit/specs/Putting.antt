-- Entries put into a finite map, one after the other.
use Rattle.std.specs.Prelude.{List, [], ◌∷◌}
use Rattle.std.specs.declared.cmp.Ordering.{Ordering}
use Rattle.std.specs.FinMap as map

-- where two have one key, the later one stands
abbrev pub put_all : {K X : Type 0} {R : K → K → Ordering} → List (K × X) → map.FinMap R X → map.FinMap R X
put_all [] m = m
put_all (e ∷ es) m = put_all es (map.insert m e.0 e.1)
