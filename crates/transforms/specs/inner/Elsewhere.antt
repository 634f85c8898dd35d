-- What stands at names after some were added or taken away.
use Rattle.std.specs.Prelude.{◌≡◌, ℕ, false, cond, List, Some, None}
use Rattle.std.specs.BTreeMap.{is_at}
use Rattle.std.specs.FinMap as map
use Rattle.tk_io.specs.Order.{text_cmp}
use Rattle.transforms.specs.Clash.{Taken, is_among}

-- the name is there under the path, and all others stand as before
abbrev pub PutsName : Taken → Taken → List ℕ → List (List ℕ) → Type 0
PutsName before after name path = (q : List ℕ)
    → map.get after q ≡ cond (is_at (text_cmp name) q) (Some path) (map.get before q)

-- the name is gone, and all others stand as before
abbrev pub RemovesName : Taken → Taken → List ℕ → Type 0
RemovesName before after name = (q : List ℕ) → map.get after q ≡ cond (is_at (text_cmp name) q) None (map.get before q)

-- all but these names stand as before
abbrev pub SameElsewhere : Taken → Taken → List (List ℕ) → Type 0
SameElsewhere before after names = (name : List ℕ) → is_among name names ≡ false
    → map.get after name ≡ map.get before name

-- these names are gone, and all others stand as before
abbrev pub RemovesNames : Taken → Taken → List (List ℕ) → Type 0
RemovesNames before after names = (name : List ℕ)
    → map.get after name ≡ cond (is_among name names) None (map.get before name)
