-- The entries of a map by what its keys and its values are seen as.
use Rattle.std.specs.Prelude.{List, map}

-- each entry, with its key by one function and its value by another
abbrev pub entries_view : {K L X Y : Type 0} → (K → L) → (X → Y) → List (K × X) → List (L × Y)
entries_view key value entries = map (λ e. (key e.0, value e.1)) entries

-- each entry as its key and its value
abbrev pub keyed_view : {E L Y : Type 0} → (E → L) → (E → Y) → List E → List (L × Y)
keyed_view key value entries = map (λ e. (key e, value e)) entries
