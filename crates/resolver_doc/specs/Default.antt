-- The default of an item of the order.
use Rattle.std.specs.Prelude.{ℕ, List, Option, None, option_and_then, slice_get}
use Rattle.resolver_doc.specs.Document.{ItemData, set_item, modifier_item}

-- that of a modifier, where it has one
abbrev pub default_in : ItemData → Option (List ℕ)
default_in (set_item sources) = None
default_in (modifier_item name contexts default) = default

-- .. of the item at a place, counted from 0
abbrev pub default_at : List ItemData → ℕ → Option (List ℕ)
default_at items i = option_and_then default_in (slice_get items i)
