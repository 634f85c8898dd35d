-- The names of an object in an order in which equal ones are neighbours, and the least place of a name that equals the one before it.
use Rattle.std.specs.Prelude.{◌≡◌, ℕ, ◌+◌, ◌*◌, ◌%◌, ◌^◌, List, [], ◌∷◌, Bool, Option, Some, None, option_map, cond, nat_le, length, fold}
use Rattle.std.specs.List.Sorted.{IsSortedBy, IsStableBy}
use Rattle.std.specs.Ordering.{is_lt}
use Rattle.std.specs.Str.{bytes_eq}
use Rattle.tk_io.specs.Order.{text_cmp}
use Rattle.json_span.specs.Tree.{Entry}
use Rattle.json_span.specs.inner.Names.{AreNamesOf, names_flaw}
use Rattle.json_span.specs.inner.Building.{flaw_view}
use Rattle.json_span.specs.declared.flaw.Flaw as declared
use Rattle.json_span.specs.declared.names.NameSpan.{NameSpan}
use Rattle.json_span.specs.declared.names.PlacedName.{PlacedName}

-- the prime of the hash FNV-1 of 64 bits
abbrev pub key_factor : ℕ
key_factor = 1099511628211

abbrev pub next_key : ℕ → ℕ → ℕ
next_key key byte = ((key * key_factor) % 2 ^ 64 + byte) % 2 ^ 64

-- a number that equal names share, and by which most others differ
unfoldable pub key_of : List ℕ → ℕ
key_of name = fold next_key 0 name

-- a name behind its key
abbrev pub word_of : List ℕ → List ℕ
word_of name = key_of name ∷ name

abbrev pub word : PlacedName → List ℕ
word x = x.key ∷ x.name

abbrev pub named_at : Entry → ℕ → PlacedName
named_at e i = record { key = key_of e.name; name = e.name; place = i }

-- the names of members with their places, from this one on
abbrev pub placed_from : ℕ → List Entry → List PlacedName
placed_from i [] = []
placed_from i (e ∷ es) = named_at e i ∷ placed_from (i + 1) es

abbrev pub is_below : PlacedName → PlacedName → Bool
is_below x y = is_lt (text_cmp (word x) (word y))

-- the names of the members by their keys, then by their bytes, and equal ones as they stand
abbrev pub AreSorted : List Entry → List PlacedName → Type 0
AreSorted es sorted = IsSortedBy is_below sorted × IsStableBy is_below (placed_from 0 es) sorted

abbrev pub least : Option ℕ → Option ℕ → Option ℕ
least None b = b
least (Some p) None = Some p
least (Some p) (Some q) = cond (nat_le p q) (Some p) (Some q)

-- the least place of a name that equals the one before it
abbrev pub again_behind : PlacedName → List PlacedName → Option ℕ
again_behind x [] = None
again_behind x (y ∷ ys) = least (cond (bytes_eq (word x) (word y)) (Some y.place) None) (again_behind y ys)

abbrev pub again_in : List PlacedName → Option ℕ
again_in [] = None
again_in (x ∷ ys) = again_behind x ys

-- the next name stands behind the name, where a longer one stands behind a shorter one
abbrev pub rises : List ℕ → List ℕ → Bool
rises name next = is_lt (text_cmp (length name ∷ name) (length next ∷ next))

-- The names of an object as a builder keeps them: in their order, and with the flaw that is reported of them.
abbrev pub SortsNames : List ℕ → List NameSpan → List PlacedName → Type 0
SortsNames text names sorted = (es : List Entry) → AreNamesOf text names es → AreSorted es sorted

abbrev pub TellsSecond : List ℕ → List NameSpan → Option declared.Flaw → Type 0
TellsSecond text names f = (es : List Entry) → AreNamesOf text names es → option_map flaw_view f ≡ names_flaw [] es
