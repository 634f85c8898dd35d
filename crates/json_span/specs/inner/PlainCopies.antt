-- What values of a text are without their places, one after another.
use Rattle.std.specs.Prelude.{List, [], ◌∷◌}
use Rattle.json_span.specs.Tree.{Placed, Entry}
use Rattle.json_span.specs.Says.{plain_of}
use Rattle.json_span.specs.PlainView as plain
use Rattle.json_span.specs.PlainView.{Value, as_spelled}

abbrev pub plain_each : List Placed → List Value
plain_each [] = []
plain_each (n ∷ ns) = plain_of as_spelled n ∷ plain_each ns

abbrev pub plain_entry : Entry → plain.ValueEntry
plain_entry e = record { name = e.name; value = plain_of as_spelled e.value }

abbrev pub plain_entries : List Entry → List plain.ValueEntry
plain_entries [] = []
plain_entries (e ∷ es) = plain_entry e ∷ plain_entries es
