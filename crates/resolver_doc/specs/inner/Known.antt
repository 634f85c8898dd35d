-- The sets and the modifiers that are known.
use Rattle.std.specs.Prelude.{List, map}
use Rattle.json_span.specs.Tree.{Entry}
use Rattle.json_span.specs.View.{field_view}
use Rattle.json_span.specs.declared.fields.Field.{Field}
use Rattle.resolver_doc.specs.declared.known.Known.{Known}

abbrev pub entries_of_fields : List Field → List Entry
entries_of_fields fields = map field_view fields

abbrev pub known_sets : Known → List Entry
known_sets k = entries_of_fields k.sets.items

abbrev pub known_modifiers : Known → List Entry
known_modifiers k = entries_of_fields k.modifiers.items
