-- What the parts of a resolver are seen as.
use Rattle.std.specs.Prelude.{List, map}
use Rattle.json_span.specs.View.{ref_view}
use Rattle.resolver_doc.specs.declared.written.WrittenSource.{WrittenSource}
use Rattle.resolver_doc.specs.declared.written.WrittenSource.TheVariants.{File, SetRef, Inline}
use Rattle.resolver_doc.specs.declared.written.SetDef.{SetDef}
use Rattle.resolver_doc.specs.declared.written.Item.{Item}
use Rattle.resolver_doc.specs.declared.written.Item.TheVariants.{Set, Modifier}
use Rattle.resolver_doc.specs.Document.{SourceData, file_source, set_source, inline_source, SetData, ItemData, set_item, modifier_item}

abbrev pub source_view : WrittenSource → SourceData
source_view (File name start end) = file_source name start end
source_view (SetRef name number) = set_source name number
source_view (Inline node) = inline_source (ref_view node)

abbrev pub sources_view : List WrittenSource → List SourceData
sources_view sources = map source_view sources

abbrev pub set_view : SetDef → SetData
set_view s = record { name = s.name; sources = sources_view s.sources }

abbrev pub sets_view : List SetDef → List SetData
sets_view sets = map set_view sets

abbrev pub item_view : Item → ItemData
item_view (Set sources) = set_item (sources_view sources)
item_view (Modifier name contexts default) = modifier_item name (sets_view contexts) default

abbrev pub order_view : List Item → List ItemData
order_view items = map item_view items
