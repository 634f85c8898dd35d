-- The numbers of permutations and of their sources, item by item.
use Rattle.std.specs.Prelude.{ℕ, List, length, map}
use Rattle.std.specs.List.{sum_by}
use Rattle.resolver_doc.specs.Document.{SourceData, SetData, ItemData}
use Rattle.permutations.specs.Permutation.{picks, sources_from, greatest}

-- how many sources a list of sources comes to
abbrev pub source_count : List SetData → List SourceData → ℕ
source_count sets sources = length (sources_from sets sources)

-- the greatest number of sources that a pick from the item comes to
abbrev pub item_most : List SetData → ItemData → ℕ
item_most sets item = greatest (map (λ p. source_count sets p.sources) (picks item))

-- the sum of these numbers
abbrev pub order_most : List SetData → List ItemData → ℕ
order_most sets order = sum_by (item_most sets) order
